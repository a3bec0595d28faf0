-- Document 02, item 10: the 2,048 em, over the definitions that the contracts of the public calls cite. "Smallest, count and equality are claimed within the
-- wider box": demands 2 and 3 (claims/specs) are of every list that the engine accepts, and demand 1 has the rows of refusals. "The writer writes 53 only,
-- into a buffer of at least 53": `writer` of claims/specs/Values.antt, `room` and `no_room` of requests/specs/RecordCount.antt. Shown in proofs/WiderEm.antt.
--
--   InRange lo z hi == lo ≤ z ≤ hi
--   widened bs      == the 53-byte form of a record of 45 bytes: in front of S, which begins at byte 24, stand eight bytes more, all 0
--   Layout w f      == f writes X, Y and E in 8 bytes each, S in w, three points and their count
--   OldRecord bs    == bs are the 45 bytes of a disk and points that keep to the old limits
--   WiderEm         == all that item 10 says
use Rattle.std.specs.Prelude.{◌≡◌, ◌↔◌, List, [], ◌∷◌, ◌++◌, ℕ, ◌*◌, ◌^◌, ◌≤◌, ℤ, pos, negsuc, ◌*ℤ◌, length, take, drop}
use Rattle.answers.specs.Outcome.{given, refused}
use Rattle.integers.specs.Order.{◌≼◌}
use Rattle.big_endian.specs.Fields.{bytes_of}
use Rattle.geometry.specs.declared.Point.{Point}
use Rattle.geometry.specs.EmBox.{em, old_em, Inside, WithinLimits}
use Rattle.geometry.specs.Plane.{Disk}
use Rattle.geometry.specs.Points.{points}
use Rattle.point_lists.specs.Sets.{In}
use Rattle.engine.specs.Engine.{Enclosure, enclose_of}
use Rattle.traced_points.specs.Traced.{traced_of}
use Rattle.belonging.specs.Belonging.{Belong}
use Rattle.record_writer.specs.Bytes.{signed, points_bytes, made_three, count_bytes, record_bytes, old_record_bytes}
use Rattle.record_writer.specs.Writing.{write_of, buffer_after}
use Rattle.record_reader.specs.Reading.{read_of}
use Rattle.rules.specs.Rules.{Bytes, RecordableIn}

abbrev pub InRange : ℤ → ℤ → ℤ → Type 0
InRange lo z hi = (lo ≼ z) × (z ≼ hi)

abbrev pub widened : List ℕ → List ℕ
widened bs = take 24 bs ++ (0 ∷ 0 ∷ 0 ∷ 0 ∷ 0 ∷ 0 ∷ 0 ∷ 0 ∷ []) ++ drop 24 bs

abbrev pub Layout : ℕ → (Disk → List Point → List ℕ) → Type 0
Layout w f =
    (d : Disk) (ps : List Point)
    → f d ps ≡ signed 8 d.x ++ signed 8 d.y ++ bytes_of 8 d.e ++ bytes_of w d.s ++ points_bytes (made_three ps) ++ count_bytes ps

pub record OldRecord (bs : List ℕ) : Type 0 where
  pub disk : Disk
  pub support : List Point
  pub recordable : RecordableIn old_em disk support
  pub bytes : bs ≡ old_record_bytes disk support

pub record WiderEm : Type 0 where
  -- "The em box becomes x 0 to 2048 and y −512 to 1536"
  pub box : (p : Point) → Inside em p ↔ (InRange (pos 0) p.x (pos 2048) × InRange (negsuc 511) p.y (pos 1536))
  -- "E goes to 8,388,608 and S/E² to 2,097,152": what a disk's limits are, and that the answers keep to them, "traced .. corners follow" (chosen ones:
  -- `e_most` of requests/specs/ChosenPoints.antt)
  pub limits :
      (d : Disk)
      → WithinLimits em d
      ↔ ((d.e ≤ 8388608) × (d.s ≤ 2097152 * (d.e * d.e))
      × InRange (pos 0 *ℤ pos d.e) d.x (pos 2048 *ℤ pos d.e) × InRange (negsuc 511 *ℤ pos d.e) d.y (pos 1536 *ℤ pos d.e))
  pub engine : (l : List ℤ) (e : Enclosure) → enclose_of l ≡ given e → WithinLimits em e.disk
  pub traced : (l : List ℤ) (d : Disk) → traced_of l ≡ given d → WithinLimits em d
  -- "S no longer fits 64 bits, so it is held and stored in 16 bytes": 67 bits are enough for a disk within the limits
  pub s_most : (d : Disk) → WithinLimits em d → d.s ≤ 2 ^ 67
  -- "and the record has 53" bytes, of which 16 are S
  pub layout : Layout 16 record_bytes
  -- "The reader still takes 45-byte records by the old limits": S has 8 bytes there, and document 01's figures are these
  pub old_layout : Layout 8 old_record_bytes
  pub old_box : (p : Point) → Inside old_em p ↔ (InRange (pos 0) p.x (pos 1000) × InRange (negsuc 249) p.y (pos 750))
  pub old_limits :
      (d : Disk)
      → WithinLimits old_em d
      ↔ ((d.e ≤ 2000000) × (d.s ≤ 500000 * (d.e * d.e))
      × InRange (pos 0 *ℤ pos d.e) d.x (pos 1000 *ℤ pos d.e) × InRange (negsuc 249 *ℤ pos d.e) d.y (pos 750 *ℤ pos d.e))
  -- "with every number as before": it is read as the disk and points whose record it is; 7 where it is none by these limits; then 15
  pub old_read :
      (bs : List ℕ) → Bytes bs → length bs ≡ 45 → (d : Disk) (ps : List Point)
      → (read_of bs ≡ given (d, ps)) ↔ (RecordableIn old_em d ps × Belong d ps × (bs ≡ old_record_bytes d ps))
  pub old_seven : (bs : List ℕ) → Bytes bs → length bs ≡ 45 → (read_of bs ≡ refused 7) ↔ (OldRecord bs → ⊥)
  pub old_fifteen :
      (bs : List ℕ) → Bytes bs → length bs ≡ 45 → (read_of bs ≡ refused 15) ↔ ((r : OldRecord bs) × (Belong r.disk r.support → ⊥))
  -- so the 45 bytes of every letter whose points lie in the old em box are read as its disk and first support set
  pub old_letters :
      (l : List ℤ) (e : Enclosure) → enclose_of l ≡ given e → ((p : Point) → In p (points l) → Inside old_em p)
      → read_of (old_record_bytes e.disk e.support) ≡ given (e.disk, e.support)
  -- "a 45-byte record written again gives the 53-byte form", in any buffer that is long enough; this is read as what the 45 bytes were
  pub old_again :
      (bs : List ℕ) → Bytes bs → length bs ≡ 45 → (d : Disk) (ps : List Point) → read_of bs ≡ given (d, ps)
      → (buf : List ℕ) → 53 ≤ length buf
      → (write_of d ps buf ≡ given tt) × (take 53 (buffer_after d ps buf) ≡ widened bs) × (read_of (widened bs) ≡ given (d, ps))
