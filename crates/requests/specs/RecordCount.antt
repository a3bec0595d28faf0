-- Document 02, item 4: the count of points (rim count) written in the record. This is said over the definitions that the contracts of the public calls
-- cite; that the reader takes the records of valid disks and points alone is `reader` of claims/specs/Values.antt. Shown in proofs/RecordCount.antt.
--
--   Counted n bs ps == bs are n bytes, and the last is the number of the points ps: 1, 2 or 3
--   RecordCount     == all that item 4 says
use Rattle.std.specs.Prelude.{◌≡◌, ◌↔◌, ◌⊎◌, List, [], ◌∷◌, ◌++◌, ℕ, ◌-◌, ◌≤◌, ◌<◌, ℤ, length, get_or, take}
use Rattle.answers.specs.Outcome.{given, refused}
use Rattle.geometry.specs.declared.Point.{Point}
use Rattle.geometry.specs.EmBox.{old_em}
use Rattle.geometry.specs.Plane.{Disk}
use Rattle.belonging.specs.Belonging.{Belong}
use Rattle.record_writer.specs.Layout.{s_width, old_s_width, first_at, second_at, third_at}
use Rattle.record_writer.specs.Bytes.{disk_bytes, points_bytes, made_three}
use Rattle.record_writer.specs.Writing.{write_of, buffer_after}
use Rattle.record_reader.specs.Reading.{point_in, read_of}
use Rattle.letter.specs.Letter.{letter_in}
use Rattle.letter.specs.Letter as letter
use Rattle.rules.specs.Rules.{RecordableIn, Recordable}
use Rattle.claims.specs.Demand3.{Answers, worked, WorkedOut}

pub record Counted (n : ℕ) (bs : List ℕ) (ps : List Point) : Type 0 where
  pub long : length bs ≡ n
  pub last : get_or bs (n - 1) 0 ≡ length ps
  pub some : 1 ≤ length ps
  pub most : length ps ≤ 3

pub record RecordCount : Type 0 where
  -- "The record gets a .. byte at its end: 1, 2 or 3": the 53rd by item 10; in the records of 45 bytes that are still read, the 45th
  pub writer : (d : Disk) (ps : List Point) (b : List ℕ) → write_of d ps b ≡ given tt → Counted 53 (take 53 (buffer_after d ps b)) ps
  pub reader : (bs : List ℕ) (d : Disk) (ps : List Point) → read_of bs ≡ given (d, ps) → Counted 53 bs ps ⊎ Counted 45 bs ps
  -- "Readers on the press had to work out from repeats how many corners were meant": the points meant are the first of the three, as many as it says
  pub meant :
      (bs : List ℕ) (d : Disk) (ps : List Point) → read_of bs ≡ given (d, ps) → length bs ≡ 53
      → ps ≡ take (get_or bs 52 0) (point_in (first_at s_width) bs ∷ point_in (second_at s_width) bs ∷ point_in (third_at s_width) bs ∷ [])
  pub old_meant :
      (bs : List ℕ) (d : Disk) (ps : List Point) → read_of bs ≡ given (d, ps) → length bs ≡ 45
      → ps ≡ take (get_or bs 44 0) (point_in (first_at old_s_width) bs ∷ point_in (second_at old_s_width) bs ∷ point_in (third_at old_s_width) bs ∷ [])
  -- "A count that disagrees with the repeats is refused as 7": every other byte in its place
  pub disagrees :
      (d : Disk) (ps : List Point) → Recordable d ps → (k : ℕ) → k < 256 → (k ≡ length ps → ⊥)
      → read_of (disk_bytes s_width d ++ points_bytes (made_three ps) ++ (k ∷ [])) ≡ refused 7
  pub old_disagrees :
      (d : Disk) (ps : List Point) → RecordableIn old_em d ps → (k : ℕ) → k < 256 → (k ≡ length ps → ⊥)
      → read_of (disk_bytes old_s_width d ++ points_bytes (made_three ps) ++ (k ∷ [])) ≡ refused 7
  -- "as is any other length"
  pub other_length : (bs : List ℕ) → (length bs ≡ 53 → ⊥) → (length bs ≡ 45 → ⊥) → read_of bs ≡ refused 7
  -- "the writer's buffer must have" the record's bytes: that is enough; a shorter one is refused as 8, and unchanged
  pub room : (d : Disk) (ps : List Point) (b : List ℕ) → Recordable d ps → Belong d ps → (write_of d ps b ≡ given tt) ↔ (53 ≤ length b)
  pub no_room : (d : Disk) (ps : List Point) (b : List ℕ) → length b < 53 → (write_of d ps b ≡ refused 8) × (buffer_after d ps b ≡ b)
  -- so in the call from a description to its record
  pub letter_no_room : (t b : List ℕ) → length b < 53 → (letter_in t b ≡ refused 8) × (letter.buffer_after (letter_in t b) b ≡ b)
  -- "Equality of records between descriptions is of" all bytes: those that demand 3 says are equal, and the records worked out that it compares
  pub description : (t : List ℕ) (l : List ℤ) (b : List ℕ) (a : Answers) → worked t l b ≡ given a → Counted 53 a.bytes a.support
  pub worked_out : (l : List ℤ) (bs : List ℕ) (w : WorkedOut l bs) → Counted 53 bs w.answer.support
