-- What the loader, the sheet opener, the whole radius, the preview, the writer and the reader give, by its meaning (01, "Cutting radius and
-- preview", "Description, sheet, record"); what the engine gives is said by demands 2 and 3. It is shown in proofs/Values.antt, over the definitions
-- that the contracts of the public calls cite.
--
--   glyph_bytes s k     == the calls `glyph` and `part`, one after the other: glyph k of the sheet s, as its part of the sheet
--   IsPart s k bs      == bs is the part of s that pair k of its directory says
--   LeastRadius d r    == r is the least whole number with r²E² greater than S
--   RoundedOnce z e v  == v is z/e, one division rounded once of numbers converted without loss, and a finite number
--   PreviewIsRight d p == p is the preview of the disk d: no value is a NaN, each centre value is the fraction itself rounded once, R is exact
--   bits p             == the bits of a preview's three values
--   shown_by bs         == the floats whose bits these are
--   Values             == what is given is this, and nothing else is
use Rattle.std.specs.Prelude.{◌≡◌, ◌↔◌, false, List, [], ◌∷◌, ◌++◌, ℕ, ◌*◌, ◌≤◌, ◌<◌, T, ℤ, pos, nat_abs, length, drop, Float}
use Rattle.std.specs.Float.{binary64}
use Rattle.std.specs.Float.Ieee.{div, round, of_int, to_bits, of_bits}
use Rattle.std.specs.Float.Ieee.Exact.{HasValue}
use Rattle.std.specs.Float.Ieee.Scale.{finite}
use Rattle.answers.specs.Outcome.{Outcome, given, and_then}
use Rattle.geometry.specs.declared.Point.{Point}
use Rattle.geometry.specs.Plane.{Disk}
use Rattle.geometry.specs.Points.{flat}
use Rattle.description.specs.Description.{named, load_of, list_after}
use Rattle.directory.specs.Directory.{pair}
use Rattle.sheet.specs.Sheet.{glyph_of, part_of}
use Rattle.belonging.specs.Belonging.{Belong}
use Rattle.record_writer.specs.Bytes.{record_bytes}
use Rattle.radius.specs.Radius.{radius_of}
use Rattle.record_reader.specs.Reading.{read_of}
use Rattle.record_writer.specs.Writing.{write_of, buffer_after}
use Rattle.preview.specs.declared.Preview.{Preview}
use Rattle.preview.specs.Preview.{negative, preview_of}
use Rattle.rules.specs.Row.{AllKept, GoesBy}
use Rattle.rules.specs.Rules.{Bytes, loader_row, sheet_row, Recordable, IsRecordOf}

-- ---- a glyph

abbrev pub glyph_bytes : List ℕ → ℕ → Outcome (List ℕ)
glyph_bytes s k = and_then (glyph_of s k) (λ p. given (part_of s p.start p.len))

pub record IsPart (s : List ℕ) (k : ℕ) (bs : List ℕ) : Type 0 where
  pub front : List ℕ
  pub back : List ℕ
  pub parted : s ≡ front ++ (bs ++ back)
  pub starts : length front ≡ (pair s k).start
  pub long : length bs ≡ (pair s k).len

-- ---- the whole radius (01: the cutting radius)

-- "the least whole R with R²E² greater than S" (02, item 3; what it says of the points: requests/specs/CutKeepsOff.antt)
pub record LeastRadius (d : Disk) (r : ℕ) : Type 0 where
  pub clears : d.s < r * r * (d.e * d.e)
  pub least : (q : ℕ) → d.s < q * q * (d.e * d.e) → r ≤ q

-- ---- the preview

pub record RoundedOnce (z : ℤ) (e : ℕ) (v : Float) : Type 0 where
  -- "numbers converted without loss"
  pub over : HasValue (of_int binary64 z) (negative z) (nat_abs z) 1
  pub under : HasValue (of_int binary64 (pos e)) false e 1
  -- "one division"
  pub divided : v ≡ div binary64 (of_int binary64 z) (of_int binary64 (pos e))
  -- "rounded once": it is the fraction |z|/e itself, with z's sign, that is rounded
  pub once : v ≡ round binary64 (negative z) (nat_abs z) e
  -- no NaN, and no infinity
  pub is_finite : T (finite v)

pub record PreviewIsRight (d : Disk) (p : Preview) : Type 0 where
  pub x_rounded : RoundedOnce d.x d.e p.x
  pub y_rounded : RoundedOnce d.y d.e p.y
  -- "and R converted without loss"
  pub whole : ℕ
  pub is_least : LeastRadius d whole
  pub radius_converted : p.radius ≡ of_int binary64 (pos whole)
  pub radius_exact : HasValue p.radius false whole 1
  pub radius_finite : T (finite p.radius)

-- "Previews are compared by the bits of their three values"
abbrev pub bits : Preview → List ℕ
bits p = to_bits binary64 p.x ∷ to_bits binary64 p.y ∷ to_bits binary64 p.radius ∷ []

abbrev pub shown_by : List ℕ → List Float
shown_by [] = []
shown_by (b ∷ bs) = of_bits binary64 b ∷ shown_by bs

pub record Values : Type 0 where
  -- "writes the corners in file order at the front of the lent list, leaves the rest, and returns how many"
  pub loader : (t : List ℕ) (l : List ℤ) (n : ℕ) → (load_of t l ≡ given n) ↔ (AllKept (loader_row t l) × (n ≡ length (named t)))
  pub loader_list : (t : List ℕ) (l : List ℤ) (n : ℕ) → load_of t l ≡ given n → list_after t l ≡ flat (named t) ++ drop (2 * n) l
  -- "Glyph k, from 0, is returned as its part of the sheet"
  pub glyph_refusals : (s : List ℕ) (k : ℕ) → GoesBy (sheet_row s k) (glyph_bytes s k)
  pub glyph : (s : List ℕ) (k : ℕ) (bs : List ℕ) → (glyph_bytes s k ≡ given bs) ↔ (AllKept (sheet_row s k) × IsPart s k bs)
  -- a record is read as the disk and the points whose record its bytes are
  pub reader :
      (bs : List ℕ) → Bytes bs → (d : Disk) (ps : List Point)
      → (read_of bs ≡ given (d, ps)) ↔ (IsRecordOf d ps bs × Belong d ps)
  -- "The writer fills the first 44 bytes and leaves the rest": 53 by 02, item 10
  pub writer :
      (d : Disk) (ps : List Point) (b : List ℕ) → write_of d ps b ≡ given tt
      → (length (record_bytes d ps) ≡ 53) × (buffer_after d ps b ≡ record_bytes d ps ++ drop 53 b)
  -- "the cutting radius is the least whole R with R²E² greater than S" (02, item 3)
  pub radius : (d : Disk) (ps : List Point) (r : ℕ) → (radius_of d ps ≡ given r) ↔ (Recordable d ps × Belong d ps × LeastRadius d r)
  -- "The preview is three f64 values: .."
  pub preview : (d : Disk) (ps : List Point) (p : Preview) → (preview_of d ps ≡ given p) ↔ (Recordable d ps × Belong d ps × PreviewIsRight d p)
  -- the bits are the values': read back they are these
  pub preview_bits : (d : Disk) (ps : List Point) (p : Preview) → preview_of d ps ≡ given p → shown_by (bits p) ≡ p.x ∷ p.y ∷ p.radius ∷ []
  -- so two previews are equal exactly where their bits are
  pub previews_compared :
      (d e : Disk) (ps qs : List Point) (p q : Preview) → preview_of d ps ≡ given p → preview_of e qs ≡ given q → (bits p ≡ bits q) ↔ (p ≡ q)
