-- Previews by the bits of their three values, and bits with the numbers that they are read as (02, item 14). Shown in proofs/Previews.antt.
--
--   Overlay           == a disk, its points, and the bits of its preview's x, y and radius
--   overlays          == letters, a centre below 0, one at the edge of the em box, and one whose y is off by nearly 2⁻⁴³
--   AllOverlaid vs    == each has these bits
--   readings          == bits, and the number that they are read as; none for infinities and NaNs
--   AllReadAs rs      == each is read so
use Rattle.std.specs.Prelude.{◌≡◌, List, [], ◌∷◌, ℕ, ◌+◌, ◌-◌, ◌^◌, ℤ, pos, negsuc, neg_ℤ}
use Rattle.std.proofs.Math.Option.{Option, none, some}
use Rattle.answers.specs.Outcome.{given, and_then}
use Rattle.geometry.specs.declared.Point.{Point}
use Rattle.geometry.specs.Plane.{Disk}
use Rattle.preview.specs.Preview.{preview_of}
use Rattle.claims.specs.Values.{bits}
use Rattle.preview_claims.specs.Reading.{Dyadic, read_bits}
use Rattle.letters_to_try.specs.Letters.{at, below, disk}

pub record Overlay : Type 0 where
  pub numbers : Disk
  pub points : List Point
  pub values : List ℕ

abbrev pub overlay : Disk → List Point → ℕ → ℕ → ℕ → Overlay
overlay d ps x y r = record { numbers = d; points = ps; values = x ∷ y ∷ r ∷ [] }

abbrev pub AllOverlaid : List Overlay → Type 0
AllOverlaid [] = Unit {0}
AllOverlaid (v ∷ vs) = (and_then (preview_of v.numbers v.points) (λ p. given (bits p)) ≡ given v.values) × AllOverlaid vs

abbrev pub overlays : List Overlay
overlays =
    -- letters A, B and F
    overlay (disk 0 0 1 0) (at 0 0 ∷ []) 0 0 0x3ff0_0000_0000_0000
    ∷ overlay (disk 3 0 2 9) (at 0 0 ∷ at 3 0 ∷ []) 0x3ff8_0000_0000_0000 0 0x4000_0000_0000_0000
    ∷ overlay (disk 12 5 6 169) (at 0 0 ∷ at 2 3 ∷ at 4 0 ∷ []) 0x4000_0000_0000_0000 0x3fea_aaaa_aaaa_aaab 0x4008_0000_0000_0000
    -- letter F upside down
    ∷ overlay (record { x = pos 12; y = negsuc 4; e = 6; s = 169 }) (at 0 0 ∷ below 2 2 ∷ at 4 0 ∷ [])
    0x4000_0000_0000_0000 0xbfea_aaaa_aaaa_aaab 0x4008_0000_0000_0000
    -- the corner of the em box: 2048 is a float
    ∷ overlay (disk 2048 1536 1 0) (at 2048 1536 ∷ []) 0x40a0_0000_0000_0000 0x4098_0000_0000_0000 0x3ff0_0000_0000_0000
    -- y is off by 2⁻⁴³ but for one part in 3,289,261
    ∷ overlay (disk 6_831_746_991 6_749_975_579 6_578_522 55_181_473_334_174_599_850) (at 31 1536 ∷ below 1156 96 ∷ at 2048 1532 ∷ [])
    0x4090_39f8_830c_bdb2 0x4090_0840_21d8_a66e 0x4091_a800_0000_0000
    ∷ []

pub record Reading : Type 0 where
  pub pattern : ℕ
  pub number : Option Dyadic

-- w · 2^p
abbrev pub reads : ℕ → ℤ → ℤ → Reading
reads b w p = record { pattern = b; number = some (record { whole = w; power = p }) }

abbrev pub no_number : ℕ → Reading
no_number b = record { pattern = b; number = none }

abbrev pub AllReadAs : List Reading → Type 0
AllReadAs [] = Unit {0}
AllReadAs (r ∷ rs) = (read_bits r.pattern ≡ r.number) × AllReadAs rs

abbrev pub readings : List Reading
readings =
    -- 1, −1.5, and the float nearest to 5/6
    reads 0x3ff0_0000_0000_0000 (pos (2 ^ 52)) (neg_ℤ (pos 52))
    ∷ reads 0xbff8_0000_0000_0000 (neg_ℤ (pos (2 ^ 52 + 2 ^ 51))) (neg_ℤ (pos 52))
    ∷ reads 0x3fea_aaaa_aaaa_aaab (pos 7_505_999_378_950_827) (neg_ℤ (pos 53))
    -- 0 and minus zero; the least float above 0, the least with a 1 before its fraction, and the largest
    ∷ reads 0 (pos 0) (neg_ℤ (pos 1074))
    ∷ reads 0x8000_0000_0000_0000 (pos 0) (neg_ℤ (pos 1074))
    ∷ reads 1 (pos 1) (neg_ℤ (pos 1074))
    ∷ reads 0x0010_0000_0000_0000 (pos (2 ^ 52)) (neg_ℤ (pos 1074))
    ∷ reads 0x7fef_ffff_ffff_ffff (pos (2 ^ 53 - 1)) (pos 971)
    -- both infinities, a NaN
    ∷ no_number 0x7ff0_0000_0000_0000
    ∷ no_number 0xfff0_0000_0000_0000
    ∷ no_number 0x7ff8_0000_0000_0000
    ∷ []
