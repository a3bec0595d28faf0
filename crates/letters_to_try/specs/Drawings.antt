-- Floats by their bits, and points from a drawing program (02, item 2). Shown in proofs/Drawings.antt.
--
--   float b       == the float whose bits are b
--   floats        == bits of floats, and the whole numbers that they stand for, or 11
--   Appends a     == the call, lent any list that is long enough, answers so for the point behind so many points
--   appends       == points, and what the call answers: 11 before 3 before 4
--   first_of_f rest == a list that begins with the first two points of letter F
--   CompletesF p  == with p put behind them, the engine is given letter F's list
use Rattle.std.specs.Prelude.{◌≡◌, List, [], ◌∷◌, ℕ, ◌*◌, ◌-◌, ◌^◌, ◌≤◌, ℤ, pos, neg_ℤ, length, take, Float}
use Rattle.std.specs.Float.{binary64}
use Rattle.std.specs.Float.Ieee.{of_bits}
use Rattle.answers.specs.Outcome.{Outcome, given, refused}
use Rattle.geometry.specs.Points.{flat}
use Rattle.whole_floats.specs.Whole.{whole_of}
use Rattle.drawn_points.specs.declared.DrawnPoint.{DrawnPoint}
use Rattle.drawn_points.specs.declared.DrawnPoint.TheVariants.{Whole, Drawn}
use Rattle.drawn_points.specs.Appending.{append_of, list_after}
use Rattle.letters_to_try.specs.Letters.{at}

abbrev pub float : ℕ → Float
float b = of_bits binary64 b

-- ---- floats

pub record Reading : Type 0 where
  pub bits : ℕ
  pub number : Outcome ℤ

abbrev pub reads : ℕ → Outcome ℤ → Reading
reads b o = record { bits = b; number = o }

abbrev pub AllRead : List Reading → Type 0
AllRead [] = Unit {0}
AllRead (r ∷ rs) = (whole_of (float r.bits) ≡ r.number) × AllRead rs

abbrev pub floats : List Reading
floats =
    -- 1, 1000 and −250; 0 and minus zero
    reads 0x3ff0_0000_0000_0000 (given (pos 1))
    ∷ reads 0x408f_4000_0000_0000 (given (pos 1000))
    ∷ reads 0xc06f_4000_0000_0000 (given (neg_ℤ (pos 250)))
    ∷ reads 0 (given (pos 0))
    ∷ reads 0x8000_0000_0000_0000 (given (pos 0))
    -- 0.5, −1.5, the float below 1000, the least subnormal and the least normal float
    ∷ reads 0x3fe0_0000_0000_0000 (refused 11)
    ∷ reads 0xbff8_0000_0000_0000 (refused 11)
    ∷ reads 0x408f_3fff_ffff_ffff (refused 11)
    ∷ reads 1 (refused 11)
    ∷ reads 0x0010_0000_0000_0000 (refused 11)
    -- the largest float with a fraction, 2^52 − 1/2; 2^53, 2^63, −2^63, 1e300 and the largest float are whole
    ∷ reads 0x432f_ffff_ffff_ffff (refused 11)
    ∷ reads 0x4340_0000_0000_0000 (given (pos (2 ^ 53)))
    ∷ reads 0x43e0_0000_0000_0000 (given (pos (2 ^ 63)))
    ∷ reads 0xc3e0_0000_0000_0000 (given (neg_ℤ (pos (2 ^ 63))))
    ∷ reads 0x7e37_e43c_8800_759c (given (pos (0x17_e43c_8800_759c * 2 ^ 944)))
    ∷ reads 0x7fef_ffff_ffff_ffff (given (pos ((2 ^ 53 - 1) * 2 ^ 971)))
    -- both infinities; NaNs, quiet and signalling, of both signs
    ∷ reads 0x7ff0_0000_0000_0000 (refused 11)
    ∷ reads 0xfff0_0000_0000_0000 (refused 11)
    ∷ reads 0x7ff8_0000_0000_0000 (refused 11)
    ∷ reads 0xfff0_0000_0000_0001 (refused 11)
    ∷ []

-- ---- points

pub record Append : Type 0 where
  pub point : DrawnPoint
  pub there : ℕ
  pub answer : Outcome ℕ

pub record Appends (a : Append) : Type 0 where
  pub answers : (l : List ℤ) → 8192 ≤ length l → append_of a.point l a.there ≡ a.answer

abbrev pub AllAppend : List Append → Type 0
AllAppend [] = Unit {0}
AllAppend (a ∷ rest) = Appends a × AllAppend rest

abbrev pub whole : ℤ → ℤ → ℕ → Outcome ℕ → Append
whole x y n o = record { point = Whole x y; there = n; answer = o }

abbrev pub drawn : ℕ → ℕ → ℕ → Outcome ℕ → Append
drawn x y n o = record { point = Drawn (float x) (float y); there = n; answer = o }

abbrev pub appends : List Append
appends =
    -- (2048, −512), in whole numbers and in floats; both zeros minus
    whole (pos 2048) (neg_ℤ (pos 512)) 0 (given 1)
    ∷ drawn 0x40a0_0000_0000_0000 0xc080_0000_0000_0000 4095 (given 4096)
    ∷ drawn 0x8000_0000_0000_0000 0x8000_0000_0000_0000 7 (given 8)
    -- 4 when 4,096 or more are there
    ∷ whole (pos 2048) (pos 1536) 4096 (refused 4)
    ∷ drawn 0 0 (2 ^ 64 - 1) (refused 4)
    -- 3 before 4
    ∷ whole (pos 2049) (pos 0) 4096 (refused 3)
    ∷ whole (pos 0) (neg_ℤ (pos 513)) 0 (refused 3)
    ∷ drawn 0x7e37_e43c_8800_759c 0 4096 (refused 3)
    -- 11 before 3: (NaN, 5000), (5000, 0.5), (infinity, 0), (0, 5e−324)
    ∷ drawn 0x7ff8_0000_0000_0000 0x40b3_8800_0000_0000 0 (refused 11)
    ∷ drawn 0x40b3_8800_0000_0000 0x3fe0_0000_0000_0000 4096 (refused 11)
    ∷ drawn 0x7ff0_0000_0000_0000 0 4096 (refused 11)
    ∷ drawn 0 1 0 (refused 11)
    ∷ []

-- ---- letter F, its last point from a drawing program

abbrev pub first_of_f : List ℤ → List ℤ
first_of_f rest = pos 0 ∷ pos 0 ∷ pos 4 ∷ pos 0 ∷ rest

pub record CompletesF (p : DrawnPoint) : Type 0 where
  pub number : (rest : List ℤ) → 8188 ≤ length rest → append_of p (first_of_f rest) 2 ≡ given 3
  pub list : (rest : List ℤ) → 8188 ≤ length rest → take 6 (list_after p (first_of_f rest) 2) ≡ flat (at 0 0 ∷ at 4 0 ∷ at 2 3 ∷ [])

-- (2, 3), in whole numbers and in floats
pub record FromDrawing : Type 0 where
  pub in_whole_numbers : CompletesF (Whole (pos 2) (pos 3))
  pub in_floats : CompletesF (Drawn (float 0x4000_0000_0000_0000) (float 0x4008_0000_0000_0000))
