-- The floats and points of specs/Drawings.antt.
--
--   floats_read     : each float stands for its number, or for none
--   points_appended : the call answers so for each point
--   f_from_drawing  : letter F, its last point from a drawing program
use mathlib.Core.Path.{◌≡◌, refl}
use mathlib.Core.Bool.{false, not}
use mathlib.Core.List.{List}
use Prim.Native.Nat.{ℕ, suc, ◌≤◌}
use native.Mathlib.Omega.{arith}
use borrow.Author.Tests.{le-ltb}
use lib.Dec.{leb, ltb}
use lib.IntN.{ℤ}
use lib.ListN.{length}
use lib.Ieee.{of_bits}
use Rattle.answers.specs.Outcome.{Outcome, given, refuse_if, and_then}
use Rattle.geometry.specs.declared.Point.{Point}
use Rattle.geometry.specs.EmBox.{in_box, in_em_box}
use Rattle.geometry.specs.Points.{flat}
use Rattle.whole_floats.specs.Whole.{whole_of}
use Rattle.drawn_points.specs.declared.DrawnPoint.{DrawnPoint}
use Rattle.drawn_points.specs.Appending.{place_of, taken_of}
use Rattle.letters_to_try.specs.Letters.{at}
use Rattle.letters_to_try.proofs.Letters.{◌&◌}
use Rattle.letters_to_try.specs.Drawings.{floats, AllRead, Append, Appends, appends, AllAppend, first_of_f, CompletesF, FromDrawing}

pub floats_read : AllRead floats
unfolding whole_of of_bits
floats_read = refl & refl & refl & refl & refl & refl & refl & refl & refl & refl & refl & refl & refl & refl & refl & refl & refl & refl & refl & refl & tt

-- the checks behind 8
abbrev checked : DrawnPoint → ℕ → Outcome ℕ
checked p n =
    and_then (and_then (place_of p) (λ (c : Point). refuse_if (not (in_em_box c)) 3 (refuse_if (leb 4096 n) 4 (given c)))) (λ c. given (suc n))

answered : (a : Append) → checked a.point a.there ≡ a.answer → Appends a
unfolding taken_of
answered a h = record { answers = λ l long. rw (le-ltb (length l) 8192 long) h }

pub points_appended : AllAppend appends
unfolding whole_of of_bits in_box
points_appended =
    answered _ refl
    & answered _ refl
    & answered _ refl
    & answered _ refl
    & answered _ refl
    & answered _ refl
    & answered _ refl
    & answered _ refl
    & answered _ refl
    & answered _ refl
    & answered _ refl
    & answered _ refl
    & tt

-- ---- letter F

completes : (p : DrawnPoint) → place_of p ≡ given (at 2 3) → CompletesF p
unfolding taken_of flat in_box
completes p h = record { number = λ rest l. rw (room rest l, h); list = λ rest l. rw (room rest l, h) }
  where
    room : (rest : List ℤ) → 8188 ≤ length rest → ltb (length (first_of_f rest)) 8192 ≡ false
    room rest l = le-ltb (length (first_of_f rest)) 8192 (omega arith)

pub f_from_drawing : FromDrawing
unfolding whole_of of_bits
f_from_drawing = record { in_whole_numbers = completes _ refl; in_floats = completes _ refl }
