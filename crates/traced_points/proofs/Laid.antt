-- The corners of all squares of an accepted list, as a list for the procedure.
--
--   laid_given  : laid out they are a list that the procedure takes
use mathlib.Core.Path.{◌≡◌, ap, ◌∙◌}
use mathlib.Core.List.{List}
use Prim.Native.Nat.{◌*◌, ◌/◌}
use native.Mathlib.Omega.{arith}
use lib.IntN.{ℤ}
use lib.ListN.{length}
use Rattle.geometry.specs.EmBox.{all_in_em_box}
use Rattle.geometry.specs.Points.{points}
use Rattle.geometry.proofs.EmBox.{members_box}
use Rattle.welzl.specs.WholeList.{AllGiven}
use Rattle.engine.proofs.Checks.{some_length}
use Rattle.tracings.specs.Squares.{traced, all_corners}
use Rattle.square_corners.proofs.FourCorners.{corners-boxed}
use Rattle.traced_points.specs.Checks.{Accepted}

pub laid_given : (l m : List ℤ) → Accepted l → length m ≡ 8 * (length l / 3) → points m ≡ all_corners (traced l) → AllGiven m
laid_given l m a h e = record {
  even = omega arith;
  some = omega (arith, some_length l a.some, a.threes);
  few = omega (arith, a.few);
  boxed = ap all_in_em_box e ∙ members_box (all_corners (traced l)) (corners-boxed (traced l) (λ s i. (a.each s i).boxed));
}
