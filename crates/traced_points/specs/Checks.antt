-- What the parts of the call ask and promise.
--
--   Checks l r     == r is what the call's checks say of the list l: none refuses it, and the disk of the squares' corners is due; or it is refused so
--   Right s        == t and the square of s keep their rules
--   Accepted l     == the rules for a list of traced points
use Rattle.std.specs.Prelude.{◌≡◌, true, ◌/◌, ◌%◌, ◌≤◌, ℤ, length, Result, Ok, Err}
use mathlib.Core.List.{List, Memᴰ}
use Rattle.answers.specs.Outcome.{given, refused, number_of}
use Rattle.disks.specs.Procedure.{disk_of}
use Rattle.answers.specs.declared.Refusal.{Refusal}
use Rattle.tracings.specs.declared.TracedPoint.{TracedPoint}
use Rattle.tracings.specs.Squares.{traced, all_corners}
use Rattle.square_corners.specs.Laying.{Boxed}
use Rattle.traced_points.specs.Traced.{tolerated, traced_of}

abbrev pub Checks : List ℤ → Result (Unit {0}) Refusal → Type 0
Checks l (Ok u) = traced_of l ≡ given (disk_of (all_corners (traced l)))
Checks l (Err r) = traced_of l ≡ refused (number_of r)

pub record Right (s : TracedPoint) : Type 0 where
  pub range : tolerated s ≡ true
  pub boxed : Boxed s

pub record Accepted (l : List ℤ) : Type 0 where
  pub threes : length l % 3 ≡ 0
  pub some : length l ≡ 0 → ⊥
  pub few : length l / 3 ≤ 1024
  pub each : (s : TracedPoint) → Memᴰ s (traced l) → Right s
