-- `support::next_needed` meets its contract: no point that is passed by is needed.
use mathlib.Core.Path.{◌≡◌}
use mathlib.Core.Bool.{false}
use Prim.Native.Nat.{ℕ, ◌≤◌, ◌<◌}
use Rattle.geometry.specs.Plane.{numbers}
use Rattle.geometry.specs.Points.{point_at}
use Rattle.support.specs.Needed.{needed}
use Rattle.support.proofs.next_needed.Given as goal

abbrev pub invariant-loop-k : goal.invariant-loop-k
invariant-loop-k l = (j : ℕ) → l.i ≤ j → j < l.k → needed (numbers l.disk) l.span (point_at l.list j) ≡ false
