-- `radius::least_clear` meets its contract. The loop's invariant: no circle of a radius below `low` keeps clear, and that of `high` does. The
-- measure is the distance of the two.
use mathlib.Core.Path.{◌≡◌}
use mathlib.Core.Bool.{true, false}
use Prim.Native.Nat.{ℕ, ◌-◌, ◌≤◌, ◌<◌}
use Rattle.geometry.specs.Plane.{numbers}
use Rattle.radius.specs.Radius.{clears, max_radius}
use Rattle.radius.proofs.least_clear.Given as goal

abbrev pub invariant-loop-low : goal.invariant-loop-low
invariant-loop-low l = record {
  ordered : l.low ≤ l.high;
  limited : l.high ≤ max_radius;
  clear : clears (numbers l.d.disk) l.high ≡ true;
  below : (k : ℕ) → k < l.low → clears (numbers l.d.disk) k ≡ false;
}

abbrev pub decreases-loop-low : goal.decreases-loop-low
decreases-loop-low l = l.high - l.low
