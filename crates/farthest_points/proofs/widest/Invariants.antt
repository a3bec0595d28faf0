-- `farthest_points::widest` meets its contract. The loop's invariant: the best of `found` and the points from place i on is the widest stretch.
use mathlib.Core.Path.{◌≡◌}
use Prim.Native.Nat.{◌/◌, ◌≤◌}
use lib.ListN.{length, drop}
use Rattle.geometry.specs.Points.{points}
use Rattle.stretches.specs.Widest.{best_of, widest_of}
use Rattle.farthest_points.proofs.widest.Given as goal

abbrev pub invariant-loop-i : goal.invariant-loop-i
invariant-loop-i l = (l.i ≤ length l.list / 2) × (best_of l.found (drop l.i (points l.list)) ≡ widest_of (points l.list))
