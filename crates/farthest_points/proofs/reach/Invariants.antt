-- `farthest_points::reach` meets its contract. The loop's invariant: `most` and the points from place j on reach as far as all.
use mathlib.Core.Path.{◌≡◌}
use Prim.Native.Nat.{◌/◌, ◌≤◌}
use lib.ListN.{length, drop}
use Rattle.geometry.specs.Points.{points}
use Rattle.farthest_points.specs.Reach.{reach_from}
use Rattle.farthest_points.proofs.reach.Given as goal

abbrev pub invariant-loop-j : goal.invariant-loop-j
invariant-loop-j l = (l.j ≤ length l.list / 2) × (reach_from l.most l.p (drop l.j (points l.list)) ≡ reach_from 0 l.p (points l.list))
