-- `farthest_points::best_from` meets its contract. The loop's invariant: the best of `found` and the points from place j on is that of s and all.
use mathlib.Core.Path.{◌≡◌}
use Prim.Native.Nat.{◌/◌, ◌≤◌}
use lib.ListN.{length, drop}
use Rattle.geometry.specs.Points.{points}
use Rattle.stretches.specs.Widest.{best_from}
use Rattle.farthest_points.proofs.best_from.Given as goal

abbrev pub invariant-loop-j : goal.invariant-loop-j
invariant-loop-j l =
    (l.j ≤ length l.list / 2) × (best_from l.found l.p (drop l.j (points l.list)) ≡ best_from l.initial.found l.p (points l.list))
