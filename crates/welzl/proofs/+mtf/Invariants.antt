-- `welzl::mtf`, which calls itself. The measure is the room that is left in R; the loop's invariant is the promise itself, for the first
-- i points, each of them tested once.
use Rattle.std.proofs.Common.{◌≤◌, ◌+◌}
use Rattle.fixed_points.specs.Boundary.{room_in}
use Rattle.inner_level.specs.Ran.{Ran}
use Rattle.welzl.proofs.+mtf.Given as goal

abbrev pub decreases-mtf : goal.decreases-mtf
decreases-mtf l = room_in l.fixed

abbrev pub invariant-loop-i : goal.invariant-loop-i
invariant-loop-i l = (l.i ≤ l.n) × Ran l.fixed l.i l.initial.list l.list l.disk (l.inner + l.i)
