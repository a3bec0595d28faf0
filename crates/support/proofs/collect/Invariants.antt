-- `support::collect` meets its contract. The invariant: of the first i points of the list, the first m of `out` are kept.
use mathlib.Core.Path.{◌≡◌}
use mathlib.Core.Bool.{true}
use Prim.Native.Nat.{◌-◌, ◌/◌, ◌≤◌, ◌<◌}
use lib.ListN.{length}
use Rattle.geometry.specs.Plane.{numbers}
use Rattle.geometry.specs.Points.{first_points, point_at}
use Rattle.support_tests.specs.Tests.{on_boundary_test}
use Rattle.support_span.specs.Span.{Spans}
use Rattle.support.proofs.Kept.{Kept}
use Rattle.support.proofs.collect.Given as goal

abbrev pub invariant-loop-i : goal.invariant-loop-i
invariant-loop-i l =
    (l.i ≤ length l.list / 2) × (l.m ≤ l.i) × Kept (numbers l.disk) (first_points l.i l.list) (first_points l.m l.out)
    × Spans (numbers l.disk) (first_points l.m l.out) l.span × (l.i < length l.list / 2 → on_boundary_test (numbers l.disk) (point_at l.list l.i) ≡ true)

abbrev pub decreases-loop-i : goal.decreases-loop-i
decreases-loop-i l = length l.list / 2 - l.i
