-- `support_span::span_with` meets its contract. The invariant: the points that are left are points of the list.
use Rattle.geometry.specs.declared.Point.{Point}
use Rattle.geometry.specs.Points.{points}
use Rattle.point_lists.specs.Sets.{In}
use Rattle.support_span.proofs.span_with.Given as goal

abbrev pub invariant-loop-q : goal.invariant-loop-q
invariant-loop-q l = (r : Point) → In r (points l.q-iterator.0.now) → In r (points l.list)
