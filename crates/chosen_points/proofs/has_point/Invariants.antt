-- `chosen_points::has_point` meets its contract. The loop's invariant: p is one of the points exactly where it is one of those that are left.
use mathlib.Core.Path.{◌≡◌}
use Rattle.geometry.specs.Points.{points}
use Rattle.point_lists.specs.Sets.{has}
use Rattle.chosen_points.proofs.has_point.Given as goal

abbrev pub invariant-loop-q : goal.invariant-loop-q
invariant-loop-q l = has (points l.list) l.p ≡ has (points l.q-iterator.0.now) l.p
