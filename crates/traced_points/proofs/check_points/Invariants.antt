-- `traced_points::check_points` meets its contract. The loop's invariant: what the rules say of all they say of those that are left.
use mathlib.Core.Path.{◌≡◌}
use Rattle.tracings.specs.Squares.{traced}
use Rattle.traced_points.specs.Traced.{first_fault}
use Rattle.traced_points.proofs.check_points.Given as goal

abbrev pub invariant-loop-s : goal.invariant-loop-s
invariant-loop-s l = first_fault (traced l.list) ≡ first_fault (traced l.s-iterator.0.now)
