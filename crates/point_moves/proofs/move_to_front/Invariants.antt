-- `point_moves::move_to_front` meets its contract. The numbers from the front to point i go back by two places, the last first.
use mathlib.Core.Path.{◌≡◌}
use Prim.Native.Nat.{◌*◌}
use Rattle.point_moves.proofs.Shift.{shifted}
use Rattle.point_moves.proofs.move_to_front.Given as goal

abbrev pub invariant-loop-k : goal.invariant-loop-k
invariant-loop-k l = l.list ≡ shifted l.initial.list (2 * l.i) l.k
