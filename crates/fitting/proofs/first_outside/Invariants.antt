-- `fitting::first_outside` meets its contract. The loop's invariant: no point from place `from` up to place i is outside.
use Rattle.fitting.specs.Decides.{Held}
use Rattle.fitting.proofs.first_outside.Given as goal

abbrev pub invariant-loop-i : goal.invariant-loop-i
invariant-loop-i l = Held l.list l.d l.from l.i
