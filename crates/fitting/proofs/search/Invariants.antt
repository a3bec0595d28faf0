-- `fitting::search`. The loop's invariant: the list has the points that came, and `from` is a place in it.
use Prim.Native.Nat.{◌≤◌}
use Rattle.fitting.specs.Decides.{Permuted}
use Rattle.fitting.proofs.search.Given as goal

abbrev pub invariant-loop-k : goal.invariant-loop-k
invariant-loop-k l = (l.from ≤ l.n) × Permuted l.initial.list l.list
