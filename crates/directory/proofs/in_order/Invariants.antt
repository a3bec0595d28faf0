-- `directory::in_order` meets its contract. The loop's invariant: the rule of the pairs from pair k on, after `end`, is the rule of all of them.
use mathlib.Core.Path.{◌≡◌}
use Prim.Native.Nat.{◌+◌, ◌-◌, ◌*◌}
use lib.ListN.{length}
use Rattle.directory.specs.Directory.{pairs, follow}
use Rattle.directory.proofs.in_order.Given as goal

abbrev pub invariant-loop-k : goal.invariant-loop-k
invariant-loop-k l =
    follow l.end (length l.sheet) (pairs l.sheet l.k (l.count - l.k)) ≡ follow (2 + 4 * l.count) (length l.sheet) (pairs l.sheet 0 l.count)
