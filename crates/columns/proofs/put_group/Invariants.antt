-- `columns::put_group` meets its contract. The invariant: the points of the columns before x are written.
use Prim.Native.Nat.{◌+◌, ◌-◌, ◌*◌, ◌≤◌}
use Rattle.columns.specs.Columns.{Written}
use Rattle.columns.proofs.put_group.Given as goal

abbrev pub invariant-loop-x : goal.invariant-loop-x
invariant-loop-x l = (16 * l.g ≤ l.x) × (l.x ≤ 16 * l.g + 16) × (l.k ≤ l.x) × Written l.x l.k l.low l.high l.lows l.highs

abbrev pub decreases-loop-x : goal.decreases-loop-x
decreases-loop-x l = 16 * l.g + 16 - l.x
