-- `columns::put_columns` meets its contract. The invariant: the points of the groups before g are written.
use Prim.Native.Nat.{◌*◌, ◌≤◌}
use Rattle.columns.specs.Columns.{Written, group_count}
use Rattle.columns.proofs.put_columns.Given as goal

abbrev pub invariant-loop-g : goal.invariant-loop-g
invariant-loop-g l =
    (l.g ≤ group_count) × (l.m ≤ 16 * l.g) × Written (16 * l.g) l.m l.low l.high l.lows l.highs
