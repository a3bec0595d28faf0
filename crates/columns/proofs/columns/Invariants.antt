-- `columns::columns` meets its contract. The invariant: the columns are those of the first i points.
use Prim.Native.Nat.{◌/◌, ◌≤◌}
use lib.ListN.{length}
use Rattle.geometry.specs.Points.{first_points}
use Rattle.columns.specs.Columns.{Columns, Seen}
use Rattle.columns.proofs.columns.Given as goal

abbrev pub invariant-loop-i : goal.invariant-loop-i
invariant-loop-i l =
    (l.i ≤ length l.list / 2) × Columns (first_points l.i l.list) l.low l.high × Seen (first_points l.i l.list) l.seen
