-- `hull_lists::reduce` meets its contract.
use Rattle.columns.proofs.ColumnLaws.{columns_none, seen_none}
use Rattle.hull_lists.proofs.reduce.Goals as goal

pub columns-requires : goal.columns-requires
columns-requires c = record { list_len = (c.requires.even, c.requires.boxed); columns = (columns_none, seen_none) }
