-- `traced_points::solve` meets its contract, by that of the procedure on the corners as they were laid out.
use mathlib.Core.Path.{◌∙◌}
use Rattle.traced_points.proofs.Laid.{laid_given}
use Rattle.traced_points.proofs.solve.Goals as goal

pub smallest-requires : goal.smallest-requires
smallest-requires c =
    laid_given c.args.list.now c.lay_out.new.room c.requires.accepted (c.lay_out.auto.room ∙ c.requires.room_length) c.lay_out.ensures
