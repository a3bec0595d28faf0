-- A drawing program's point as a struct of numbers: a kind, two whole numbers and two floats.
--
--   point_of p   == the point of the kind 1, of p's whole numbers, or of the kind 2, of its floats; of any other kind a point of two NaNs,
--                  which stand for no number, so that the call refuses it with 11
use Rattle.std.specs.Prelude.{cond, eqb}
use Rattle.std.specs.Float.{nan}
use Rattle.drawn_points.specs.declared.DrawnPoint.{DrawnPoint}
use Rattle.drawn_points.specs.declared.DrawnPoint.TheVariants.{Whole, Drawn}
use Rattle.c_append.specs.declared.KindAndValues.{KindAndValues}

abbrev pub point_of : KindAndValues → DrawnPoint
point_of p = cond (eqb p.kind 1) (Whole p.whole_x p.whole_y) (cond (eqb p.kind 2) (Drawn p.drawn_x p.drawn_y) (Drawn nan nan))
