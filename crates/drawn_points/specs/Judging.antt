-- What the call's inner functions answer, before list and number are looked at.
--
--   boxed c       == the point c, or 3 where it is outside the em box
--   judged p      == the point that p names, or 11, then 3
use Rattle.std.specs.Prelude.{not}
use Rattle.answers.specs.Outcome.{Outcome, given, refuse_if, and_then}
use Rattle.geometry.specs.declared.Point.{Point}
use Rattle.geometry.specs.EmBox.{in_em_box}
use Rattle.drawn_points.specs.declared.DrawnPoint.{DrawnPoint}
use Rattle.drawn_points.specs.Appending.{place_of}

abbrev pub boxed : Point → Outcome Point
boxed c = refuse_if (not (in_em_box c)) 3 (given c)

abbrev pub judged : DrawnPoint → Outcome Point
judged p = and_then (place_of p) boxed
