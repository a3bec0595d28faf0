-- What laying out the corners of squares asks and promises.
--
--   Boxed s        == the corners of the square of s lie in the em box
--   AllBoxed ss    == those of all squares do
use Rattle.std.specs.Prelude.{◌≡◌, true}
use mathlib.Core.List.{List, Memᴰ}
use Rattle.geometry.specs.EmBox.{all_in_em_box}
use Rattle.tracings.specs.declared.TracedPoint.{TracedPoint}
use Rattle.tracings.specs.Squares.{corners}

abbrev pub Boxed : TracedPoint → Type 0
Boxed s = all_in_em_box (corners s) ≡ true

abbrev pub AllBoxed : List TracedPoint → Type 0
AllBoxed ss = (s : TracedPoint) → Memᴰ s ss → Boxed s
