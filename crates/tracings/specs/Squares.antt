-- The squares of traced points (02, item 7: "known only to within t units .. in x and in y, with a t of its own").
--
--   traced l       == the traced points of the list l, x, y and t by turns
--   corners s      == the four corners of the square of s
--   all_corners ss  == the corners of all squares
--   place s        == where s was read
--   as_read ss      == the points as they were read
use Rattle.std.specs.Prelude.{List, [], ◌∷◌, ◌++◌, map, ℤ, ◌+ℤ◌, ◌-ℤ◌}
use Rattle.geometry.specs.declared.Point.{Point}
use Rattle.tracings.specs.declared.TracedPoint.{TracedPoint}

unfoldable pub traced : List ℤ → List TracedPoint
traced [] = []
traced (x ∷ []) = []
traced (x ∷ y ∷ []) = []
traced (x ∷ y ∷ t ∷ l) = record { x = x; y = y; t = t } ∷ traced l

unfoldable pub corners : TracedPoint → List Point
corners s =
    let left = s.x -ℤ s.t in
    let right = s.x +ℤ s.t in
    let low = s.y -ℤ s.t in
    let high = s.y +ℤ s.t in
    record { x = left; y = low } ∷ record { x = left; y = high } ∷ record { x = right; y = low } ∷ record { x = right; y = high } ∷ []

unfoldable pub all_corners : List TracedPoint → List Point
all_corners [] = []
all_corners (s ∷ ss) = corners s ++ all_corners ss

abbrev pub place : TracedPoint → Point
place s = record { x = s.x; y = s.y }

abbrev pub as_read : List TracedPoint → List Point
as_read ss = map place ss
