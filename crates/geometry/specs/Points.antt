-- A point list: numbers that are x and y by turns (01: a corner list).
--
--   points l         == the points of the list l
--   flat ps          == the numbers of the points ps
--   point_at l i      == point i of l, from 0
--   first_points n l  == the first n points of l
--   to_front l i      == l with point i moved to the front, those before it back by one place
use Rattle.std.specs.Prelude.{ℕ, ◌+◌, ◌*◌, List, [], ◌∷◌, ◌++◌, get_or, take, drop, ℤ, pos}
use Rattle.geometry.specs.declared.Point.{Point}

unfoldable pub points : List ℤ → List Point
points [] = []
points (x ∷ []) = []
points (x ∷ y ∷ l) = record { x = x; y = y } ∷ points l

unfoldable pub flat : List Point → List ℤ
flat [] = []
flat (p ∷ ps) = p.x ∷ p.y ∷ flat ps

abbrev pub point_at : List ℤ → ℕ → Point
point_at l i = record { x = get_or l (2 * i) (pos 0); y = get_or l (2 * i + 1) (pos 0) }

abbrev pub first_points : ℕ → List ℤ → List Point
first_points n l = points (take (2 * n) l)

abbrev pub to_front : List ℤ → ℕ → List ℤ
to_front l i = get_or l (2 * i) (pos 0) ∷ get_or l (2 * i + 1) (pos 0) ∷ (take (2 * i) l ++ drop (2 * i + 2) l)
