-- The convex hull of a list of points, by its property (02, item 8).
--
--   cross a b c     == (b − a) × (c − a): positive where a, b, c turn left, zero where they are in a row
--   LeftTurns l     == each three points of l that follow one another turn strictly left
--   OnLeft l p      == p is on the left of, or in a row with, each two points of l that follow one another
--   UpTo p q        == p is q or comes before q in rising order
--   round a b R     == all the way round: a, b, the points R, and the first two again
--   Polygon P a b R == a, b and the points R are the corners of a polygon round P, counterclockwise from the least of P: all the way round,
--                      each next corner turns strictly left and every point of P is on the left of each side or on it
--   Corners P H     == by how many H has: none, if P is empty; one that is all of P; the two ends of a row that P lies in; or a polygon
--   IsHull P H      == H are the corners of the convex hull of P, no three in a row, counterclockwise from the least by x then y
use Rattle.std.specs.Prelude.{◌≡◌, ◌⊎◌, List, [], ◌∷◌, ◌++◌, T, ℤ, pos, ◌-ℤ◌, ◌*ℤ◌}
use Rattle.integers.specs.Order.{◌≼◌, ◌≺◌}
use Rattle.geometry.specs.declared.Point.{Point}
use Rattle.geometry.specs.Order.{before}
use Rattle.point_lists.specs.Sets.{In}

abbrev pub cross : Point → Point → Point → ℤ
cross a b c = (b.x -ℤ a.x) *ℤ (c.y -ℤ a.y) -ℤ (b.y -ℤ a.y) *ℤ (c.x -ℤ a.x)

abbrev pub LeftTurns : List Point → Type 0
LeftTurns [] = Unit {0}
LeftTurns (a ∷ []) = Unit {0}
LeftTurns (a ∷ b ∷ []) = Unit {0}
LeftTurns (a ∷ b ∷ c ∷ l) = (pos 0 ≺ cross a b c) × LeftTurns (b ∷ c ∷ l)

abbrev pub OnLeft : List Point → Point → Type 0
OnLeft [] p = Unit {0}
OnLeft (a ∷ []) p = Unit {0}
OnLeft (a ∷ b ∷ l) p = (pos 0 ≼ cross a b p) × OnLeft (b ∷ l) p

abbrev pub UpTo : Point → Point → Type 0
UpTo p q = (p ≡ q) ⊎ T (before p q)

abbrev pub round : Point → Point → List Point → List Point
round a b R = a ∷ b ∷ (R ++ (a ∷ b ∷ []))

pub record Polygon (P : List Point) (a b : Point) (R : List Point) : Type 0 where
  -- the first corner is the least of P, and comes only once
  pub least : (p : Point) → In p P → UpTo a p
  pub once : In a (b ∷ R) → ⊥
  pub turns : LeftTurns (round a b R)
  pub beside : (p : Point) → In p P → OnLeft (round a b R) p

pub record Row (P : List Point) (a b : Point) : Type 0 where
  pub ends : T (before a b)
  pub in_row : (p : Point) → In p P → cross a b p ≡ pos 0
  pub from : (p : Point) → In p P → UpTo a p
  pub to : (p : Point) → In p P → UpTo p b

abbrev pub Corners : List Point → List Point → Type 0
Corners P [] = (p : Point) → In p P → ⊥
Corners P (a ∷ []) = (p : Point) → In p P → p ≡ a
Corners P (a ∷ b ∷ []) = Row P a b
Corners P (a ∷ b ∷ c ∷ l) = Polygon P a b (c ∷ l)

pub record IsHull (P H : List Point) : Type 0 where
  pub members : (p : Point) → In p H → In p P
  pub corners : Corners P H
