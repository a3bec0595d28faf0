-- The set R fixed on the boundary (000: R; 01: "a set R fixed on the rim"), the point added last first.
--
--   members R    == its points
--   room_in R     == how many more it may have, 3 − |R|
--   added R p    == R with p
--   Boxed P      == every point of P lies in the em box
use Rattle.std.specs.Prelude.{ℕ, ◌≡◌, true}
use mathlib.Core.List.{List, [], ◌∷◌, Memᴰ}
use Rattle.geometry.specs.declared.Point.{Point}
use Rattle.geometry.specs.EmBox.{in_em_box}
use Rattle.fixed_points.specs.declared.Boundary.{Boundary}
use Rattle.fixed_points.specs.declared.Boundary.TheVariants.{None, One, Two, Three}

abbrev pub members : Boundary → List Point
members None = []
members (One a) = a ∷ []
members (Two a b) = a ∷ b ∷ []
members (Three a b c) = a ∷ b ∷ c ∷ []

abbrev pub room_in : Boundary → ℕ
room_in None = 3
room_in (One a) = 2
room_in (Two a b) = 1
room_in (Three a b c) = 0

-- a set of three is full: the last clause is never reached
abbrev pub added : Boundary → Point → Boundary
added None p = One p
added (One a) p = Two p a
added (Two a b) p = Three p a b
added (Three a b c) p = Three a b c

pub record Boxed (P : List Point) : Type 0 where
  pub in_box : (p : Point) → Memᴰ p P → in_em_box p ≡ true
