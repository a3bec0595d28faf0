-- Whether two points are the same.
--
--   eq_z_eq, eq_z-refl   : `eq_z` decides equality of whole numbers
--   same_eq, same_refl, differ : `same` decides equality of points
use mathlib.Core.Path.{◌≡◌, refl}
use mathlib.Core.Bool.{Bool, true, false}
use lib.IntN.{ℤ}
use lib.Signed.{le_z}
use Rattle.integers.proofs.Tests.{first, rest, both, test_true}
use Rattle.integers.proofs.Bounds.{le_true}
use Rattle.integers.proofs.Order.{≤-refl, ≤_antisym}
use Rattle.geometry.specs.declared.Point.{Point}
use Rattle.integers.specs.Order.{eq_z}
use Rattle.point_lists.specs.Sets.{same}

pub eq_z_eq : (a b : ℤ) → eq_z a b ≡ true → a ≡ b
eq_z_eq a b h = ≤_antisym (le_true a b (first (le_z a b) (le_z b a) h)) (le_true b a (rest (le_z a b) (le_z b a) h))

pub eq_z-refl : (a : ℤ) → eq_z a a ≡ true
eq_z-refl a = let h : le_z a a ≡ true = test_true (le_z a a) (≤-refl a).le in both h h

pub same_eq : (p q : Point) → same p q ≡ true → p ≡ q
unfolding same
same_eq p q h =
    let x = eq_z p.x q.x in
    let y = eq_z p.y q.y in
    λ i. record { x = eq_z_eq p.x q.x (first x y h) i; y = eq_z_eq p.y q.y (rest x y h) i }

pub same_refl : (p : Point) → same p p ≡ true
unfolding same
same_refl p = both (eq_z-refl p.x) (eq_z-refl p.y)

pub differ : (p q : Point) → (p ≡ q → ⊥) → same p q ≡ false
differ p q n = go (same p q) refl
  where
    go : (b : Bool) → same p q ≡ b → b ≡ false
    go true e = absurd (n (same_eq p q e))
    go false e = refl
