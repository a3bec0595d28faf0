-- The rising order of points: laws of `before`.
--
--   ByCoordinates p q              == p is before q, by x or, where x is the same, by y; by-coordinates, is-before: the test says so
--   before_trans, before_not_equal : the order is transitive and irreflexive
--   ByOrder p q, by_order          == the three cases: p is before q, q is before p, or they are equal
--   behind_not_before              : a point behind another is not before it
use mathlib.Core.Path.{◌≡◌, refl, sym, ◌∙◌, ap, subst}
use mathlib.Core.Logic.{◌⊎◌, inl, inr}
use mathlib.Core.Bool.{Bool, true, false, ◌&&◌, ◌||◌}
use lib.Dec.{T}
use lib.Signed.{◌<ℤ◌, lt_z}
use Rattle.integers.specs.Order.{eq_z}
use Rattle.integers.proofs.Tests.{true_test, and_left, and_right, and_both}
use Rattle.integers.proofs.Order.{eq_z_eq, eq_eq_z, ≤_of_eq, <_trans, <-≤_clash, <-≤_trans, ≤-<_trans}
use Rattle.integers.proofs.Order as O
use Rattle.geometry.specs.declared.Point.{Point}
use Rattle.geometry.specs.Order.{before}
use Rattle.point_lists.proofs.Sets.{point_path}

pub data ByCoordinates (p q : Point) : Type 0 where
  by_x : p.x <ℤ q.x → ByCoordinates p q
  by_y : p.x ≡ q.x → p.y <ℤ q.y → ByCoordinates p q

either_test : (a b : Bool) → T (a || b) → T a ⊎ T b
either_test true b t = inl tt
either_test false b t = inr t

first_test : (a b : Bool) → T a → T (a || b)
first_test false b t = elim t [ ]
first_test true b t = tt

second_test : (a b : Bool) → T b → T (a || b)
second_test true b t = tt
second_test false b t = t

pub by_coordinates : (p q : Point) → T (before p q) → ByCoordinates p q
unfolding before
by_coordinates p q t = go (either_test (lt_z p.x q.x) (eq_z p.x q.x && lt_z p.y q.y) t)
  where
    go : T (lt_z p.x q.x) ⊎ T (eq_z p.x q.x && lt_z p.y q.y) → ByCoordinates p q
    go (inl h) = by_x (record { lt = h })
    go (inr h) = by_y (eq_z_eq p.x q.x (and_left (eq_z p.x q.x) (lt_z p.y q.y) h))
        (record { lt = and_right (eq_z p.x q.x) (lt_z p.y q.y) h })

pub is_before : {p q : Point} → ByCoordinates p q → T (before p q)
unfolding before
is_before {p} {q} (by_x h) = first_test (lt_z p.x q.x) (eq_z p.x q.x && lt_z p.y q.y) h.lt
is_before {p} {q} (by_y e h) = second_test (lt_z p.x q.x) (eq_z p.x q.x && lt_z p.y q.y)
    (and_both (eq_z p.x q.x) (lt_z p.y q.y) (eq_eq_z p.x q.x e) h.lt)

pub before_trans : (p q r : Point) → T (before p q) → T (before q r) → T (before p r)
before_trans p q r s t = is_before (go (by_coordinates p q s) (by_coordinates q r t))
  where
    go : ByCoordinates p q → ByCoordinates q r → ByCoordinates p r
    go (by_x h) (by_x k) = by_x (<_trans h k)
    go (by_x h) (by_y e k) = by_x (<-≤_trans h (≤_of_eq e))
    go (by_y e h) (by_x k) = by_x (≤-<_trans (≤_of_eq e) k)
    go (by_y e h) (by_y f k) = by_y (e ∙ f) (<_trans h k)

pub before_not_equal : (p q : Point) → T (before p q) → p ≡ q → ⊥
before_not_equal p q t e = go (by_coordinates p q t)
  where
    go : ByCoordinates p q → ⊥
    go (by_x h) = <-≤_clash h (≤_of_eq (sym (ap (λ (r : Point). r.x) e)))
    go (by_y f h) = <-≤_clash h (≤_of_eq (sym (ap (λ (r : Point). r.y) e)))

-- ---- the three cases

pub data ByOrder (p q : Point) : Type 0 where
  ahead : before p q ≡ true → ByOrder p q
  behind : before p q ≡ false → before q p ≡ true → ByOrder p q
  level : before p q ≡ false → before q p ≡ false → p ≡ q → ByOrder p q

data Compared (p q : Point) : Type 0 where
  first : ByCoordinates p q → Compared p q
  second : ByCoordinates q p → Compared p q
  equal : p ≡ q → Compared p q

compared : (p q : Point) → Compared p q
compared p q = go (O.compared p.x q.x) (O.compared p.y q.y)
  where
    go : O.Compared p.x q.x → O.Compared p.y q.y → Compared p q
    go (O.less h) d = first (by_x h)
    go (O.more h) d = second (by_x h)
    go (O.same e) (O.less h) = first (by_y e h)
    go (O.same e) (O.more h) = second (by_y (sym e) h)
    go (O.same e) (O.same f) = equal (point_path e f)

pub by_order : (p q : Point) → ByOrder p q
by_order p q = go (before p q) (before q p) refl refl (compared p q)
  where
    go : (a b : Bool) → before p q ≡ a → before q p ≡ b → Compared p q → ByOrder p q
    go true b e f c = ahead e
    go false true e f c = behind e f
    go false false e f (first h) = absurd (subst T e (is_before h))
    go false false e f (second h) = absurd (subst T f (is_before h))
    go false false e f (equal h) = level e f h

pub behind_not_before : (p q : Point) → before q p ≡ true → before p q ≡ false
behind_not_before p q h = go (before p q) refl
  where
    go : (b : Bool) → before p q ≡ b → before p q ≡ false
    go true e = absurd (before_not_equal p p (before_trans p q p (true_test e) (true_test h)) refl)
    go false e = e
