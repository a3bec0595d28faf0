-- The tests of a point and a list, and of all points of a list.
--
--   has_in, in_has  : `has` decides membership
--   all_in, in_all  : `all_of` decides whether each point passes
use mathlib.Core.Path.{◌≡◌, refl, sym, ◌∙◌, subst}
use mathlib.Core.Logic.{◌⊎◌, inl, inr}
use mathlib.Core.Bool.{Bool, true, false, ◌||◌, true≢false}
use mathlib.Core.List.Memᴰ
use mathlib.Core.List.{List, [], ◌∷◌}
use Rattle.integers.proofs.Tests.{first, rest, both}
use Rattle.geometry.specs.declared.Point.{Point}
use Rattle.point_lists.specs.Sets.{In, same, has, all_of}
use Rattle.point_lists.proofs.Sets.{none_of, also}
use Rattle.point_lists.proofs.SamePoint.{same_eq, same_refl}

pub has_in : (P : List Point) (p : Point) → has P p ≡ true → In p P
unfolding has
has_in [] p h = absurd (true≢false (sym h))
has_in (q ∷ P) p h = go (same p q) refl (has_in P p) h
  where
    go : (b : Bool) → same p q ≡ b → (has P p ≡ true → In p P) → b || has P p ≡ true → In p (q ∷ P)
    go true e f k = Memᴰ.head (same_eq p q e)
    go false e f k = Memᴰ.tail (f k)

pub in_has : (P : List Point) (p : Point) → In p P → has P p ≡ true
unfolding has
in_has [] p m = absurd (Memᴰ.not-nil m)
in_has (q ∷ P) p m = go (same p q) refl (in_has P p) (Memᴰ.cases_cons m)
  where
    go : (b : Bool) → same p q ≡ b → (In p P → has P p ≡ true) → (p ≡ q) ⊎ In p P → b || has P p ≡ true
    go true e f k = refl
    go false e f (inl k) = absurd (true≢false (sym (subst (λ (r : Point). same p r ≡ true) k (same_refl p)) ∙ e))
    go false e f (inr k) = f k

pub all_in : (f : Point → Bool) (P : List Point) → all_of f P ≡ true → (p : Point) → In p P → f p ≡ true
unfolding all_of
all_in f [] h = none_of (λ p. f p ≡ true)
all_in f (q ∷ P) h = also (λ p. f p ≡ true) (first (f q) (all_of f P) h) (all_in f P (rest (f q) (all_of f P) h))

pub in_all : (f : Point → Bool) (P : List Point) → ((p : Point) → In p P → f p ≡ true) → all_of f P ≡ true
unfolding all_of
in_all f [] h = refl
in_all f (p ∷ P) h = both (h p (Memᴰ.head refl)) (in_all f P (λ q m. h q (Memᴰ.tail m)))
