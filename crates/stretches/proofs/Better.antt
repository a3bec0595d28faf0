-- The order of stretches: the wider first, and of equals the one whose points come before.
--
--   AtLeast s t        == s is wider than t, or as wide and no later, compared point by point
--   at-least-refl, at-least_trans : each stretch is at least itself; the order is transitive
--   Compared s t, compared == what the test `better t s` says, and which of the two is at least the other
--   Better s t r, better_of_lem == r is s or t, and at least both; `better_of` gives it
--   better_narrower, better_wider, better-ahead, better_behind : which of two is the better, by their squares and, where these are equal, by their points
use mathlib.Core.Path.{◌≡◌, refl, sym, ◌∙◌, subst}
use mathlib.Core.Logic.{◌⊎◌, inl, inr}
use mathlib.Core.Bool.{Bool, true, false}
use Prim.Native.Nat.{◌<◌}
use native.Mathlib.Omega.{arith}
use borrow.Author.Tests.{ltb-true, ltb-false, eqb-true, eqb-false, lt-ltb, le-ltb, eq-eqb, ne_eqb}
use lib.Dec.{T, ltb, eqb}
use Rattle.integers.proofs.Tests.{true_test}
use Rattle.geometry.specs.declared.Point.{Point}
use Rattle.geometry.specs.Order.{before}
use Rattle.point_lists.specs.Sets.{same}
use Rattle.point_lists.proofs.Order.{before_trans, before_not_equal, ByOrder, by_order}
use Rattle.point_lists.proofs.Order as O
use Rattle.point_lists.proofs.SamePoint.{same_refl, differ}
use Rattle.hull.proofs.TwoSides.{up_to_trans}
use Rattle.stretches.specs.declared.Stretch.{Stretch}
use Rattle.stretches.specs.Widest.{PairUpTo, ahead, better, better_of}

abbrev UpToStretch : Stretch → Stretch → Type 0
UpToStretch s t = PairUpTo s.a s.b t.a t.b

pub data AtLeast (s t : Stretch) : Type 0 where
  wider : t.w < s.w → AtLeast s t
  level : t.w ≡ s.w → UpToStretch s t → AtLeast s t

pub at-least-refl : (s : Stretch) → AtLeast s s
at-least-refl s = level refl (inr (refl, inl refl))

pair_trans : (s t u : Stretch) → UpToStretch s t → UpToStretch t u → UpToStretch s u
pair_trans s t u (inl h) (inl k) = inl (before_trans s.a t.a u.a h k)
pair_trans s t u (inl h) (inr k) = inl (subst (λ (p : Point). T (before s.a p)) k.0 h)
pair_trans s t u (inr h) (inl k) = inl (subst (λ (p : Point). T (before p u.a)) (sym h.0) k)
pair_trans s t u (inr h) (inr k) = inr (h.0 ∙ k.0, up_to_trans s.b t.b u.b h.1 k.1)

pub at-least_trans : {s t u : Stretch} → AtLeast s t → AtLeast t u → AtLeast s u
at-least_trans (wider h) (wider k) = wider (omega arith)
at-least_trans (wider h) (level e k) = wider (omega arith)
at-least_trans (level e h) (wider k) = wider (omega arith)
at-least_trans {s} {t} {u} (level e h) (level f k) = level (f ∙ e) (pair_trans s t u h k)

-- ---- the tests

data InOrder (s t : Stretch) : Type 0 where
  first : ahead s t ≡ true → UpToStretch s t → InOrder s t
  second : ahead s t ≡ false → UpToStretch t s → InOrder s t

same_path : {p q : Point} → p ≡ q → same p q ≡ true
same_path {p} e = subst (λ (q : Point). same p q ≡ true) e (same_refl p)

in_order : (s t : Stretch) → InOrder s t
unfolding ahead
in_order s t = go (by_order s.a t.a) (by_order s.b t.b)
  where
    go : ByOrder s.a t.a → ByOrder s.b t.b → InOrder s t
    go (O.ahead e) d = first (rw e) (inl (true_test e))
    go (O.behind e f) d = second (rw (e, differ s.a t.a (λ q. before_not_equal t.a s.a (true_test f) (sym q)))) (inl (true_test f))
    go (O.level e f q) (O.ahead h) = first (rw (e, same_path q, h)) (inr (q, inr (true_test h)))
    go (O.level e f q) (O.behind h k) = second (rw (e, same_path q, h)) (inr (sym q, inr (true_test k)))
    go (O.level e f q) (O.level h k r) = second (rw (e, same_path q, h)) (inr (sym q, inl (sym r)))

data Compared (s t : Stretch) : Type 0 where
  second_better : better t s ≡ true → AtLeast t s → Compared s t
  first_stays : better t s ≡ false → AtLeast s t → Compared s t

compared : (s t : Stretch) → Compared s t
unfolding better
compared s t = go (ltb s.w t.w) (eqb t.w s.w) refl refl (in_order t s)
  where
    go : (x y : Bool) → ltb s.w t.w ≡ x → eqb t.w s.w ≡ y → InOrder t s → Compared s t
    go true y e f d = second_better (rw e) (wider (ltb-true s.w t.w e))
    go false true e f (first h k) = second_better (rw (e, f, h)) (level (sym (eqb-true t.w s.w f)) k)
    go false true e f (second h k) = first_stays (rw (e, f, h)) (level (eqb-true t.w s.w f) k)
    go false false e f d = first_stays (rw (e, f)) (wider (omega (arith, ltb-false s.w t.w e, eqb-false t.w s.w f)))

-- ---- the better of two

pub record Better (s t r : Stretch) : Type 0 where
  pub one : (r ≡ s) ⊎ (r ≡ t)
  pub first : AtLeast r s
  pub second : AtLeast r t

pub better_of_lem : (s t : Stretch) → Better s t (better_of s t)
unfolding better_of
better_of_lem s t = go (compared s t)
  where
    go : Compared s t → Better s t (better_of s t)
    go (second_better e h) = rw e (record { one = inr refl; first = h; second = at-least-refl t })
    go (first_stays e h) = rw e (record { one = inl refl; first = at-least-refl s; second = h })

module _ (s t : Stretch) where
  pub better_narrower : t.w < s.w → better_of s t ≡ s
  unfolding better better_of
  better_narrower h = rw (le-ltb s.w t.w (omega arith), ne_eqb t.w s.w (λ e. absurd (omega (arith, e))))

  pub better_wider : s.w < t.w → better_of s t ≡ t
  unfolding better better_of
  better_wider h = rw (lt-ltb s.w t.w h)

  pub better-ahead : t.w ≡ s.w → ahead t s ≡ true → better_of s t ≡ t
  unfolding better better_of
  better-ahead e h = rw (le-ltb s.w t.w (omega arith), eq-eqb t.w s.w e, h)

  pub better_behind : t.w ≡ s.w → ahead t s ≡ false → better_of s t ≡ s
  unfolding better better_of
  better_behind e h = rw (le-ltb s.w t.w (omega arith), eq-eqb t.w s.w e, h)
