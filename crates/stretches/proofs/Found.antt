-- `widest_of` is the widest stretch, and there is only one.
--
--   apart_comm, apart_self : the squared distance is that of the points the other way round; of a point from itself it is 0
--   rising-stretch, falling_stretch, ordered_w : what `ordered` gives
--   Between L r    == r is the stretch between two points of L
--   from_each, of_each : bestFrom, bestOf are at least each stretch that they are found among
--   widest_of_lem      : Widest P (widestOf P), for every P of at least one point
--   widest_unique  : a list has one widest stretch
--   widest_alone   : where all points are one, the stretch is that point twice, and its square is 0
use mathlib.Core.Path.{◌≡◌, refl, sym, ◌∙◌, ap, subst}
use mathlib.Core.Logic.{◌⊎◌, inl, inr}
use mathlib.Core.Bool.{Bool, true, false}
use mathlib.Core.List.Memᴰ
use mathlib.Core.List.{List, [], ◌∷◌}
use Prim.Native.Nat.{ℕ, ◌≤◌}
use native.Mathlib.Nat.{le_antisymm}
use native.Mathlib.Omega.{arith}
use lib.IntN.{pos, nat_abs, ◌-ℤ◌}
use Rattle.integers.proofs.Ring.{ring, poly}
use Rattle.integers.proofs.Tests.{true_test, test_true}
use Rattle.geometry.specs.declared.Point.{Point}
use Rattle.geometry.specs.Order.{before}
use Rattle.point_lists.specs.Sets.{In}
use Rattle.point_lists.proofs.Order.{before_trans, before_not_equal, ByOrder, by_order, behind_not_before}
use Rattle.point_lists.proofs.Order as O
use Rattle.disks.specs.Procedure.{norm}
use Rattle.hull.specs.Hull.{UpTo}
use Rattle.hull.proofs.Unique.{least_same}
use Rattle.stretches.specs.declared.Stretch.{Stretch}
use Rattle.stretches.specs.Widest.{apart, PairUpTo, Widest, ordered, better_of, best_from, best_of, widest_of}
use Rattle.stretches.proofs.Better.{AtLeast, wider, level, at-least-refl, at-least_trans, better_of_lem}

-- ---- the stretch between two points

pub apart_comm : (p q : Point) → apart p q ≡ apart q p
apart_comm p q = ap nat_abs (turned p q)
  where
    turned : (p q : Point) → norm (q.x -ℤ p.x) (q.y -ℤ p.y) ≡ norm (p.x -ℤ q.x) (p.y -ℤ q.y)
    turned p q = ring (p.x ∷ p.y ∷ q.x ∷ q.y ∷ []) (search poly depth 30) tt

pub apart_self : (p : Point) → 0 ≡ apart p p
apart_self p = ap nat_abs (sym (none p))
  where
    none : (p : Point) → norm (p.x -ℤ p.x) (p.y -ℤ p.y) ≡ pos 0
    none p = ring (p.x ∷ p.y ∷ []) (search poly depth 30) tt

pub rising-stretch : (p q : Point) → before q p ≡ false → ordered p q ≡ record { a = p; b = q; w = apart p q }
unfolding ordered
rising-stretch p q e = rw e

pub falling_stretch : (p q : Point) → before q p ≡ true → ordered p q ≡ record { a = q; b = p; w = apart p q }
unfolding ordered
falling_stretch p q e = rw e

pub ordered_w : (p q : Point) → (ordered p q).w ≡ apart p q
ordered_w p q = go (before q p) refl
  where
    go : (b : Bool) → before q p ≡ b → (ordered p q).w ≡ apart p q
    go true e = ap (λ (s : Stretch). s.w) (falling_stretch p q e)
    go false e = ap (λ (s : Stretch). s.w) (rising-stretch p q e)

not_behind : (p q : Point) → UpTo p q → before q p ≡ false
not_behind p q (inl e) = go (before q p) refl
  where
    go : (b : Bool) → before q p ≡ b → before q p ≡ false
    go true h = absurd (before_not_equal q p (true_test h) (sym e))
    go false h = h
not_behind p q (inr t) = behind_not_before q p (test_true (before p q) t)

ordered_comm : (p q : Point) → ordered p q ≡ ordered q p
ordered_comm p q = go (by_order p q)
  where
    flipped : (p q : Point) → before p q ≡ true → ordered p q ≡ ordered q p
    flipped p q h = rising-stretch p q (behind_not_before q p h)
        ∙ ap (λ (n : ℕ). record { a = p; b = q; w = n }) (apart_comm p q) ∙ sym (falling_stretch q p h)

    go : ByOrder p q → ordered p q ≡ ordered q p
    go (O.ahead h) = flipped p q h
    go (O.behind h k) = sym (flipped q p k)
    go (O.level h k e) = λ i. ordered (e i) (sym e i)

-- ---- the best of many

record Between (L : List Point) (r : Stretch) : Type 0 where
  p : Point
  q : Point
  p_in : In p L
  q_in : In q L
  is : r ≡ ordered p q

better-between : {L : List Point} {s t : Stretch} → Between L s → Between L t → Between L (better_of s t)
better-between {L} {s} {t} b c = go (better_of_lem s t).one
  where
    go : (better_of s t ≡ s) ⊎ (better_of s t ≡ t) → Between L (better_of s t)
    go (inl e) = subst (Between L) (sym e) b
    go (inr e) = subst (Between L) (sym e) c

from-between : {L : List Point} (s : Stretch) (p : Point) (Q : List Point) → Between L s → In p L → ((x : Point) → In x Q → In x L)
    → Between L (best_from s p Q)
unfolding best_from
from-between s p [] b i f = b
from-between s p (q ∷ Q) b i f = from-between (better_of s (ordered p q)) p Q
    (better-between b (record { p = p; q = q; p_in = i; q_in = f q (Memᴰ.head refl); is = refl })) i (λ x j. f x (Memᴰ.tail j))

of_between : {L : List Point} (s : Stretch) (Q : List Point) → Between L s → ((x : Point) → In x Q → In x L) → Between L (best_of s Q)
unfolding best_of
of_between s [] b f = b
of_between s (p ∷ Q) b f = of_between (best_from s p (p ∷ Q)) Q (from-between s p (p ∷ Q) b (f p (Memᴰ.head refl)) f)
    (λ x j. f x (Memᴰ.tail j))

from_first : (s : Stretch) (p : Point) (Q : List Point) → AtLeast (best_from s p Q) s
unfolding best_from
from_first s p [] = at-least-refl s
from_first s p (q ∷ Q) = at-least_trans (from_first (better_of s (ordered p q)) p Q) (better_of_lem s (ordered p q)).first

from_each : (s : Stretch) (p : Point) (Q : List Point) (q : Point) → In q Q → AtLeast (best_from s p Q) (ordered p q)
unfolding best_from
from_each s p [] q i = elim i [ ]
from_each s p (r ∷ Q) q (Memᴰ.head e) = at-least_trans (from_first (better_of s (ordered p r)) p Q)
    (subst (λ (x : Point). AtLeast (better_of s (ordered p r)) (ordered p x)) (sym e) (better_of_lem s (ordered p r)).second)
from_each s p (r ∷ Q) q (Memᴰ.tail i) = from_each (better_of s (ordered p r)) p Q q i

of_first : (s : Stretch) (Q : List Point) → AtLeast (best_of s Q) s
unfolding best_of
of_first s [] = at-least-refl s
of_first s (p ∷ Q) = at-least_trans (of_first (best_from s p (p ∷ Q)) Q) (from_first s p (p ∷ Q))

of_head : (s : Stretch) (p : Point) (Q : List Point) (q : Point) → In q (p ∷ Q) → AtLeast (best_of s (p ∷ Q)) (ordered p q)
unfolding best_of
of_head s p Q q i = at-least_trans (of_first (best_from s p (p ∷ Q)) Q) (from_each s p (p ∷ Q) q i)

of_each : (s : Stretch) (Q : List Point) (p q : Point) → In p Q → In q Q → AtLeast (best_of s Q) (ordered p q)
unfolding best_of
of_each s [] p q i j = elim i [ ]
of_each s (r ∷ Q) p q (Memᴰ.head e) j = subst (λ (x : Point). AtLeast (best_of s (r ∷ Q)) (ordered x q)) (sym e) (of_head s r Q q j)
of_each s (r ∷ Q) p q (Memᴰ.tail i) (Memᴰ.head e) = subst (AtLeast (best_of s (r ∷ Q))) (ordered_comm q p)
    (subst (λ (x : Point). AtLeast (best_of s (r ∷ Q)) (ordered x p)) (sym e) (of_head s r Q p (Memᴰ.tail i)))
of_each s (r ∷ Q) p q (Memᴰ.tail i) (Memᴰ.tail j) = of_each (best_from s r (r ∷ Q)) Q p q i j

-- ---- the widest

record Own (L : List Point) (r : Stretch) : Type 0 where
  a_in : In r.a L
  b_in : In r.b L
  rises : UpTo r.a r.b
  w_is : r.w ≡ apart r.a r.b

between_own : {L : List Point} {r : Stretch} → Between L r → Own L r
between_own {L} {r} b = subst (Own L) (sym b.is) (go (by_order b.p b.q))
  where
    rising_own : before b.q b.p ≡ false → UpTo b.p b.q → Own L (ordered b.p b.q)
    rising_own h u = subst (Own L) (sym (rising-stretch b.p b.q h)) (record { a_in = b.p_in; b_in = b.q_in; rises = u; w_is = refl })

    go : ByOrder b.p b.q → Own L (ordered b.p b.q)
    go (O.ahead h) = rising_own (behind_not_before b.q b.p h) (inr (true_test h))
    go (O.behind h k) = subst (Own L) (sym (falling_stretch b.p b.q k))
        (record { a_in = b.q_in; b_in = b.p_in; rises = inr (true_test k); w_is = apart_comm b.p b.q })
    go (O.level h k e) = rising_own k (inl e)

no_wider : {r : Stretch} (p q : Point) → AtLeast r (ordered p q) → apart p q ≤ r.w
no_wider {r} p q h = subst (λ (n : ℕ). n ≤ r.w) (ordered_w p q) (within (ordered p q) h)
  where
    within : (t : Stretch) → AtLeast r t → t.w ≤ r.w
    within t (wider k) = omega arith
    within t (level e k) = omega arith

no_earlier : {r : Stretch} (p q : Point) → UpTo p q → apart p q ≡ r.w → AtLeast r (ordered p q) → PairUpTo r.a r.b p q
no_earlier {r} p q u e h = go (subst (AtLeast r) (rising-stretch p q (not_behind p q u)) h)
  where
    go : AtLeast r (record { a = p; b = q; w = apart p q }) → PairUpTo r.a r.b p q
    go (wider k) = absurd (omega (arith, k, e))
    go (level f k) = k

pub widest_of_lem : (p : Point) (P : List Point) → Widest (p ∷ P) (widest_of (p ∷ P))
unfolding widest_of
widest_of_lem p P = record {
  a_in = own.a_in;
  b_in = own.b_in;
  rises = own.rises;
  w_is = own.w_is;
  most = λ q r i j. no_wider q r (each q r i j);
  least = λ q r i j u e. no_earlier q r u e (each q r i j);
}
  where
    start : Between (p ∷ P) (ordered p p)
    start = record { p = p; q = p; p_in = Memᴰ.head refl; q_in = Memᴰ.head refl; is = refl }

    own : Own (p ∷ P) (best_of (ordered p p) (p ∷ P))
    own = between_own (of_between (ordered p p) (p ∷ P) start (λ x i. i))

    each : (q r : Point) → In q (p ∷ P) → In r (p ∷ P) → AtLeast (best_of (ordered p p) (p ∷ P)) (ordered q r)
    each = of_each (ordered p p) (p ∷ P)

-- ---- there is one

pair_same : (a b p q : Point) → PairUpTo a b p q → PairUpTo p q a b → (a ≡ p) × (b ≡ q)
pair_same a b p q (inl h) (inl k) = absurd (before_not_equal a a (before_trans a p a h k) refl)
pair_same a b p q (inl h) (inr k) = absurd (before_not_equal a p h (sym k.0))
pair_same a b p q (inr h) (inl k) = absurd (before_not_equal p a k (sym h.0))
pair_same a b p q (inr h) (inr k) = (h.0, least_same b q h.1 k.1)

pub widest_unique : {P : List Point} {s t : Stretch} → Widest P s → Widest P t → s ≡ t
widest_unique {P} {s} {t} v w = λ i. record { a = ends.0 i; b = ends.1 i; w = equal i }
  where
    equal : s.w ≡ t.w
    equal = le_antisymm (subst (λ (n : ℕ). n ≤ t.w) (sym v.w_is) (w.most s.a s.b v.a_in v.b_in))
        (subst (λ (n : ℕ). n ≤ s.w) (sym w.w_is) (v.most t.a t.b w.a_in w.b_in))

    ends : (s.a ≡ t.a) × (s.b ≡ t.b)
    ends = pair_same s.a s.b t.a t.b (v.least t.a t.b w.a_in w.b_in w.rises (sym w.w_is ∙ sym equal))
        (w.least s.a s.b v.a_in v.b_in v.rises (sym v.w_is ∙ equal))

pub widest_alone : {P : List Point} {s : Stretch} (p : Point) → ((q : Point) → In q P → q ≡ p) → Widest P s → s ≡ record { a = p; b = p; w = 0 }
widest_alone {s} p f w = λ i. record { a = f s.a w.a_in i; b = f s.b w.b_in i; w = none i }
  where
    none : s.w ≡ 0
    none = w.w_is ∙ subst (λ (q : Point). apart s.a q ≡ 0) (f s.a w.a_in ∙ sym (f s.b w.b_in)) (sym (apart_self s.a))
