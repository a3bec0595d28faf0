-- Points in rising order, and the sorted list of the different points of a list: laws of `insert`, `sorted` and `rising`.
--
--   insert-ahead, insert_behind, insert_level : `insert` in the three cases of the order
--   insert_in, insert_new, insert_old         : the points of `insert p Q` are p and those of Q
--   insert_rises, insert-length               : it rises where Q does, and has at most one point more
--   sorted_rises, sorted_same, sorted-length  : `sorted P` rises, has the points of P, and is no longer
--   rising_test                               : the test `rising` holds where and only where the list rises
--   fewer_or_same                             : a rising list of points of a rising list is that list, or shorter
use mathlib.Core.Path.{◌≡◌, refl, sym, ◌∙◌, ap, subst}
use mathlib.Core.Logic.{◌⊎◌, inl, inr}
use mathlib.Core.Bool.{true, false}
use mathlib.Core.List.Memᴰ
use mathlib.Core.List.{List, [], ◌∷◌}
use Prim.Native.Nat.{suc, ◌≤◌, ◌<◌}
use native.Mathlib.Omega.{arith}
use lib.ListN.{length}
use lib.Dec.{T}
use Rattle.integers.proofs.Tests.{first, rest, both, test_true, true_test}
use Rattle.geometry.specs.declared.Point.{Point}
use Rattle.geometry.specs.Order.{before}
use Rattle.point_lists.specs.Sets.{In, Same}
use Rattle.point_lists.specs.Rising.{Rising, rising, insert, sorted}
use Rattle.point_lists.proofs.Sets.{none_of, also}
use Rattle.point_lists.proofs.Order.{before_trans, before_not_equal, ByOrder, ahead, behind, level, by_order}

-- ---- `insert`, by the outcome of its tests

pub insert_none : (p : Point) → insert p [] ≡ p ∷ []
unfolding insert
insert_none p = refl

pub insert-ahead : (p q : Point) (l : List Point) → before p q ≡ true → insert p (q ∷ l) ≡ p ∷ q ∷ l
unfolding insert
insert-ahead p q l e = rw e

pub insert_behind : (p q : Point) (l : List Point) → before p q ≡ false → before q p ≡ true → insert p (q ∷ l) ≡ q ∷ insert p l
unfolding insert
insert_behind p q l e f = rw (e, f)

pub insert_level : (p q : Point) (l : List Point) → before p q ≡ false → before q p ≡ false → insert p (q ∷ l) ≡ q ∷ l
unfolding insert
insert_level p q l e f = rw (e, f)

-- ---- the points of a sorted list

either : {p x : Point} {l m : List Point} → (In x l → In x m) → (x ≡ p) ⊎ In x l → (x ≡ p) ⊎ In x m
either f (inl e) = inl e
either f (inr i) = inr (f i)

pub insert_in : (p : Point) (l : List Point) {x : Point} → In x (insert p l) → (x ≡ p) ⊎ In x l
insert_in p [] i = Memᴰ.cases_cons (rw insert_none at i)
insert_in p (q ∷ l) {x} i = go (λ k. insert_in p l k) (by_order p q)
  where
    after : (In x (insert p l) → (x ≡ p) ⊎ In x l) → (x ≡ q) ⊎ In x (insert p l) → (x ≡ p) ⊎ In x (q ∷ l)
    after f (inl e) = inr (Memᴰ.head e)
    after f (inr k) = either {p = p} {x = x} {l = l} {m = q ∷ l} Memᴰ.tail (f k)

    go : (In x (insert p l) → (x ≡ p) ⊎ In x l) → ByOrder p q → (x ≡ p) ⊎ In x (q ∷ l)
    go f (ahead e) = Memᴰ.cases_cons (subst (λ (m : List Point). In x m) (insert-ahead p q l e) i)
    go f (behind e h) = after f (Memᴰ.cases_cons (subst (λ (m : List Point). In x m) (insert_behind p q l e h) i))
    go f (level e h s) = inr (subst (λ (m : List Point). In x m) (insert_level p q l e h) i)

pub insert_new : (p : Point) (l : List Point) → In p (insert p l)
insert_new p [] = rw insert_none (Memᴰ.head refl)
insert_new p (q ∷ l) = go (insert_new p l) (by_order p q)
  where
    go : In p (insert p l) → ByOrder p q → In p (insert p (q ∷ l))
    go i (ahead e) = rw (insert-ahead p q l e) (Memᴰ.head refl)
    go i (behind e h) = rw (insert_behind p q l e h) (Memᴰ.tail i)
    go i (level e h s) = rw (insert_level p q l e h) (Memᴰ.head s)

pub insert_old : (p : Point) (l : List Point) {x : Point} → In x l → In x (insert p l)
insert_old p [] i = absurd (Memᴰ.not-nil i)
insert_old p (q ∷ l) {x} i = go (λ k. insert_old p l k) (by_order p q)
  where
    after : (In x l → In x (insert p l)) → (x ≡ q) ⊎ In x l → In x (q ∷ insert p l)
    after f (inl e) = Memᴰ.head e
    after f (inr k) = Memᴰ.tail (f k)

    go : (In x l → In x (insert p l)) → ByOrder p q → In x (insert p (q ∷ l))
    go f (ahead e) = rw (insert-ahead p q l e) (Memᴰ.tail i)
    go f (behind e h) = rw (insert_behind p q l e h) (after f (Memᴰ.cases_cons i))
    go f (level e h s) = rw (insert_level p q l e h) i

pub insert_rises : (p : Point) (l : List Point) → Rising l → Rising (insert p l)
insert_rises p [] r = rw insert_none (none_of (λ q. T (before p q)), tt)
insert_rises p (q ∷ l) r = go (insert_rises p l r.1) (by_order p q)
  where
    after : before q p ≡ true → (x : Point) → (x ≡ p) ⊎ In x l → T (before q x)
    after h x (inl e) = subst (λ (y : Point). T (before q y)) (sym e) (true_test h)
    after h x (inr i) = r.0 x i

    go : Rising (insert p l) → ByOrder p q → Rising (insert p (q ∷ l))
    go s (ahead e) = rw (insert-ahead p q l e) (also (λ x. T (before p x)) (true_test e) (λ x i. before_trans p q x (true_test e) (r.0 x i)), r)
    go s (behind e h) = rw (insert_behind p q l e h) (λ x i. after h x (insert_in p l i), s)
    go s (level e h t) = rw (insert_level p q l e h) r

pub sorted_rises : (l : List Point) → Rising (sorted l)
unfolding sorted
sorted_rises [] = tt
sorted_rises (p ∷ l) = insert_rises p (sorted l) (sorted_rises l)

to_sorted : (l : List Point) (x : Point) → In x l → In x (sorted l)
unfolding sorted
to_sorted [] x i = i
to_sorted (p ∷ l) x i = go (λ k. to_sorted l x k) (Memᴰ.cases_cons i)
  where
    go : (In x l → In x (sorted l)) → (x ≡ p) ⊎ In x l → In x (insert p (sorted l))
    go f (inl e) = Memᴰ.cast e (insert_new p (sorted l))
    go f (inr k) = insert_old p (sorted l) (f k)

from_sorted : (l : List Point) (x : Point) → In x (sorted l) → In x l
unfolding sorted
from_sorted [] x i = i
from_sorted (p ∷ l) x i = go (λ k. from_sorted l x k) (insert_in p (sorted l) i)
  where
    go : (In x (sorted l) → In x l) → (x ≡ p) ⊎ In x (sorted l) → In x (p ∷ l)
    go f (inl e) = Memᴰ.head e
    go f (inr k) = Memᴰ.tail (f k)

pub sorted_same : (l : List Point) → Same l (sorted l)
sorted_same l = record { to = to_sorted l; from = from_sorted l }

-- ---- the length

pub insert-length : (p : Point) (l : List Point) → length (insert p l) ≤ suc (length l)
insert-length p [] = rw insert_none (omega arith)
insert-length p (q ∷ l) = go (insert-length p l) (by_order p q)
  where
    go : length (insert p l) ≤ suc (length l) → ByOrder p q → length (insert p (q ∷ l)) ≤ suc (suc (length l))
    go h (ahead e) = rw (insert-ahead p q l e) (omega arith)
    go h (behind e f) = rw (insert_behind p q l e f) (omega arith)
    go h (level e f s) = rw (insert_level p q l e f) (omega arith)

pub sorted-length : (l : List Point) → length (sorted l) ≤ length l
unfolding sorted
sorted-length [] = omega arith
sorted-length (p ∷ l) = omega (arith, insert-length p (sorted l), sorted-length l)

-- ---- the test

rises_test : (S : List Point) → Rising S → rising S ≡ true
unfolding rising
rises_test [] r = refl
rises_test (p ∷ []) r = refl
rises_test (p ∷ q ∷ S) r = both (test_true (before p q) (r.0 q (Memᴰ.head refl))) (rises_test (q ∷ S) r.1)

test_rises : (S : List Point) → rising S ≡ true → Rising S
unfolding rising
test_rises [] h = tt
test_rises (p ∷ []) h = (none_of (λ q. T (before p q)), tt)
test_rises (p ∷ q ∷ S) h = go (test_rises (q ∷ S) (rest (before p q) (rising (q ∷ S)) h))
  where
    next : T (before p q)
    next = true_test (first (before p q) (rising (q ∷ S)) h)

    go : Rising (q ∷ S) → Rising (p ∷ q ∷ S)
    go r = (also (λ x. T (before p x)) next (λ x i. before_trans p q x next (r.0 x i)), r)

pub rising_test : (S : List Point) → (Rising S → rising S ≡ true) × (rising S ≡ true → Rising S)
rising_test S = (rises_test S, test_rises S)

-- ---- two rising lists

pub fewer_or_same : (S R : List Point) → Rising S → Rising R → ((p : Point) → In p S → In p R) → (S ≡ R) ⊎ (length S < length R)
fewer_or_same [] [] s r f = inl refl
fewer_or_same [] (b ∷ R) s r f = inr (omega arith)
fewer_or_same (a ∷ S) [] s r f = absurd (Memᴰ.not-nil (f a (Memᴰ.head refl)))
fewer_or_same (a ∷ S) (b ∷ R) s r f = go (λ g. fewer_or_same S R s.1 r.1 g) (λ g. fewer_or_same (a ∷ S) R s r.1 g)
    (Memᴰ.cases_cons (f a (Memᴰ.head refl)))
  where
    not_first : {x : Point} → (b ≡ x → ⊥) → (x ≡ b) ⊎ In x R → In x R
    not_first n (inl e) = absurd (n (sym e))
    not_first n (inr i) = i

    -- the points of S come after a, and so does a after b where it is in R
    later : a ≡ b → (x : Point) → In x S → In x R
    later e x i = not_first (λ d. before_not_equal a x (s.0 x i) (e ∙ d)) (Memᴰ.cases_cons (f x (Memᴰ.tail i)))

    all_later : In a R → (x : Point) → (x ≡ a) ⊎ In x S → In x (a ∷ S) → In x R
    all_later k x (inl e) i = subst (λ (y : Point). In y R) (sym e) k
    all_later k x (inr j) i = not_first (before_not_equal b x (before_trans b a x (r.0 a k) (s.0 x j))) (Memᴰ.cases_cons (f x i))

    longer : ((a ∷ S) ≡ R) ⊎ (suc (length S) < length R) → suc (length S) < suc (length R)
    longer (inl e) = let n : suc (length S) ≡ length R = ap length e in omega arith
    longer (inr h) = omega arith

    next : a ≡ b → (S ≡ R) ⊎ (length S < length R) → ((a ∷ S) ≡ (b ∷ R)) ⊎ (suc (length S) < suc (length R))
    next e (inl d) = inl (ap {B = List Point} (λ x. x ∷ S) e ∙ ap {B = List Point} (λ l. b ∷ l) d)
    next e (inr h) = inr (omega arith)

    go : (((x : Point) → In x S → In x R) → (S ≡ R) ⊎ (length S < length R))
        → (((x : Point) → In x (a ∷ S) → In x R) → ((a ∷ S) ≡ R) ⊎ (suc (length S) < length R))
        → (a ≡ b) ⊎ In a R → ((a ∷ S) ≡ (b ∷ R)) ⊎ (suc (length S) < suc (length R))
    go g h (inl e) = next e (g (later e))
    go g h (inr k) = inr (longer (h (λ x i. all_later k x (Memᴰ.cases_cons i) i)))
