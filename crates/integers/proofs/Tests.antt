-- Tests of order and rows of tests, for contracts that answer a Bool.
--
--   and_left, and_right  : the two tests of a row that holds
--   and_both             : two tests that hold, in a row, as `T`
--   both                 : two tests that hold, in a row
--   last_test            : a row that ends in `true` ends in the test before it
--   same_test            : two tests that hold in the same cases are equal
--   stop, pass           : of a row a && b, the first test that fails decides
--   first, rest          : a row that held, taken apart
--   test_true, true_test : a test that holds, as `T` and as an equation
--   below, not_below     : `lt_z a b` decides `le_z b a`
--   between_most         : a number between two of size B at most is so too
--   between-low, between-high : it is at least the one and at most the other
use mathlib.Core.Path.{◌≡◌, refl, sym, subst}
use mathlib.Core.Bool.{Bool, true, false, ◌&&◌, true≢false}
use Prim.Native.Nat.{ℕ, ◌≤◌}
use native.Mathlib.Nat.{le_trans}
use native.Mathlib.Omega.{arith}
use borrow.Author.Tests.{le-leb, lt-leb, ltb-true, ltb-false, leb-true}
use lib.Dec.{T}
use lib.IntN.{ℤ, pos, negsuc, nat_abs}
use lib.Signed.{lt_z, le_z, ◌≤ℤ◌}
use Rattle.integers.specs.Order.{between}

-- ---- rows of tests

pub stop : {a : Bool} (b : Bool) → a ≡ false → false ≡ a && b
stop {a = true} b h = absurd (true≢false h)
stop {a = false} b h = refl

pub pass : {a b c : Bool} → a ≡ true → c ≡ b → c ≡ a && b
pass {a = true} h k = k
pass {a = false} h k = absurd (true≢false (sym h))

pub first : (a b : Bool) → a && b ≡ true → a ≡ true
first true b h = refl
first false b h = h

pub rest : (a b : Bool) → a && b ≡ true → b ≡ true
rest true b h = h
rest false b h = absurd (true≢false (sym h))

pub and_left : (a b : Bool) → T (a && b) → T a
and_left true b t = tt
and_left false b t = t

pub and_right : (a b : Bool) → T (a && b) → T b
and_right true b t = t
and_right false b t = absurd t

pub and_both : (a b : Bool) → T a → T b → T (a && b)
and_both true b s t = t
and_both false b s t = s

pub both : {a b : Bool} → a ≡ true → b ≡ true → a && b ≡ true
both h k = sym (pass h (sym k))

pub last_test : (b : Bool) → b ≡ b && true
last_test true = refl
last_test false = refl

pub same_test : (a b : Bool) → (T a → T b) → (T b → T a) → a ≡ b
same_test true true f g = refl
same_test true false f g = absurd (f tt)
same_test false true f g = absurd (g tt)
same_test false false f g = refl

pub test_true : (b : Bool) → T b → b ≡ true
test_true true t = refl
test_true false t = elim t [ ]

pub true_test : {b : Bool} → b ≡ true → T b
true_test e = subst T (sym e) tt

-- ---- the order by its tests

pub below : (a b : ℤ) → lt_z a b ≡ true → le_z b a ≡ false
below (pos a) (pos b) h = lt-leb b a (ltb-true a b h)
below (pos a) (negsuc b) h = absurd (true≢false (sym h))
below (negsuc a) (pos b) h = refl
below (negsuc a) (negsuc b) h = lt-leb a b (ltb-true b a h)

pub not_below : (a b : ℤ) → lt_z a b ≡ false → le_z b a ≡ true
not_below (pos a) (pos b) h = le-leb b a (ltb-false a b h)
not_below (pos a) (negsuc b) h = refl
not_below (negsuc a) (pos b) h = absurd (true≢false h)
not_below (negsuc a) (negsuc b) h = le-leb a b (ltb-false b a h)

most : (lo z hi : ℤ) (B : ℕ) → nat_abs lo ≤ B → nat_abs hi ≤ B → le_z lo z ≡ true → le_z z hi ≡ true → nat_abs z ≤ B
most lo (pos a) (pos n) B l h p q = le_trans (leb-true a n q) h
most lo (pos a) (negsuc n) B l h p q = absurd (true≢false (sym q))
most (pos m) (negsuc a) hi B l h p q = absurd (true≢false (sym p))
most (negsuc m) (negsuc a) hi B l h p q = let k : a ≤ m = leb-true a m p in omega arith

pub between_most : (lo z hi : ℤ) {B : ℕ} → nat_abs lo ≤ B → nat_abs hi ≤ B → between lo z hi ≡ true → nat_abs z ≤ B
between_most lo z hi {B} l h k = most lo z hi B l h (first (le_z lo z) (le_z z hi) k) (rest (le_z lo z) (le_z z hi) k)

pub between-low : (lo z hi : ℤ) → between lo z hi ≡ true → lo ≤ℤ z
between-low lo z hi h = record { le = true_test (first (le_z lo z) (le_z z hi) h) }

pub between-high : (lo z hi : ℤ) → between lo z hi ≡ true → z ≤ℤ hi
between-high lo z hi h = record { le = true_test (rest (le_z lo z) (le_z z hi) h) }
