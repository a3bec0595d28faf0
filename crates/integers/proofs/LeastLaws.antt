-- The least number that passes a test.
--
--   least_is    : where n passes, `least test n` is the least number that does
--   least_most  : no number that passes is smaller than the least
--   only_least  : only one number is the least
--   one_more    : what fails below r, and at r, fails below r + 1
use mathlib.Core.Path.{◌≡◌, refl, sym, ◌∙◌}
use mathlib.Core.Bool.{Bool, true, false, true≢false}
use mathlib.Core.Logic.{inl, inr}
use Prim.Native.Nat.{ℕ, zero, suc, ◌+◌, ◌≤◌, ◌<◌}
use native.Mathlib.Nat.{le_antisymm, le_of_suc-le-suc, lt_of_not-le, eq-or-lt_of_le, add-zero, zero-add, add-suc, suc-add}
use native.Mathlib.Omega.{arith}
use Rattle.integers.specs.Least.{IsLeast, first_from, least}

pub one_more : (test : ℕ → Bool) {r : ℕ} → ((k : ℕ) → k < r → test k ≡ false) → test r ≡ false → (k : ℕ) → k < suc r → test k ≡ false
one_more test {r} below h k l = elim (eq-or-lt_of_le (le_of_suc-le-suc l)) [ inl p ↦ rw p h | inr q ↦ below k q ]

first_is : (test : ℕ → Bool) (n : ℕ) (b : Bool) (r : ℕ) → test r ≡ b → ((k : ℕ) → k < r → test k ≡ false) → test (r + n) ≡ true
    → IsLeast test (first_from test n b r)
unfolding first_from
first_is test zero b r e below h = record { passes = rw (add-zero r) at h; first = below }
first_is test (suc n) true r e below h = record { passes = e; first = below }
first_is test (suc n) false r e below h = first_is test n (test (suc r)) (suc r) refl (one_more test below e) (rw suc-add (rw add-suc at h))

pub least_is : (test : ℕ → Bool) (n : ℕ) → test n ≡ true → IsLeast test (least test n)
unfolding least
least_is test n h = first_is test n (test 0) 0 refl (λ k l. absurd (none k l)) (rw zero-add h)
  where
    none : (k : ℕ) → k < 0 → ⊥
    none k l = omega arith

pub least_most : {test : ℕ → Bool} {r q : ℕ} → IsLeast test r → test q ≡ true → r ≤ q
least_most {test} {r} {q} i h = le_of_suc-le-suc (lt_of_not-le (λ (l : suc q ≤ r). true≢false (sym h ∙ i.first q l)))

pub only_least : {test : ℕ → Bool} {r q : ℕ} → IsLeast test r → IsLeast test q → r ≡ q
only_least i j = le_antisymm (least_most i j.passes) (least_most j i.passes)
