-- Numbers that are at most Q/P apart, multiplied out.
--
--   Apart P Q m n                 : |m − n| is at most Q/P
--   equal_apart, wider, finer     : equal numbers are; with a larger Q; with P and Q times a number
--   scaled, cancelled             : with m, n and Q times a number
--   carried                       : what is close to g/l is close to an equal fraction M/D
--   distance_most                 : the absolute value of the difference, with either sign before both
use mathlib.Core.Path.{◌≡◌, refl, sym, ap, ◌∙◌, subst}
use mathlib.Core.Logic.{◌⊎◌, inl, inr}
use mathlib.Core.Bool.{Bool, true, false, not, cond}
use Prim.Native.Nat.{ℕ, zero, suc, ◌+◌, ◌-◌, ◌*◌, ◌≤◌, ◌<◌}
use native.Mathlib.Nat.{le_trans, le_of_eq, le_of_mul-le-mul_right, mul_assoc, mul_right_comm, add-mul, mul-le-mul_right}
use native.Mathlib.Omega.{arith}
use lib.Dec.{T, ltb, ltb→lt, nltb→le}
use lib.IntN.{pos, negsuc, neg_ℤ, nat_abs, ◌-ℤ◌}
use Rattle.integers.specs.Order.{signed}
use Rattle.integers.proofs.Abs.{abs_neg}
use Rattle.integers.proofs.Laws.{neg_sum}

pub record Apart (P Q m n : ℕ) : Type 0 where
  pub not_above : m * P ≤ n * P + Q
  pub not_below : n * P ≤ m * P + Q

-- ---- one side

over_finer : (P Q m n T : ℕ) → m * P ≤ n * P + Q → m * (P * T) ≤ n * (P * T) + Q * T
over_finer P Q m n T h =
    le_trans (le_of_eq (sym (mul_assoc m P T)))
    (le_trans (mul-le-mul_right T h) (le_of_eq (add-mul (n * P) Q T ∙ ap (λ (z : ℕ). z + Q * T) (mul_assoc n P T))))

module _ (P Q m n k : ℕ) where
  left : m * k * P ≡ m * P * k
  left = mul_right_comm m k P

  right : n * k * P + Q * k ≡ (n * P + Q) * k
  right = ap (λ (z : ℕ). z + Q * k) (mul_right_comm n k P) ∙ sym (add-mul (n * P) Q k)

  over_scaled : m * P ≤ n * P + Q → m * k * P ≤ n * k * P + Q * k
  over_scaled h = le_trans (le_of_eq left) (le_trans (mul-le-mul_right k h) (le_of_eq (sym right)))

  over_cancelled : 0 < k → m * k * P ≤ n * k * P + Q * k → m * P ≤ n * P + Q
  over_cancelled some h = le_of_mul-le-mul_right (le_trans (le_of_eq (sym left)) (le_trans h (le_of_eq right))) some

-- ---- both

pub equal_apart : {P Q m n : ℕ} → m ≡ n → Apart P Q m n
equal_apart {P} {Q} {m} {n} e =
    let s : m * P ≡ n * P = ap (λ (z : ℕ). z * P) e in
    record { not_above = omega arith; not_below = omega arith }

pub wider : {P Q R m n : ℕ} → Q ≤ R → Apart P Q m n → Apart P R m n
wider h a = let x = a.not_above in let y = a.not_below in record { not_above = omega arith; not_below = omega arith }

pub finer : {P Q m n : ℕ} (T : ℕ) → Apart P Q m n → Apart (P * T) (Q * T) m n
finer {P} {Q} {m} {n} T a = record { not_above = over_finer P Q m n T a.not_above; not_below = over_finer P Q n m T a.not_below }

scaled : {P Q m n : ℕ} (k : ℕ) → Apart P Q m n → Apart P (Q * k) (m * k) (n * k)
scaled {P} {Q} {m} {n} k a = record { not_above = over_scaled P Q m n k a.not_above; not_below = over_scaled P Q n m k a.not_below }

cancelled : {P Q m n : ℕ} (k : ℕ) → 0 < k → Apart P (Q * k) (m * k) (n * k) → Apart P Q m n
cancelled {P} {Q} {m} {n} k some a = record {
  not_above = over_cancelled P Q m n k some a.not_above;
  not_below = over_cancelled P Q n m k some a.not_below;
}

pub carried : (P M D g l a c : ℕ) → 0 < l → M * l ≡ g * D → Apart P (c * l) (g * c) (a * l) → Apart P (c * D) (M * c) (a * D)
carried P M D g l a c some same h =
    let over : g * c * D ≡ M * c * l = mul_right_comm g c D ∙ ap (λ (z : ℕ). z * c) (sym same) ∙ mul_right_comm M l c in
    let k = scaled D h in
    cancelled l some
    (subst (λ (z : ℕ). Apart P (c * D * l) z (a * D * l)) over
    (subst (λ (z : ℕ). Apart P (c * D * l) (g * c * D) z) (mul_right_comm a l D)
    (subst (λ (z : ℕ). Apart P z (g * c * D) (a * l * D)) (mul_right_comm c l D) k)))

-- ---- the absolute value of a difference

difference : (m n : ℕ) → (m + nat_abs (pos m -ℤ pos n) ≡ n) ⊎ (n + nat_abs (pos m -ℤ pos n) ≡ m)
difference m zero = inr (omega arith)
difference m (suc k) = go (ltb m (suc k)) (ltb→lt m (suc k)) (nltb→le m (suc k))
  where
    far : Bool → ℕ
    far b = nat_abs (cond b (negsuc (suc k - suc m)) (pos (m - suc k)))

    go : (b : Bool) → (T b → m < suc k) → (T (not b) → suc k ≤ m) → (m + far b ≡ suc k) ⊎ (suc k + far b ≡ m)
    go true h g = let l = h tt in inl (omega arith)
    go false h g = let l = g tt in inr (omega arith)

signed_difference : (s : Bool) (m n : ℕ) → nat_abs (signed s m -ℤ signed s n) ≡ nat_abs (pos m -ℤ pos n)
signed_difference true m n = ap nat_abs (sym (neg_sum (pos m) (neg_ℤ (pos n)))) ∙ abs_neg (pos m -ℤ pos n)
signed_difference false m n = refl

pub distance_most : (s : Bool) {P Q m n : ℕ} → Apart P Q m n → nat_abs (signed s m -ℤ signed s n) * P ≤ Q
distance_most s {P} {Q} {m} {n} a =
    subst (λ (k : ℕ). k * P ≤ Q) (sym (signed_difference s m n)) (go (nat_abs (pos m -ℤ pos n)) a.not_above a.not_below (difference m n))
  where
    go : (k : ℕ) → m * P ≤ n * P + Q → n * P ≤ m * P + Q → (m + k ≡ n) ⊎ (n + k ≡ m) → k * P ≤ Q
    go k x y (inl e) = let z : m * P + k * P ≡ n * P = sym (add-mul m k P) ∙ ap (λ (z : ℕ). z * P) e in omega arith
    go k x y (inr e) = let z : n * P + k * P ≡ m * P = sym (add-mul n k P) ∙ ap (λ (z : ℕ). z * P) e in omega arith
