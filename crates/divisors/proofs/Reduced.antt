-- Triples in proportion: scaling, and the one reduced triple of a proportion (01: "so each disk has a single writing").
--
--   common_scale     : common (k·x) (k·y) (k·e) ≡ k · common x y e, for k ≥ 1
--   reduced_common   : a reduced triple has the common divisor 1
--   reduced_unique   : two reduced triples with x·e' ≡ x'·e and y·e' ≡ y'·e, e and e' ≥ 1, are equal
use mathlib.Core.Path.{◌≡◌, sym, ap, ap₂, ◌∙◌}
use Prim.Native.Nat.{ℕ, ◌*◌, ◌<◌}
use native.Mathlib.Nat.{mul_comm, mul-one}
use native.Mathlib.Omega.{arith}
use lib.IntN.{ℤ, pos, nat_abs, ◌*ℤ◌}
use Rattle.integers.proofs.Abs.{abs_*}
use Rattle.divisors.specs.Divisor.{gcd, common, Reduced}
use Rattle.divisors.proofs.Gcd.{gcd_scale}
use Rattle.integers.proofs.Laws.{*_comm}
use Rattle.divisors.proofs.LowestTerms.{divides_x, divides_y, divides_e}
use Rattle.integers.proofs.Order.{≡_cancel}

-- ---- scaling

pub common_scale : (k : ℕ) (x y : ℤ) (e : ℕ) → 0 < k → common (pos k *ℤ x) (pos k *ℤ y) (k * e) ≡ k * common x y e
common_scale k x y e h =
    ap₂ (λ (m n : ℕ). gcd (gcd m n) (k * e)) (abs_* (pos k) x) (abs_* (pos k) y)
    ∙ ap (λ (m : ℕ). gcd m (k * e)) (gcd_scale k (nat_abs x) (nat_abs y) h)
    ∙ gcd_scale k (gcd (nat_abs x) (nat_abs y)) e h

-- ---- the one reduced triple

pub reduced_common : (x y : ℤ) (e : ℕ) → Reduced x y e → common x y e ≡ 1
reduced_common x y e r = r (common x y e) (divides_x x y e) (divides_y x y e) (divides_e x y e)

positive_not_zero : {e : ℕ} → 0 < e → pos e ≡ pos 0 → ⊥
positive_not_zero {e} h p = let z : e ≡ 0 = ap nat_abs p in omega arith

module _ (x y : ℤ) (e : ℕ) (x' y' : ℤ) (e' : ℕ) (h : 0 < e) (h' : 0 < e') (r : Reduced x y e) (r' : Reduced x' y' e')
    (px : x *ℤ pos e' ≡ x' *ℤ pos e) (py : y *ℤ pos e' ≡ y' *ℤ pos e) where
  swapped : (z' z : ℤ) → z' *ℤ pos e ≡ z *ℤ pos e' → pos e *ℤ z' ≡ pos e' *ℤ z
  swapped z' z p = *_comm (pos e) z' ∙ p ∙ *_comm z (pos e')

  -- e' times the first triple is e times the second
  same_e : e ≡ e'
  same_e =
      sym (ap (λ (g : ℕ). e * g) (reduced_common x' y' e' r') ∙ mul-one e)
      ∙ sym (common_scale e x' y' e' h)
      ∙ (λ i. common (swapped x' x (sym px) i) (swapped y' y (sym py) i) (mul_comm e e' i))
      ∙ common_scale e' x y e h'
      ∙ ap (λ (g : ℕ). e' * g) (reduced_common x y e r)
      ∙ mul-one e'

  same_number : (z z' : ℤ) → z *ℤ pos e' ≡ z' *ℤ pos e → z ≡ z'
  same_number z z' p = ≡_cancel (positive_not_zero h) (ap (λ (n : ℕ). pos n *ℤ z) same_e ∙ sym (swapped z' z (sym p)))

  pub reduced_unique : (x ≡ x') × (y ≡ y') × (e ≡ e')
  reduced_unique = (same_number x x' px, same_number y y' py, same_e)
