-- A triple X, Y, E of two integers and a natural number, divided by its greatest common divisor (01, "Disk and rim": the divisor rule).
--
--   divides_x, divides_y, divides_e, common_greatest   : `common` divides all three, and is the greatest that does
--   common-pos, common_le                              : for e ≥ 1 it is from 1 to e
--   coprime, lowest_reduced                            : a triple in lowest terms is reduced
--   quot_exact                                         : each number is its quotient times the common divisor
--   nat_abs_quot                                        : the quotient's size is the size's quotient
--
-- Scaling, and that a reduced triple is the only one in its proportion: Reduced.antt.
use mathlib.Core.Path.{◌≡◌, refl, sym, ap, ◌∙◌, subst}
use Prim.Native.Nat.{ℕ, zero, suc, ◌*◌, ◌/◌, ◌≤◌, ◌<◌, ◌∣◌}
use native.Mathlib.Nat.{dvd_trans, le_of_dvd, pos_of_dvd_of_pos, mul-dvd-mul_right, div-mul_cancel, eq-one_of_dvd-one, dvd_of_mul-dvd-mul_right, one-mul}
use native.Mathlib.Nat.{zero-mul}
use lib.IntN.{ℤ, pos, negsuc, neg_ℤ, nat_abs, ◌*ℤ◌}
use lib.Signed.{quot_z}
use Rattle.integers.proofs.Abs.{abs_neg}
use Rattle.divisors.specs.Divisor.{gcd, Reduced, common, lowest}
use Rattle.divisors.proofs.Gcd.{gcd_left, gcd_right, gcd_greatest}

-- ---- the common divisor

module _ (x y : ℤ) (e : ℕ) where
  pub divides_x : common x y e ∣ nat_abs x
  divides_x = dvd_trans (common x y e) (gcd_left (gcd (nat_abs x) (nat_abs y)) e) (gcd_left (nat_abs x) (nat_abs y))

  pub divides_y : common x y e ∣ nat_abs y
  divides_y = dvd_trans (common x y e) (gcd_left (gcd (nat_abs x) (nat_abs y)) e) (gcd_right (nat_abs x) (nat_abs y))

  pub divides_e : common x y e ∣ e
  divides_e = gcd_right (gcd (nat_abs x) (nat_abs y)) e

  pub common_greatest : (d : ℕ) → d ∣ nat_abs x → d ∣ nat_abs y → d ∣ e → d ∣ common x y e
  common_greatest d p q r = gcd_greatest (gcd (nat_abs x) (nat_abs y)) e d (gcd_greatest (nat_abs x) (nat_abs y) d p q) r

  pub common-pos : 0 < e → 0 < common x y e
  common-pos h = pos_of_dvd_of_pos divides_e h

  pub common_le : 0 < e → common x y e ≤ e
  common_le h = le_of_dvd h divides_e

-- d divides n / g, so d * g divides n
scaled : (d g n : ℕ) → g ∣ n → d ∣ n / g → d * g ∣ n
scaled d g n p q = subst (λ (m : ℕ). d * g ∣ m) (div-mul_cancel g p) (mul-dvd-mul_right d q g)

pub coprime : (x y : ℤ) (e d : ℕ) → 0 < e → d ∣ nat_abs x / common x y e → d ∣ nat_abs y / common x y e → d ∣ e / common x y e → d ≡ 1
coprime x y e d h p q r =
    let g = common x y e in
    let all : d * g ∣ g =
    common_greatest x y e (d * g) (scaled d g (nat_abs x) (divides_x x y e) p) (scaled d g (nat_abs y) (divides_y x y e) q)
    (scaled d g e (divides_e x y e) r) in
    eq-one_of_dvd-one (dvd_of_mul-dvd-mul_right d (common-pos x y e h) (subst (λ (m : ℕ). d * g ∣ m) (sym (one-mul g)) all))

-- ---- the quotients

neg_times : (q g : ℕ) → neg_ℤ (pos q) *ℤ pos g ≡ neg_ℤ (pos (q * g))
neg_times zero g = ap pos (zero-mul g) ∙ ap (λ (n : ℕ). neg_ℤ (pos n)) (sym (zero-mul g))
neg_times (suc q) g = refl

pub quot_exact : (z : ℤ) (g : ℕ) → g ∣ nat_abs z → quot_z z (pos g) *ℤ pos g ≡ z
quot_exact (pos n) g h = ap pos (div-mul_cancel g h)
quot_exact (negsuc n) g h = neg_times (suc n / g) g ∙ ap (λ (m : ℕ). neg_ℤ (pos m)) (div-mul_cancel g h)

pub nat_abs_quot : (z : ℤ) (g : ℕ) → nat_abs (quot_z z (pos g)) ≡ nat_abs z / g
nat_abs_quot (pos n) g = refl
nat_abs_quot (negsuc n) g = abs_neg (pos (suc n / g))

pub lowest_reduced : (x y : ℤ) (e : ℕ) → 0 < e → Reduced (lowest x y e).x (lowest x y e).y (lowest x y e).e
lowest_reduced x y e h d p q r =
    let g = common x y e in
    coprime x y e d h (subst (λ (n : ℕ). d ∣ n) (nat_abs_quot x g) p) (subst (λ (n : ℕ). d ∣ n) (nat_abs_quot y g) q) r
