-- The quotient of a signed number by a positive one, toward 0, as the machine works it out.
--
--   quot_fits, quot_back   : z / g fits an i64 where z does, and is read back as the quotient
use mathlib.Core.Path.{◌≡◌, sym, ap₂, ◌∙◌, subst}
use Prim.Native.Nat.{ℕ, zero, suc, ◌/◌, ◌^◌, ◌≤◌, ◌<◌}
use native.Mathlib.Nat.{lt_of_le_of_lt, div-le_self}
use native.Mathlib.Omega.{arith}
use lib.IntN.{ℤ, pos, negsuc, neg_ℤ}
use lib.Signed.{mag, quot_z}
use mir.Syntax.{w64}
use mir.Val.{SFits, to_z, of_z}
use mir.Facts.{to_z-of_z}
use mir.ValLaws.{to_z_pos}

-- of a quotient k of suc n, negated
mag_neg : (k n : ℕ) → k ≤ suc n → mag (neg_ℤ (pos k)) ≤ n
mag_neg zero n h = omega arith
mag_neg (suc k) n h = omega arith

mag_quot : (z : ℤ) (g : ℕ) → mag (quot_z z (pos g)) ≤ mag z
mag_quot (pos n) g = div-le_self n g
mag_quot (negsuc n) g = mag_neg (suc n / g) n (div-le_self (suc n) g)

module _ (z : ℤ) (g : ℕ) (fits : SFits w64 z) (h : g < 2 ^ 63) where
  reads : quot_z (to_z w64 (of_z w64 z)) (to_z w64 g) ≡ quot_z z (pos g)
  reads = ap₂ quot_z (to_z-of_z fits) (to_z_pos w64 g h)

  pub quot_fits : SFits w64 (quot_z (to_z w64 (of_z w64 z)) (to_z w64 g))
  quot_fits = subst (SFits w64) (sym reads) (record { sfits = lt_of_le_of_lt (mag_quot z g) fits.sfits })

  pub quot_back : to_z w64 (of_z w64 (quot_z (to_z w64 (of_z w64 z)) (to_z w64 g))) ≡ quot_z z (pos g)
  quot_back = to_z-of_z quot_fits ∙ reads
