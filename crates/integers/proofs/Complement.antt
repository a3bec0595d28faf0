-- The complement of a signed number, -1 - z, as the machine works it out from the bits of z, and the side of 0 that a number is on. A cast of a
-- negative number to an unsigned type is not allowed; its complement is not negative, and can be cast.
--
--   complement z             == -1 - z, by the two forms of an integer
--   minus_fits, minus_back   : the machine's -1 - z fits an i64, and is read back as `complement z`
--   Side z b                 == z is below 0 where b is true, and from 0 on where it is false
--   sided                    : the machine's test of z < 0 decides which
use mathlib.Core.Path.{◌≡◌, refl, sym, ap, ◌∙◌, subst}
use mathlib.Core.Bool.{Bool, true, false, true≢false}
use Prim.Native.Nat.{ℕ, zero, suc}
use native.Mathlib.Nat.{not-suc-le-zero}
use borrow.Author.Tests.{ltb-true}
use lib.IntN.{ℤ, pos, negsuc, neg_ℤ, pred_ℤ, ◌-ℤ◌, +ℤ_idl, pred_ℤ-+ℤ}
use lib.Signed.{lt_z}
use mir.Syntax.{w64}
use mir.Val.{SFits, to_z, of_z}
use mir.Facts.{to_z-of_z}

abbrev pub complement : ℤ → ℤ
complement (pos n) = negsuc n
complement (negsuc n) = pos n

pred_neg : (z : ℤ) → pred_ℤ (neg_ℤ z) ≡ complement z
pred_neg (pos zero) = refl
pred_neg (pos (suc n)) = refl
pred_neg (negsuc n) = refl

complement_is : (z : ℤ) → negsuc 0 -ℤ z ≡ complement z
complement_is z = pred_ℤ-+ℤ (pos 0) (neg_ℤ z) ∙ ap pred_ℤ (+ℤ_idl (neg_ℤ z)) ∙ pred_neg z

complement_fits : (z : ℤ) → SFits w64 z → SFits w64 (complement z)
complement_fits (pos n) f = record { sfits = f.sfits }
complement_fits (negsuc n) f = record { sfits = f.sfits }

-- for a number that the machine reads as z
module _ (m : ℤ) (z : ℤ) (reads : m ≡ z) (fits : SFits w64 z) where
  minus : negsuc 0 -ℤ m ≡ complement z
  minus = ap (λ (y : ℤ). negsuc 0 -ℤ y) reads ∙ complement_is z

  pub minus_fits : SFits w64 (negsuc 0 -ℤ m)
  minus_fits = subst (SFits w64) (sym minus) (complement_fits z fits)

  pub minus_back : to_z w64 (of_z w64 (negsuc 0 -ℤ m)) ≡ complement z
  minus_back = to_z-of_z minus_fits ∙ minus

-- ---- a number below 0, and a number from 0 on

pub data Side : ℤ → Bool → Type 0 where
  under : (n : ℕ) → Side (negsuc n) true
  from : (n : ℕ) → Side (pos n) false

side : (z : ℤ) (b : Bool) → lt_z z (pos 0) ≡ b → Side z b
side (pos n) true h = absurd (not-suc-le-zero (ltb-true n 0 h))
side (pos n) false h = from n
side (negsuc n) true h = under n
side (negsuc n) false h = absurd (true≢false h)

-- by the machine's test, which is of z as it is read back from its bits
pub sided : {z : ℤ} {b : Bool} → SFits w64 z → lt_z (to_z w64 (of_z w64 z)) (pos 0) ≡ b → Side z b
sided {z} {b} fits t = side z b (ap (λ (y : ℤ). lt_z y (pos 0)) (sym (to_z-of_z fits)) ∙ t)

-- ---- casts to a u64
