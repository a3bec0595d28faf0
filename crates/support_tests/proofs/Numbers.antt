-- The machine's numbers in the tests of this crate.
--
--   stored_value    : a number as the machine reads it back, with a bound; stored-small: the bound is kept
--   offset_read     : v·e − c as `offset` gives it
--   midway_read     : `midway` of numbers that the machine reads back
--   same_numbers    : a test of equal numbers, signed or not
--   limits_small    : numbers within the limits of an answer are small
use mathlib.Core.Path.{◌≡◌, ap, ap₂, ◌∙◌, subst}
use mathlib.Core.Bool.{Bool}
use mathlib.Core.List.{[], ◌∷◌}
use Prim.Native.Nat.{ℕ, ◌*◌, ◌≤◌}
use lib.Dec.{T, eqb, eqb→eq, eqb_refl}
use lib.IntN.{ℤ, pos, neg_ℤ, nat_abs, ◌-ℤ◌, ◌*ℤ◌}
use mir.Syntax.{w16, w64}
use mir.Val.{SFits, to_z, of_z}
use mir.Facts.{to_z-of_z}
use Rattle.integers.specs.Order.{◌≼◌, eq_z}
use Rattle.integers.proofs.Tests.{same_test}
use Rattle.integers.proofs.Bounds.{Value, v_back, v_abs, at_most, within_range}
use Rattle.integers.proofs.Order.{pos_le, nn_nat, nonneg, le, ◌⊞◌, ◌⊠◌, eq_z_eq, eq_eq_z}
use Rattle.integers.proofs.Ring.{poly}
use Rattle.geometry.specs.Plane.{Disk}
use Rattle.geometry.specs.EmBox.{em, largest, WithinLimits}
use Rattle.support_tests.specs.Tests.{midway, SmallPair, SmallDisk}

abbrev pub stored_value : (z : ℤ) {B : ℕ} → nat_abs z ≤ B → Value (to_z w64 (of_z w64 z))
stored_value z h = v_back w64 {z = z} (v_abs {z = z} h)

pub stored_small : (e : ℕ) (z : ℤ) → SmallPair e z → SmallPair e (to_z w64 (of_z w64 z))
stored_small e z h = record { e_most = h.e_most; c_most = (at_most (stored_value z h.c_most) tt).within }

pub offset_read : (v : ℤ) (e : ℕ) (c : ℤ) {r : ℤ} → SFits w16 v → SFits w64 c → SFits w64 r
    → r ≡ to_z w16 (of_z w16 v) *ℤ pos e -ℤ to_z w64 (of_z w64 c) → to_z w64 (of_z w64 r) ≡ v *ℤ pos e -ℤ c
offset_read v e c f g k h = to_z-of_z k ∙ h ∙ ap₂ (λ (a b : ℤ). a *ℤ pos e -ℤ b) (to_z-of_z f) (to_z-of_z g)

pub midway_read :
    (a b : ℤ) (e : ℕ) (c : ℤ) {r : Bool} → SFits w16 a → SFits w16 b → SFits w64 c
    → r ≡ midway (to_z w16 (of_z w16 a)) (to_z w16 (of_z w16 b)) e (to_z w64 (of_z w64 c)) → r ≡ midway a b e c
midway_read a b e c f g h q = q ∙ ap₂ (λ (x y : ℤ). midway x y e (to_z w64 (of_z w64 c))) (to_z-of_z f) (to_z-of_z g) ∙ ap (midway a b e) (to_z-of_z h)

pub same_numbers : (m n : ℕ) → eqb m n ≡ eq_z (pos m) (pos n)
same_numbers m n = same_test (eqb m n) (eq_z (pos m) (pos n)) (λ t. eq_eq_z (pos m) (pos n) (ap pos (eqb→eq m n t)))
    (λ t. subst (λ (k : ℕ). T (eqb m k)) (ap nat_abs (eq_z_eq (pos m) (pos n) t)) (eqb_refl m))

-- ---- sizes

-- |c/e| ≤ m where c/e is between two numbers of that size
module _ (lo hi m e c n : ℤ) (e_low : pos 0 ≼ e) (e_high : e ≼ n) (m_low : pos 0 ≼ m) where
  centre-low : neg_ℤ m ≼ lo → lo *ℤ e ≼ c → neg_ℤ (m *ℤ n) ≼ c
  centre-low h k = nonneg (lo ∷ hi ∷ m ∷ e ∷ c ∷ n ∷ []) (le k ⊞ le h ⊠ e_low ⊞ m_low ⊠ le e_high) (search poly depth 30) tt

  centre-high : hi ≼ m → c ≼ hi *ℤ e → c ≼ m *ℤ n
  centre-high h k = nonneg (lo ∷ hi ∷ m ∷ e ∷ c ∷ n ∷ []) (le k ⊞ le h ⊠ e_low ⊞ m_low ⊠ le e_high) (search poly depth 30) tt

module _ (d : Disk) (a : WithinLimits em d) where
  e_high : pos d.e ≼ pos em.scale
  e_high = pos_le a.e_most

  -- lo and hi are the two sides of the em box along x, or along y
  centre_small : (lo hi c : ℤ) → neg_ℤ (pos (largest em)) ≼ lo → hi ≼ pos (largest em) → lo *ℤ pos d.e ≼ c → c ≼ hi *ℤ pos d.e
      → SmallPair d.e c
  centre_small lo hi c l h low high =
      let m = pos (largest em) in
      let n = pos em.scale in
      record {
        e_most = a.e_most;
        c_most = (within_range {B = largest em * em.scale} {z = c}
            (centre-low lo hi m (pos d.e) c n (nn_nat d.e) e_high (nn_nat (largest em)) l low)
            (centre-high lo hi m (pos d.e) c n (nn_nat d.e) e_high (nn_nat (largest em)) h high)).within;
      }

  pub limits_small : SmallDisk d
  limits_small = (
    centre_small em.left em.right d.x (record { le = tt }) (record { le = tt }) a.x_low a.x_high,
    centre_small em.foot em.top d.y (record { le = tt }) (record { le = tt }) a.y_low a.y_high,
  )
