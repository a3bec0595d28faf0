-- Two's complement: there and back, for every width from 1 byte to 8.
--
--   half_pos, half_le           : the half is above 0 and at most 2^63
--   twos_lt, back_mag           : the bytes of a signed number are below 2^(8n); what is read back has its magnitude below the half
--   back-twos, twos_back        : a signed number comes back from its bytes, and bytes from their signed number
use mathlib.Core.Path.{◌≡◌, refl, sym, ap, ◌∙◌, subst}
use mathlib.Core.Bool.{Bool, true, false}
use Prim.Native.Nat.{ℕ, suc, ◌+◌, ◌-◌, ◌*◌, ◌^◌, ◌≤◌, ◌<◌}
use native.Mathlib.Omega.{arith}
use borrow.Author.Tests.{lt-ltb, le-ltb, ltb-true, ltb-false}
use lib.Dec.{ltb}
use lib.IntN.{ℤ, pos, negsuc}
use lib.Pow.{pow_pos, pow_mono}
use lib.Signed.{mag}
use Rattle.twos_complement.specs.Twos.{Width, half, twos, pick_z, back}

-- ---- the size of the half

module _ {n : ℕ} (w : Width n) where
  pub half_pos : 0 < half n
  half_pos = pow_pos (8 * n - 1)

  pub half_le : half n ≤ 2 ^ 63
  half_le = let h : 8 * n - 1 ≤ 63 = omega (arith, w.few) in pow_mono h

-- ---- there and back

pub twos_lt : (n : ℕ) (z : ℤ) → mag z < half n → twos n z < half n + half n
unfolding twos
twos_lt n (pos m) h = omega arith
twos_lt n (negsuc m) h = omega arith

pub back-twos : (n : ℕ) (z : ℤ) → mag z < half n → back n (twos n z) ≡ z
unfolding twos back
back-twos n (pos m) h = ap (λ (b : Bool). pick_z b (pos m) (negsuc (half n + half n - suc m))) (lt-ltb m (half n) h)
back-twos n (negsuc m) h =
    let H = half n in
    let u = H + H - suc m in
    ap (λ (b : Bool). pick_z b (pos u) (negsuc (H + H - suc u))) (le-ltb u H (upper m H h)) ∙ ap negsuc (again m H h)
  where
    upper : (m H : ℕ) → m < H → H ≤ H + H - suc m
    upper m H h = omega arith

    again : (m H : ℕ) → m < H → H + H - suc (H + H - suc m) ≡ m
    again m H h = omega arith

-- ---- back and there: the two cases of `back`

pub back_low : (n u : ℕ) → u < half n → back n u ≡ pos u
unfolding back
back_low n u l = ap (λ (b : Bool). pick_z b (pos u) (negsuc (half n + half n - suc u))) (lt-ltb u (half n) l)

pub back-high : (n u : ℕ) → half n ≤ u → back n u ≡ negsuc (half n + half n - suc u)
unfolding back
back-high n u l = ap (λ (b : Bool). pick_z b (pos u) (negsuc (half n + half n - suc u))) (le-ltb u (half n) l)

pub twos_back : (n u : ℕ) → u < half n + half n → twos n (back n u) ≡ u
unfolding twos
twos_back n u h = go (ltb u (half n)) refl
  where
    again : (u H : ℕ) → u < H + H → H + H - suc (H + H - suc u) ≡ u
    again u H h = omega arith

    go : (b : Bool) → ltb u (half n) ≡ b → twos n (back n u) ≡ u
    go true e = ap (twos n) (back_low n u (ltb-true u (half n) e))
    go false e = ap (twos n) (back-high n u (ltb-false u (half n) e)) ∙ again u (half n) h

pub back_mag : (n u : ℕ) → u < half n + half n → mag (back n u) < half n
back_mag n u h = go (ltb u (half n)) refl
  where
    under : (u H : ℕ) → H ≤ u → u < H + H → H + H - suc u < H
    under u H l h = omega arith

    go : (b : Bool) → ltb u (half n) ≡ b → mag (back n u) < half n
    go true e = let l = ltb-true u (half n) e in subst (λ (z : ℤ). mag z < half n) (sym (back_low n u l)) l
    go false e = let l = ltb-false u (half n) e in subst (λ (z : ℤ). mag z < half n) (sym (back-high n u l)) (under u (half n) l h)
