-- A centre q + g/e in lowest terms: g and e are reduced, and q is added.
--
--   divides_shifted  : a divisor of e and z is one of q·e + z
--   common_shifted   : so the greatest common divisor is that of g and e
--   quot_shifted     : the quotients are those of g, with q added
--   square_quotients : and S divided by the divisor's square is the square of g's quotients
--   shifted_terms    : together, the disk with centre q + g/e and q on its boundary, in lowest terms
use mathlib.Core.Path.{◌≡◌, sym, ap, ◌∙◌, subst}
use mathlib.Core.List.{[], ◌∷◌}
use Prim.Native.Nat.{ℕ, ◌*◌, ◌/◌, ◌<◌, ◌∣◌}
use native.Mathlib.Nat.{dvd-mul_left, dvd_antisymm, div-mul_cancel, mul-div_cancel_left, mul-pos}
use native.Mathlib.Omega.{arith}
use lib.IntN.{ℤ, pos, negsuc, neg_ℤ, nat_abs, ◌+ℤ◌, ◌*ℤ◌}
use lib.Signed.{quot_z}
use Rattle.integers.proofs.Abs.{abs_*}
use Rattle.integers.proofs.Laws.{*_comm}
use Rattle.divisors.specs.Divisor.{common, lowest}
use Rattle.divisors.proofs.LowestTerms.{divides_x, divides_y, divides_e, common_greatest, common-pos, quot_exact}
use Rattle.integers.proofs.Order.{≡_cancel}
use Rattle.divisors.specs.declared.Triple.{Triple}
use Rattle.integers.proofs.Ring.{ring, poly, linear, eqn, ◌&◌}
use Rattle.geometry.specs.Plane.{Disk}
use Rattle.disks.specs.Procedure.{lowest_terms}

-- ---- the divisor

multiple : (g : ℕ) (z a : ℤ) → z ≡ a *ℤ pos g → g ∣ nat_abs z
multiple g z a e = subst (λ (n : ℕ). g ∣ n) (sym (ap nat_abs e ∙ abs_* a (pos g))) (dvd-mul_left g (nat_abs a))

shift_exact : (q e z k g a : ℤ) → k *ℤ g ≡ e → a *ℤ g ≡ z → q *ℤ e +ℤ z ≡ (q *ℤ k +ℤ a) *ℤ g
shift_exact q e z k g a h l = linear (q ∷ e ∷ z ∷ k ∷ g ∷ a ∷ []) (eqn (neg_ℤ q) h & eqn (negsuc 0) l) (search poly depth 30) tt

not_zero : {g : ℕ} → 0 < g → pos g ≡ pos 0 → ⊥
not_zero {g} h p = let z : g ≡ 0 = ap nat_abs p in omega arith

module _ (g e : ℕ) (q z : ℤ) (in_e : g ∣ e) (in_z : g ∣ nat_abs z) where
  shifted_is : q *ℤ pos e +ℤ z ≡ (q *ℤ pos (e / g) +ℤ quot_z z (pos g)) *ℤ pos g
  shifted_is = shift_exact q (pos e) z (pos (e / g)) (pos g) (quot_z z (pos g)) (ap pos (div-mul_cancel g in_e)) (quot_exact z g in_z)

  pub divides_shifted : g ∣ nat_abs (q *ℤ pos e +ℤ z)
  divides_shifted = multiple g (q *ℤ pos e +ℤ z) (q *ℤ pos (e / g) +ℤ quot_z z (pos g)) shifted_is

  pub quot_shifted : 0 < g → quot_z (q *ℤ pos e +ℤ z) (pos g) ≡ q *ℤ pos (e / g) +ℤ quot_z z (pos g)
  quot_shifted some =
      ≡_cancel (not_zero some)
      (*_comm (pos g) (quot_z (q *ℤ pos e +ℤ z) (pos g))
      ∙ quot_exact (q *ℤ pos e +ℤ z) g divides_shifted
      ∙ shifted_is
      ∙ *_comm (q *ℤ pos (e / g) +ℤ quot_z z (pos g)) (pos g))

unshifted : (q e z : ℤ) → neg_ℤ q *ℤ e +ℤ (q *ℤ e +ℤ z) ≡ z
unshifted q e z = ring (q ∷ e ∷ z ∷ []) (search poly depth 30) tt

divides_back : (g e : ℕ) (q z : ℤ) → g ∣ e → g ∣ nat_abs (q *ℤ pos e +ℤ z) → g ∣ nat_abs z
divides_back g e q z in_e h =
    subst (λ (x : ℤ). g ∣ nat_abs x) (unshifted q (pos e) z) (divides_shifted g e (neg_ℤ q) (q *ℤ pos e +ℤ z) in_e h)

module _ (e : ℕ) (qx qy gx gy : ℤ) where
  abbrev x : ℤ
  x = qx *ℤ pos e +ℤ gx

  abbrev y : ℤ
  y = qy *ℤ pos e +ℤ gy

  pub common_shifted : common x y e ≡ common gx gy e
  common_shifted =
      let h = common x y e in
      let g = common gx gy e in
      let h_e = divides_e x y e in
      let g_e = divides_e gx gy e in
      dvd_antisymm
      (common_greatest gx gy e h (divides_back h e qx gx h_e (divides_x x y e)) (divides_back h e qy gy h_e (divides_y x y e)) h_e)
      (common_greatest x y e g (divides_shifted g e qx gx g_e (divides_x gx gy e)) (divides_shifted g e qy gy g_e (divides_y gx gy e)) g_e)

-- ---- the square

squares_scaled : (g a b h k n : ℤ) → h *ℤ g ≡ a → k *ℤ g ≡ b → n ≡ h *ℤ h +ℤ k *ℤ k → a *ℤ a +ℤ b *ℤ b ≡ (g *ℤ g) *ℤ n
squares_scaled g a b h k n p q e =
    linear (g ∷ a ∷ b ∷ h ∷ k ∷ n ∷ []) (eqn (neg_ℤ (a +ℤ h *ℤ g)) p & eqn (neg_ℤ (b +ℤ k *ℤ g)) q & eqn (neg_ℤ (g *ℤ g)) e) (search poly depth 30) tt

pub square_quotients : (g : ℕ) (a b : ℤ) (n : ℕ) → 0 < g → g ∣ nat_abs a → g ∣ nat_abs b
    → pos n ≡ quot_z a (pos g) *ℤ quot_z a (pos g) +ℤ quot_z b (pos g) *ℤ quot_z b (pos g) → nat_abs (a *ℤ a +ℤ b *ℤ b) / (g * g) ≡ n
square_quotients g a b n some in_a in_b e =
    ap (λ (z : ℤ). nat_abs z / (g * g)) (squares_scaled (pos g) a b (quot_z a (pos g)) (quot_z b (pos g)) (pos n) (quot_exact a g in_a) (quot_exact b g in_b) e)
    ∙ mul-div_cancel_left n (mul-pos some some)

-- ---- the disk

module _ (e : ℕ) (qx qy gx gy : ℤ) (some : 0 < e) where
  abbrev g : ℕ
  g = common gx gy e

  abbrev l : Triple
  l = lowest gx gy e

  g_some : 0 < g
  g_some = common-pos gx gy e some

  pub shifted_terms : (n : ℕ) → pos n ≡ l.x *ℤ l.x +ℤ l.y *ℤ l.y
      → ◌≡◌ {A = Disk} (record { x = qx *ℤ pos l.e +ℤ l.x; y = qy *ℤ pos l.e +ℤ l.y; e = l.e; s = n })
      (lowest_terms (qx *ℤ pos e +ℤ gx) (qy *ℤ pos e +ℤ gy) e (nat_abs (gx *ℤ gx +ℤ gy *ℤ gy)))
  unfolding lowest_terms
  shifted_terms n h =
      let x = sym (quot_shifted g e qx gx (divides_e gx gy e) (divides_x gx gy e) g_some) in
      let y = sym (quot_shifted g e qy gy (divides_e gx gy e) (divides_y gx gy e) g_some) in
      let s = sym (square_quotients g gx gy n g_some (divides_x gx gy e) (divides_y gx gy e) h) in
      (λ i. record { x = x i; y = y i; e = e / g; s = s i })
      ∙ ap by_divisor (sym (common_shifted e qx qy gx gy))
    where
      by_divisor : ℕ → Disk
      by_divisor k = record {
        x = quot_z (qx *ℤ pos e +ℤ gx) (pos k);
        y = quot_z (qy *ℤ pos e +ℤ gy) (pos k);
        e = e / k;
        s = nat_abs (gx *ℤ gx +ℤ gy *ℤ gy) / (k * k);
      }
