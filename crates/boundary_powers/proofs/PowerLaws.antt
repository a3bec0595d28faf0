-- Boundary points have equal powers.
--
--   same_power : where q is on the boundary, p is on it exactly where its power is q's
use mathlib.Core.Path.{◌≡◌, ap}
use mathlib.Core.Bool.{true}
use mathlib.Core.List.{[], ◌∷◌}
use Prim.Native.Nat.{ℕ, ◌≤◌}
use native.Mathlib.Omega.{arith}
use lib.IntN.{ℤ, pos, negsuc, nat_abs, ◌+ℤ◌, ◌-ℤ◌, ◌*ℤ◌}
use Rattle.integers.specs.Order.{eq_z}
use Rattle.integers.proofs.Tests.{same_test, true_test}
use Rattle.integers.proofs.Order.{eq_z_eq, eq_eq_z, ≡_cancel}
use Rattle.integers.proofs.Ring.{poly, linear, eqn, ◌&◌}
use Rattle.geometry.specs.declared.Point.{Point}
use Rattle.geometry.specs.Plane.{Disk, distance}
use Rattle.support_tests.specs.Tests.{on_boundary_test}
use Rattle.boundary_powers.specs.Power.{power_along, power_of}

-- over bare integers, so that the solver reads no definition
module _ (e X Y S x y u v : ℤ) (on : (u *ℤ e -ℤ X) *ℤ (u *ℤ e -ℤ X) +ℤ (v *ℤ e -ℤ Y) *ℤ (v *ℤ e -ℤ Y) ≡ S) where
  abbrev power : ℤ → ℤ → ℤ
  power a b = a *ℤ (a *ℤ e -ℤ pos 2 *ℤ X) +ℤ b *ℤ (b *ℤ e -ℤ pos 2 *ℤ Y)

  power_of_boundary : (x *ℤ e -ℤ X) *ℤ (x *ℤ e -ℤ X) +ℤ (y *ℤ e -ℤ Y) *ℤ (y *ℤ e -ℤ Y) ≡ S → e *ℤ power x y ≡ e *ℤ power u v
  power_of_boundary h = linear (e ∷ X ∷ Y ∷ S ∷ x ∷ y ∷ u ∷ v ∷ []) (eqn (pos 1) h & eqn (negsuc 0) on) (search poly depth 30) tt

  boundary_of_power : power x y ≡ power u v → (x *ℤ e -ℤ X) *ℤ (x *ℤ e -ℤ X) +ℤ (y *ℤ e -ℤ Y) *ℤ (y *ℤ e -ℤ Y) ≡ S
  boundary_of_power h = linear (e ∷ X ∷ Y ∷ S ∷ x ∷ y ∷ u ∷ v ∷ []) (eqn e h & eqn (pos 1) on) (search poly depth 30) tt

not_zero : {e : ℕ} → 1 ≤ e → pos e ≡ pos 0 → ⊥
not_zero {e} h p = let z : e ≡ 0 = ap nat_abs p in omega arith

pub same_power : (d : Disk) (q p : Point) → 1 ≤ d.e → on_boundary_test d q ≡ true → eq_z (power_of d p) (power_of d q) ≡ on_boundary_test d p
unfolding on_boundary_test power_along
same_power d q p some h =
    let on = eq_z_eq (distance d q) (pos d.s) (true_test h) in
    let e = pos d.e in
    let s = pos d.s in
    same_test (eq_z (power_of d p) (power_of d q)) (eq_z (distance d p) s)
    (λ t. eq_eq_z (distance d p) s
    (boundary_of_power e d.x d.y s p.x p.y q.x q.y on (eq_z_eq (power_of d p) (power_of d q) t)))
    (λ t. eq_eq_z (power_of d p) (power_of d q)
    (≡_cancel (not_zero some) (power_of_boundary e d.x d.y s p.x p.y q.x q.y on (eq_z_eq (distance d p) s t))))
