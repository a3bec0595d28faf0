-- Disks relative to a point on the boundary: equal numbers, near points, and the test.
--
--   same_numbers          : two such disks with the same numbers are equal
--   same_circle           : so are the circles of the same numbers
--   circle_by             : the circle by the signs of e
--   wide-near             : a widened coordinate of a near point, as the machine reads it back
--   minus-near            : and the difference of two
--   minus_within          : how large the difference is
--   near_box              : a point of the em box is near
--   outside_kept          : a kept disk has a point of the em box outside where the text's disk has
--   weight_in c            == E of the text's cover c, 0 of the empty disk
--   Proper d c            == d has a positive e, and c is d in lowest terms
--   stands_proper         : so it is where d stands for c, and E of c is not 0
--   stands_weight         : and E of c is not 0 where e of d is positive
use mathlib.Core.Path.{◌≡◌, sym, ◌∙◌, ap, ap₂, subst}
use mathlib.Core.Bool.{Bool, true, false, not}
use mathlib.Core.List.{[], ◌∷◌}
use Prim.Native.Nat.{ℕ, ◌≤◌}
use native.Mathlib.Omega.{arith}
use lib.IntN.{ℤ, pos, negsuc, ◌+ℤ◌, ◌-ℤ◌, ◌*ℤ◌}
use lib.Signed.{lt_z, ◌<ℤ◌}
use mir.Syntax.{w16, w64}
use mir.Val.{to_z, of_z}
use Rattle.integers.proofs.Tests.{test_true}
use Rattle.integers.specs.Order.{Within}
use Rattle.integers.proofs.Bounds.{leaf_back, back, at_most, v_within, v_add, v_neg}
use Rattle.integers.proofs.Order.{positive, nn, ◌⊞◌, ◌⊠◌, lt}
use Rattle.integers.proofs.Laws.{*-zero}
use Rattle.integers.proofs.Ring.{ring, poly}
use Rattle.geometry.specs.declared.Point.{Point}
use Rattle.geometry.specs.EmBox.{em, in_em_box, left_of_box}
use Rattle.geometry.proofs.EmBox.{point_size, right_of}
use Rattle.disks.specs.Procedure.{Cover, empty, disk, outside, norm}
use Rattle.disks.proofs.Lifted.{value}
use Rattle.disks.proofs.Relative.{relative}
use Rattle.disks.proofs.Base.{positive_not_zero}
use Rattle.disks.proofs.Tests.{relative_written, outside_relative}
use Rattle.relative_disks.specs.declared.RelativeDisk.{RelativeDisk}
use Rattle.relative_disks.specs.Relative.{beyond, is_outside, nothing, by_sign, circle_about, largest_coordinate, largest_difference, Near, in_lowest_terms, StandsFor, none}
use Rattle.relative_disks.specs.Relative.{proper, row, Keeps}

-- ---- equal numbers

pub same_numbers : {e qx qy gx gy e' qx' qy' gx' gy' : ℤ} → e ≡ e' → qx ≡ qx' → qy ≡ qy' → gx ≡ gx' → gy ≡ gy'
    → ◌≡◌ {A = RelativeDisk} (record { e = e; qx = qx; qy = qy; gx = gx; gy = gy }) (record { e = e'; qx = qx'; qy = qy'; gx = gx'; gy = gy' })
same_numbers a b c d f = λ i. record { e = a i; qx = b i; qy = c i; gx = d i; gy = f i }

pub same_circle : {qx qy ux uy vx vy qx' qy' ux' uy' vx' vy' : ℤ} → qx ≡ qx' → qy ≡ qy' → ux ≡ ux' → uy ≡ uy' → vx ≡ vx' → vy ≡ vy'
    → circle_about qx qy ux uy vx vy ≡ circle_about qx' qy' ux' uy' vx' vy'
same_circle a b c d f g = λ i. circle_about (a i) (b i) (c i) (d i) (f i) (g i)

module _ (qx qy ux uy vx vy : ℤ) where
  abbrev e : ℤ
  e = pos 2 *ℤ (ux *ℤ vy -ℤ uy *ℤ vx)

  pub circle_by : (t n : Bool) → lt_z (pos 0) e ≡ t → lt_z e (pos 0) ≡ n
      → by_sign t n e qx qy (norm ux uy *ℤ vy -ℤ norm vx vy *ℤ uy) (norm vx vy *ℤ ux -ℤ norm ux uy *ℤ vx) ≡ circle_about qx qy ux uy vx vy
  unfolding circle_about
  circle_by t n h k =
      ap₂ (λ (s m : Bool). by_sign s m e qx qy (norm ux uy *ℤ vy -ℤ norm vx vy *ℤ uy) (norm vx vy *ℤ ux -ℤ norm ux uy *ℤ vx)) (sym h) (sym k)

-- ---- near points

pub wide-near : {z r : ℤ} → Within largest_coordinate z → r ≡ to_z w16 (of_z w16 z) → to_z w64 (of_z w64 r) ≡ z
wide-near {z} h e = ap (λ (x : ℤ). to_z w64 (of_z w64 x)) (e ∙ leaf_back w16 z largest_coordinate h tt) ∙ leaf_back w64 z largest_coordinate h tt

pub minus-near : {a b r : ℤ} → Within largest_coordinate a → Within largest_coordinate b
    → r ≡ to_z w16 (of_z w16 b) -ℤ to_z w16 (of_z w16 a) → to_z w64 (of_z w64 r) ≡ b -ℤ a
minus-near {a} {b} h k e =
    ap (λ (x : ℤ). to_z w64 (of_z w64 x)) (e ∙ ap₂ ◌-ℤ◌ (leaf_back w16 b largest_coordinate k tt) (leaf_back w16 a largest_coordinate h tt))
    ∙ back w64 (v_add (v_within k) (v_neg (v_within h))) tt

pub minus_within : {a b : ℤ} → Within largest_coordinate a → Within largest_coordinate b → Within largest_difference (b -ℤ a)
minus_within h k = at_most (v_add (v_within k) (v_neg (v_within h))) tt

pub near_box : (p : Point) → in_em_box p ≡ true → Near p
near_box p h = let size = point_size em p h in record { x_near = record { within = size.0 }; y_near = record { within = size.1 } }

-- ---- the test

-- every point to the right of q is outside the empty disk
beyond-nothing : (q x y : ℤ) → q <ℤ x
    → pos 0 <ℤ ((x -ℤ q) *ℤ ((x -ℤ q) *ℤ pos 0 -ℤ pos 2 *ℤ negsuc 0) +ℤ (y -ℤ pos 0) *ℤ ((y -ℤ pos 0) *ℤ pos 0 -ℤ pos 2 *ℤ pos 0))
beyond-nothing q x y h = positive (q ∷ x ∷ y ∷ []) (nn 2 ⊠ lt h ⊞ nn 1) (search poly depth 30) tt

outside-nothing : (p : Point) → in_em_box p ≡ true → is_outside nothing p ≡ true
unfolding beyond
outside-nothing p h = test_true _ (beyond-nothing left_of_box p.x p.y (right_of p h)).lt

-- with e = 0 and g = 0 none is
beyond-row : (qx qy x y : ℤ) → beyond (pos 0) qx qy (pos 0) (pos 0) x y ≡ false
unfolding beyond
beyond-row qx qy x y = ap (lt_z (pos 0)) (none_left qx qy x y)
  where
    none_left : (qx qy x y : ℤ) → (x -ℤ qx) *ℤ ((x -ℤ qx) *ℤ pos 0 -ℤ pos 2 *ℤ pos 0) +ℤ (y -ℤ qy) *ℤ ((y -ℤ qy) *ℤ pos 0 -ℤ pos 2 *ℤ pos 0) ≡ pos 0
    none_left qx qy x y = ring (qx ∷ qy ∷ x ∷ y ∷ []) (search poly depth 30) tt

outside-row : (d : RelativeDisk) (p : Point) → d.e ≡ pos 0 → d.gx ≡ pos 0 → d.gy ≡ pos 0 → is_outside d p ≡ false
outside-row d p he hx hy = (λ i. beyond (he i) d.qx d.qy (hx i) (hy i) p.x p.y) ∙ beyond-row d.qx d.qy p.x p.y

abbrev point : RelativeDisk → Point
point d = record { x = d.qx; y = d.qy }

about_value : (d : RelativeDisk) (p : Point) → value (relative (point d) d.e d.gx d.gy) p
    ≡ (p.x -ℤ d.qx) *ℤ ((p.x -ℤ d.qx) *ℤ d.e -ℤ pos 2 *ℤ d.gx) +ℤ (p.y -ℤ d.qy) *ℤ ((p.y -ℤ d.qy) *ℤ d.e -ℤ pos 2 *ℤ d.gy)
about_value d p = ring (d.e ∷ d.qx ∷ d.qy ∷ d.gx ∷ d.gy ∷ p.x ∷ p.y ∷ []) (search poly depth 30) tt

outside_proper : (d : RelativeDisk) (p : Point) → pos 0 <ℤ d.e → outside (disk (in_lowest_terms d)) p ≡ is_outside d p
unfolding beyond
outside_proper d p h = outside_relative (point d) d.e d.gx d.gy h p ∙ ap (lt_z (pos 0)) (about_value d p)

pub outside_kept : {d : RelativeDisk} {c : Cover} → Keeps d c → (p : Point) → in_em_box p ≡ true → outside c p ≡ is_outside d p
unfolding outside
outside_kept {d} {c} k p h = go k.stands
  where
    at : {b : Cover} → c ≡ b → outside b p ≡ is_outside d p → outside c p ≡ is_outside d p
    at e is = ap (λ (x : Cover). outside x p) e ∙ is

    go : StandsFor d c → outside c p ≡ is_outside d p
    go (none e f) = at f (sym (ap (λ (x : RelativeDisk). is_outside x p) e ∙ outside-nothing p h))
    go (proper s f) = at f (outside_proper d p s)
    go (row he hx hy b f z all) = at f (ap not (all p) ∙ sym (outside-row d p he hx hy))

-- ---- the text's disk

abbrev pub weight_in : Cover → ℕ
weight_in empty = 0
weight_in (disk k) = k.e

pub record Proper (d : RelativeDisk) (c : Cover) : Type 0 where
  pub positive_e : pos 0 <ℤ d.e
  pub written : c ≡ disk (in_lowest_terms d)

pub stands_proper : {d : RelativeDisk} {c : Cover} → StandsFor d c → 1 ≤ weight_in c → Proper d c
stands_proper (none d_is f) some = absurd (omega (arith, subst (λ (x : Cover). 1 ≤ weight_in x) f some))
stands_proper (proper s f) some = record { positive_e = s; written = f }
stands_proper (row he hx hy k f z all) some = absurd (omega (arith, z, subst (λ (x : Cover). 1 ≤ weight_in x) f some))

pub stands_weight : {d : RelativeDisk} {c : Cover} → StandsFor d c → pos 0 <ℤ d.e → weight_in c ≡ 0 → ⊥
stands_weight (none d_is f) h z = positive_not_zero h (ap (λ (x : RelativeDisk). x.e) d_is)
stands_weight {d} (proper s f) h z =
    let w = relative_written (point d) d.e d.gx d.gy h in
    positive_not_zero h (w.e_is ∙ ap (λ (n : ℕ). pos w.g *ℤ pos n) (sym (ap weight_in f) ∙ z) ∙ *-zero (pos w.g))
stands_weight (row he hx hy k f e_none all) h z = positive_not_zero h he
