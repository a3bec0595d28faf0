-- A disk written without a common divisor (01: "No whole number above 1 divides X, Y and E all together").
--
--   lowered F          == the lifted disk F, written by `lowest_terms`
--   Written F d        == d is F in lowest terms: X, Y, E divided by one g, S by g², and no common divisor left
--   lowered_written    : of a disk with a point on its boundary, `lowered F` is that
--   written_value      : E · value F p is g² times the distance of p less S, in d's numbers
use mathlib.Core.Path.{◌≡◌, refl, sym, ◌∙◌, ap, ap₂}
use mathlib.Core.List.{[], ◌∷◌}
use Prim.Native.Nat.{ℕ, ◌*◌, ◌/◌, ◌≤◌, ◌∣◌}
use native.Mathlib.Nat.{mul-le-mul, mul-div_cancel', mul-div_cancel_left}
use lib.IntN.{ℤ, pos, negsuc, neg_ℤ, nat_abs, ◌+ℤ◌, ◌-ℤ◌, ◌*ℤ◌}
use lib.Signed.{◌<ℤ◌, quot_z}
use Rattle.integers.proofs.Laws.{*_comm}
use Rattle.divisors.specs.Divisor.{common, lowest, Reduced}
use Rattle.divisors.proofs.LowestTerms.{common-pos, divides_x, divides_y, divides_e, lowest_reduced, quot_exact}
use Rattle.divisors.specs.declared.Triple.{Triple}
use Rattle.integers.proofs.Ring.{ring, poly, linear, eqn, ◌&◌}
use Rattle.integers.proofs.Order.{nn_is, pos_le, le_pos, <_to_≤, ≤_to_<, *-pos, sq, ◌⊞◌}
use Rattle.geometry.specs.declared.Point.{Point}
use Rattle.geometry.specs.Plane.{Disk, distance}
use Rattle.disks.specs.Procedure.{lowest_terms}
use Rattle.disks.proofs.Lifted.{Lifted, value, squared_radius}
use Rattle.disks.proofs.AboutCentre.{boundary_length}

abbrev pub lowered : Lifted → Disk
lowered F = lowest_terms F.cx F.cy (nat_abs F.e) (nat_abs (squared_radius F))

pub record Written (F : Lifted) (d : Disk) : Type 0 where
  pub g : ℕ
  pub g_some : 1 ≤ g
  pub x_is : F.cx ≡ pos g *ℤ d.x
  pub y_is : F.cy ≡ pos g *ℤ d.y
  pub e_is : F.e ≡ pos g *ℤ pos d.e
  pub s_is : squared_radius F ≡ (pos g *ℤ pos g) *ℤ pos d.s
  pub reduced : Reduced d.x d.y d.e

-- ---- the numbers divided

pub positive_is : {z : ℤ} → pos 0 <ℤ z → (pos (nat_abs z) ≡ z) × (1 ≤ nat_abs z)
positive_is {z = pos n} h = (refl, le_pos (<_to_≤ h))
positive_is {z = negsuc n} h = absurd h.lt

-- E, X, Y divided by g: the squared radius by g²
divided_radius : (E X Y S g e x y px py : ℤ) → E ≡ g *ℤ e → X ≡ g *ℤ x → Y ≡ g *ℤ y
    → (E *ℤ px -ℤ X) *ℤ (E *ℤ px -ℤ X) +ℤ (E *ℤ py -ℤ Y) *ℤ (E *ℤ py -ℤ Y) ≡ S
    → S ≡ (g *ℤ g) *ℤ ((e *ℤ px -ℤ x) *ℤ (e *ℤ px -ℤ x) +ℤ (e *ℤ py -ℤ y) *ℤ (e *ℤ py -ℤ y))
divided_radius E X Y S g e x y px py he hx hy h = sym h ∙ ap₂ ◌+ℤ◌ (ap₂ ◌*ℤ◌ first first) (ap₂ ◌*ℤ◌ second second)
    ∙ ring (g ∷ e ∷ x ∷ y ∷ px ∷ py ∷ []) (search poly depth 30) tt
  where
    first : E *ℤ px -ℤ X ≡ (g *ℤ e) *ℤ px -ℤ g *ℤ x
    first = ap₂ (λ (a b : ℤ). a *ℤ px -ℤ b) he hx

    second : E *ℤ py -ℤ Y ≡ (g *ℤ e) *ℤ py -ℤ g *ℤ y
    second = ap₂ (λ (a b : ℤ). a *ℤ py -ℤ b) he hy

-- ---- in lowest terms

module _ (F : Lifted) (proper : pos 0 <ℤ F.e) (p : Point) (on : value F p ≡ pos 0) where
  abbrev E : ℕ
  E = nat_abs F.e

  abbrev g : ℕ
  g = common F.cx F.cy E

  g_some : 1 ≤ g
  g_some = common-pos F.cx F.cy E (positive_is proper).1

  abbrev l : Triple
  l = lowest F.cx F.cy E

  exact : (z : ℤ) → g ∣ nat_abs z → z ≡ pos g *ℤ quot_z z (pos g)
  exact z h = sym (quot_exact z g h) ∙ *_comm (quot_z z (pos g)) (pos g)

  x_exact : F.cx ≡ pos g *ℤ l.x
  x_exact = exact F.cx (divides_x F.cx F.cy E)

  y_exact : F.cy ≡ pos g *ℤ l.y
  y_exact = exact F.cy (divides_y F.cx F.cy E)

  e_exact : F.e ≡ pos g *ℤ pos l.e
  e_exact = sym (positive_is proper).0 ∙ ap pos (sym (mul-div_cancel' g (divides_e F.cx F.cy E)))

  abbrev radius : ℤ
  radius = (pos l.e *ℤ p.x -ℤ l.x) *ℤ (pos l.e *ℤ p.x -ℤ l.x) +ℤ (pos l.e *ℤ p.y -ℤ l.y) *ℤ (pos l.e *ℤ p.y -ℤ l.y)

  whole : (n : ℕ) × (radius ≡ pos n)
  whole = nn_is (sq (pos l.e *ℤ p.x -ℤ l.x) ⊞ sq (pos l.e *ℤ p.y -ℤ l.y))

  radius_divided : squared_radius F ≡ pos (g * g * whole.0)
  radius_divided =
      divided_radius F.e F.cx F.cy (squared_radius F) (pos g) (pos l.e) l.x l.y p.x p.y e_exact x_exact y_exact
      (boundary_length F p on)
      ∙ ap (λ (z : ℤ). (pos g *ℤ pos g) *ℤ z) whole.1

  s_exact : nat_abs (squared_radius F) / (g * g) ≡ whole.0
  s_exact = ap (λ (z : ℤ). nat_abs z / (g * g)) radius_divided ∙ mul-div_cancel_left whole.0 (mul-le-mul g_some g_some)

  pub lowered_written : Written F (lowered F)
  unfolding lowest_terms
  lowered_written = record {
    g = g;
    g_some = g_some;
    x_is = x_exact;
    y_is = y_exact;
    e_is = e_exact;
    s_is = radius_divided ∙ ap (λ (n : ℕ). pos (g * g * n)) (sym s_exact);
    reduced = lowest_reduced F.cx F.cy E (positive_is proper).1;
  }

-- ---- the test

distance_divided : (E X Y S K g e x y s px py : ℤ) → X ≡ g *ℤ x → Y ≡ g *ℤ y → E ≡ g *ℤ e → X *ℤ X +ℤ Y *ℤ Y -ℤ E *ℤ K ≡ (g *ℤ g) *ℤ s
    → E *ℤ (E *ℤ (px *ℤ px +ℤ py *ℤ py) -ℤ pos 2 *ℤ (X *ℤ px +ℤ Y *ℤ py) +ℤ K)
    ≡ (g *ℤ g) *ℤ (((px *ℤ e -ℤ x) *ℤ (px *ℤ e -ℤ x) +ℤ (py *ℤ e -ℤ y) *ℤ (py *ℤ e -ℤ y)) -ℤ s)
distance_divided E X Y S K g e x y s px py hx hy he hs = linear (E ∷ X ∷ Y ∷ K ∷ g ∷ e ∷ x ∷ y ∷ s ∷ px ∷ py ∷ [])
    (eqn (negsuc 0) hs
    & eqn ((px *ℤ E -ℤ X +ℤ g *ℤ (px *ℤ e -ℤ x)) *ℤ px +ℤ (py *ℤ E -ℤ Y +ℤ g *ℤ (py *ℤ e -ℤ y)) *ℤ py) he
    & eqn (neg_ℤ (px *ℤ E -ℤ X +ℤ g *ℤ (px *ℤ e -ℤ x))) hx
    & eqn (neg_ℤ (py *ℤ E -ℤ Y +ℤ g *ℤ (py *ℤ e -ℤ y))) hy) (search poly depth 30) tt

pub written_value : {F : Lifted} {d : Disk} (w : Written F d) (p : Point)
    → F.e *ℤ value F p ≡ (pos w.g *ℤ pos w.g) *ℤ (distance d p -ℤ pos d.s)
written_value {F} {d} w p = distance_divided F.e F.cx F.cy (squared_radius F) F.k (pos w.g) (pos d.e) d.x d.y (pos d.s)
    p.x p.y w.x_is w.y_is w.e_is w.s_is

pub square_factor : {F : Lifted} {d : Disk} (w : Written F d) → pos 0 <ℤ (pos w.g *ℤ pos w.g)
square_factor w = *-pos (≤_to_< (pos_le w.g_some)) (≤_to_< (pos_le w.g_some))
