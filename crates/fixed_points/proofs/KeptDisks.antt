-- The disks of none to three points of the em box, relative to the first: each is the text's, and its numbers are small.
--
--   row-circle : the circle of three points in a row, by its formula
--   keeps_none, keeps_point, keeps_diameter, keeps_circle : Keeps, of `boundary_disk` of so many points
use mathlib.Core.Path.{◌≡◌, refl, ◌∙◌, ap, subst}
use mathlib.Core.Bool.{Bool, true, false}
use mathlib.Core.List.{[], ◌∷◌}
use Prim.Native.Nat.{ℕ}
use lib.Dec.{T, leb, leb→le}
use lib.IntN.{ℤ, nat_abs, pos, neg_ℤ, ◌+ℤ◌, ◌-ℤ◌, ◌*ℤ◌}
use lib.Signed.{lt_z, ◌≤ℤ◌, ◌<ℤ◌}
use Rattle.integers.proofs.Tests.{true_test}
use Rattle.integers.specs.Order.{Within}
use Rattle.integers.proofs.Bounds.{values, at_most, within_range, lt_true, lt_false}
use Rattle.integers.proofs.Order.{≤_antisym, ≤_of_<, <-≤_clash, neg_mono, positive, lt}
use Rattle.integers.proofs.Laws.{neg_neg}
use Rattle.integers.proofs.Ring.{ring, poly}
use Rattle.geometry.specs.declared.Point.{Point}
use Rattle.geometry.specs.Plane.{Disk}
use Rattle.geometry.specs.EmBox.{em, in_em_box}
use Rattle.disks.specs.Procedure.{disk, circle, boundary_disk, lowest_terms, norm}
use Rattle.disks.proofs.Lifted.{Lifted}
use Rattle.disks.proofs.Triple.{turn, turned, vanishing}
use Rattle.disks.proofs.Relative.{relative, point_relative, pair_relative, turned_relative}
use Rattle.disks.proofs.LowestTerms.{lowered}
use Rattle.disks.proofs.Tests.{relative_disk, relative_lowered, row_weight, row-holds}
use Rattle.disks.proofs.Bridge.{point_lowered, diameter_lowered, circle_lowered}
use Rattle.disks.proofs.BoxLimits.{Box, turned_weight}
use Rattle.disks.proofs.Answer.{side, em_square, in_square}
use Rattle.relative_disks.proofs.RelativeLaws.{near_box}
use Rattle.relative_disks.specs.Relative.{nothing, point_about, diameter_about, by_sign, circle_about, largest_coordinate, largest_offset, Near, Small}
use Rattle.relative_disks.specs.Relative.{StandsFor, none, proper, row, Keeps}
use Rattle.fixed_points.proofs.Offsets.{Span, offset_x, offset_y}

lit_within : {B : ℕ} {z : ℤ} → T (leb (nat_abs z) B) → Within B z
lit_within t = record { within = leb→le _ _ t }

-- ---- none, one and two points

pub keeps_none : Keeps nothing (boundary_disk [])
unfolding boundary_disk
keeps_none = record {
  small = record { e_small = lit_within tt; qx_small = lit_within tt; qy_small = lit_within tt; gx_small = lit_within tt; gy_small = lit_within tt };
  stands = none refl refl;
}

-- the text's disk, lifted, relative to a point
as_relative : {d : Disk} {F : Lifted} (q : Point) (e gx gy : ℤ) → d ≡ lowered F → F ≡ relative q e gx gy → d ≡ relative_disk q e gx gy
as_relative q e gx gy is at = is ∙ ap lowered at ∙ relative_lowered q e gx gy

pub keeps_point : (a : Point) → in_em_box a ≡ true → Keeps (point_about a.x a.y) (boundary_disk (a ∷ []))
unfolding boundary_disk
keeps_point a h = record {
  small = record {
    e_small = lit_within tt;
    qx_small = (near_box a h).x_near;
    qy_small = (near_box a h).y_near;
    gx_small = lit_within tt;
    gy_small = lit_within tt;
  };
  stands = proper (record { lt = tt }) (ap disk (as_relative a (pos 1) (pos 0) (pos 0) (point_lowered a) (point_relative a)));
}

diameter_small : (a b : Point) → Near a → Near b → Small (diameter_about a.x a.y b.x b.y)
diameter_small a b h k = record {
  e_small = lit_within tt;
  qx_small = h.x_near;
  qy_small = h.y_near;
  gx_small = at_most (search values depth 30) tt;
  gy_small = at_most (search values depth 30) tt;
}

pub keeps_diameter : (a b : Point) → in_em_box a ≡ true → in_em_box b ≡ true → Keeps (diameter_about a.x a.y b.x b.y) (boundary_disk (a ∷ b ∷ []))
unfolding boundary_disk
keeps_diameter a b h k = record {
  small = diameter_small a b (near_box a h) (near_box b k);
  stands = proper (record { lt = tt }) (ap disk (as_relative a (pos 2) (b.x -ℤ a.x) (b.y -ℤ a.y) (diameter_lowered a b) (pair_relative a b)));
}

-- ---- three points

neg_positive : (e : ℤ) → e <ℤ pos 0 → pos 0 <ℤ neg_ℤ e
neg_positive e h = positive (e ∷ []) (lt h) (search poly depth 30) tt

small_by : (t n : Bool) (e qx qy gx gy : ℤ) → Within em.scale e → Within largest_coordinate qx → Within largest_coordinate qy
    → Within largest_offset gx → Within largest_offset gy
    → Small (by_sign t n e qx qy gx gy)
small_by true n e qx qy gx gy a b c d f = record { e_small = a; qx_small = b; qy_small = c; gx_small = d; gy_small = f }
small_by false true e qx qy gx gy a b c d f = record {
  e_small = at_most (search values depth 30) tt;
  qx_small = b;
  qy_small = c;
  gx_small = at_most (search values depth 30) tt;
  gy_small = at_most (search values depth 30) tt;
}
small_by false false e qx qy gx gy a b c d f = record { e_small = a; qx_small = b; qy_small = c; gx_small = lit_within tt; gy_small = lit_within tt }

no_weight : (x e g : ℤ) → e ≡ pos 0 → x *ℤ e +ℤ g ≡ g
no_weight x e g h = ap (λ (z : ℤ). x *ℤ z +ℤ g) h ∙ ring (x ∷ g ∷ []) (search poly depth 30) tt

row_is : (q : Point) (e gx gy : ℤ) → e ≡ pos 0 → relative_disk q e gx gy ≡ lowest_terms gx gy 0 (nat_abs (norm gx gy))
row_is q e gx gy h = λ i. lowest_terms (no_weight q.x e gx h i) (no_weight q.y e gy h i) (nat_abs (h i)) (nat_abs (norm gx gy))

module _ (a b c : Point) where
  abbrev e : ℤ
  e = pos 2 *ℤ turn a b c

  abbrev gx : ℤ
  gx = norm (b.x -ℤ a.x) (b.y -ℤ a.y) *ℤ (c.y -ℤ a.y) -ℤ norm (c.x -ℤ a.x) (c.y -ℤ a.y) *ℤ (b.y -ℤ a.y)

  abbrev gy : ℤ
  gy = norm (c.x -ℤ a.x) (c.y -ℤ a.y) *ℤ (b.x -ℤ a.x) -ℤ norm (b.x -ℤ a.x) (b.y -ℤ a.y) *ℤ (c.x -ℤ a.x)

  -- the text's circle, by the sign of e
  as_is : lt_z e (pos 0) ≡ false → circle a b c ≡ relative_disk a e gx gy
  as_is h = as_relative a e gx gy (circle_lowered a b c) (ap (λ (t : Bool). turned t (vanishing a b c)) h)

  turned_round : lt_z e (pos 0) ≡ true → circle a b c ≡ relative_disk a (neg_ℤ e) (neg_ℤ gx) (neg_ℤ gy)
  turned_round h =
      as_relative a (neg_ℤ e) (neg_ℤ gx) (neg_ℤ gy) (circle_lowered a b c) (ap (λ (t : Bool). turned t (vanishing a b c)) h ∙ turned_relative a e gx gy)

  pub row-circle : e ≡ pos 0 → circle a b c ≡ lowest_terms gx gy 0 (nat_abs (norm gx gy))
  row-circle zero = as_is (ap (λ (z : ℤ). lt_z z (pos 0)) zero) ∙ row_is a e gx gy zero

  stands_by : (t n : Bool) → lt_z (pos 0) e ≡ t → lt_z e (pos 0) ≡ n → StandsFor (by_sign t n e a.x a.y gx gy) (disk (circle a b c))
  stands_by true true h k = <-≤_clash (lt_true (pos 0) e h) (≤_of_< (lt_true e (pos 0) k))
  stands_by true false h k = proper (lt_true (pos 0) e h) (ap disk (as_is k))
  stands_by false true h k = proper (neg_positive e (lt_true e (pos 0) k)) (ap disk (turned_round k))
  stands_by false false h k =
      let zero : e ≡ pos 0 = ≤_antisym (lt_false (pos 0) e h) (lt_false e (pos 0) k) in
      row zero refl refl (lowest_terms gx gy 0 (nat_abs (norm gx gy))) (ap disk (row-circle zero)) (row_weight gx gy) (row-holds gx gy)

  module _ (ha : in_em_box a ≡ true) (hb : in_em_box b ≡ true) (hc : in_em_box c ≡ true) where
    box_a : Box em.left em.foot (side em) a
    box_a = in_square em em_square a (true_test ha)

    box_b : Box em.left em.foot (side em) b
    box_b = in_square em em_square b (true_test hb)

    box_c : Box em.left em.foot (side em) c
    box_c = in_square em em_square c (true_test hc)

    -- twice the square of the em box's side, at most
    weight_by : (s : Bool) → (turned s (vanishing a b c)).e ≤ℤ pos em.scale
    weight_by s = turned_weight em.left em.foot (side em) (≤_of_< em_square.some) s a b c box_a box_b box_c

    weight_small : Within em.scale e
    weight_small = within_range (subst (λ (z : ℤ). neg_ℤ (pos em.scale) ≤ℤ z) (neg_neg e) (neg_mono (weight_by true))) (weight_by false)

    -- twice its cube, at most
    offset_small : {z : ℤ} → Span (pos largest_offset) z → Within largest_offset z
    offset_small s = within_range s.from s.to

    circle_small : Small (by_sign (lt_z (pos 0) e) (lt_z e (pos 0)) e a.x a.y gx gy)
    circle_small =
        small_by (lt_z (pos 0) e) (lt_z e (pos 0)) e a.x a.y gx gy weight_small (near_box a ha).x_near (near_box a ha).y_near
        (offset_small (offset_x (side em) (≤_of_< em_square.some) em.left em.foot a b c box_a box_b box_c))
        (offset_small (offset_y (side em) (≤_of_< em_square.some) em.left em.foot a b c box_a box_b box_c))

    pub keeps_circle : Keeps (circle_about a.x a.y (b.x -ℤ a.x) (b.y -ℤ a.y) (c.x -ℤ a.x) (c.y -ℤ a.y)) (boundary_disk (a ∷ b ∷ c ∷ []))
    unfolding boundary_disk circle_about
    keeps_circle = record {
      small = circle_small;
      stands = stands_by (lt_z (pos 0) e) (lt_z e (pos 0)) refl refl;
    }
