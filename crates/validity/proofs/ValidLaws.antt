-- What a valid disk and its points are known to keep to, by whatever limits.
--
--   scaled_fits            : a limit of the box times E fits
--   DiskBounds l d         == the limits of E, X, Y and S, as facts
--   limits                 : a valid disk keeps to them
--   scale_limits           : those of E
--   valid-disk, valid-points    : the two halves of `valid_in`
--   members_counted        : a support set has one to three points
--   counted, rises, boxed       : the three parts of `valid_points_in`
--   valid-lowest, valid_within  : a valid disk is in lowest terms, and within the limits
--   lowest_reduced, reduced_lowest : the divisor rule says that no number above 1 divides X, Y and E
--   disk-valid, points-valid, both_valid : what makes a disk and its points valid
use mathlib.Core.Path.{◌≡◌, refl, subst}
use mathlib.Core.Bool.{true, ◌&&◌}
use mathlib.Core.List.{List}
use Prim.Native.Nat.{ℕ, ◌*◌, ◌^◌, ◌≤◌, ◌∣◌}
use native.Mathlib.Nat.{eq-one_of_dvd-one, le_trans, le_of_eq, mul-le-mul}
use borrow.Author.Tests.{leb-true, le-leb, eqb-true, eq-eqb}
use lib.Dec.{T, leb, ltb}
use lib.IntN.{ℤ, pos, nat_abs, ◌*ℤ◌}
use lib.Signed.{le_z}
use Rattle.integers.specs.Order.{between, ◌≼◌}
use Rattle.divisors.specs.Divisor.{common, Reduced}
use Rattle.integers.proofs.Abs.{abs_*}
use Rattle.integers.proofs.Tests.{between_most, between-low, between-high, first, rest, both, test_true, true_test}
use Rattle.divisors.proofs.LowestTerms.{divides_x, divides_y, divides_e, common_greatest}
use Rattle.geometry.specs.declared.Point.{Point}
use Rattle.geometry.specs.declared.Limits.{Limits}
use Rattle.geometry.specs.declared.SupportSet.{SupportSet}
use Rattle.geometry.specs.declared.SupportSet.TheVariants.{One, Two, Three}
use Rattle.geometry.specs.Plane.{Disk, members}
use Rattle.geometry.specs.EmBox.{all_in_box, largest, WithinLimits}
use Rattle.geometry.proofs.EmBox.{left_size, right_size, foot_size, top_size}
use Rattle.validity.specs.Narrow.{Narrow}
use Rattle.validity.specs.Valid.{scale_in_limit, centre_in_box, square_in_limit, is_lowest, valid_disk_in, one_to_three, valid_points_in, valid_in}
use Rattle.point_lists.specs.Rising.{rising}

pub scaled_fits : (l : Limits) → Narrow l → T ((ltb (largest l) (2 ^ 63) && ltb l.scale (2 ^ 63)) && ltb (largest l * l.scale) (2 ^ 63))
scaled_fits l n = true_test (both (both (test_true (ltb (largest l) (2 ^ 63)) n.box_fits) (test_true (ltb l.scale (2 ^ 63)) n.scale_fits))
    (test_true (ltb (largest l * l.scale) (2 ^ 63)) n.centre_fits))

-- ---- the disk

pub record DiskBounds (l : Limits) (d : Disk) : Type 0 where
  pub e_some : 1 ≤ d.e
  pub e_small : d.e ≤ l.scale
  pub x_small : nat_abs d.x ≤ largest l * l.scale
  pub y_small : nat_abs d.y ≤ largest l * l.scale
  pub s_small : d.s ≤ l.square * (d.e * d.e)

pub scale_limits : (l : Limits) (d : Disk) → scale_in_limit l d ≡ true → (1 ≤ d.e) × (d.e ≤ l.scale)
scale_limits l d h =
    let low = leb 1 d.e in
    let high = leb d.e l.scale in (leb-true 1 d.e (first low high h), leb-true d.e l.scale (rest low high h))

module _ (l : Limits) (d : Disk) where
  -- a limit of the box, times E
  scaled : (k : ℤ) → nat_abs k ≤ largest l → d.e ≤ l.scale → nat_abs (k *ℤ pos d.e) ≤ largest l * l.scale
  scaled k h m = le_trans (le_of_eq (abs_* k (pos d.e))) (mul-le-mul h m)

  centre_limits : d.e ≤ l.scale → centre_in_box l d ≡ true → (nat_abs d.x ≤ largest l * l.scale) × (nat_abs d.y ≤ largest l * l.scale)
  unfolding centre_in_box
  centre_limits few h =
      let e = pos d.e in
      let in_x = between (l.left *ℤ e) d.x (l.right *ℤ e) in
      let in_y = between (l.foot *ℤ e) d.y (l.top *ℤ e) in (
        between_most (l.left *ℤ e) d.x (l.right *ℤ e) (scaled l.left (left_size l) few) (scaled l.right (right_size l) few) (first in_x in_y h),
        between_most (l.foot *ℤ e) d.y (l.top *ℤ e) (scaled l.foot (foot_size l) few) (scaled l.top (top_size l) few) (rest in_x in_y h),
      )

  pub limits : valid_disk_in l d ≡ true → DiskBounds l d
  unfolding valid_disk_in
  limits h =
      let box = centre_in_box l d && square_in_limit l d in
      let scale = scale_limits l d (first (scale_in_limit l d) (is_lowest d && box) h) in
      let boxed = rest (is_lowest d) box (rest (scale_in_limit l d) (is_lowest d && box) h) in
      let centre = centre_limits scale.1 (first (centre_in_box l d) (square_in_limit l d) boxed) in
      record {
        e_some = scale.0;
        e_small = scale.1;
        x_small = centre.0;
        y_small = centre.1;
        s_small = leb-true d.s (l.square * (d.e * d.e)) (rest (centre_in_box l d) (square_in_limit l d) boxed);
      }

-- ---- the points

module _ (l : Limits) (ps : List Point) (h : valid_points_in l ps ≡ true) where
  pub counted : one_to_three ps ≡ true
  unfolding valid_points_in
  counted = first (one_to_three ps) (rising ps && all_in_box l ps) h

  pub rises : rising ps ≡ true
  unfolding valid_points_in
  rises = first (rising ps) (all_in_box l ps) (rest (one_to_three ps) (rising ps && all_in_box l ps) h)

  pub boxed : all_in_box l ps ≡ true
  unfolding valid_points_in
  boxed = rest (rising ps) (all_in_box l ps) (rest (one_to_three ps) (rising ps && all_in_box l ps) h)

pub members_counted : (t : SupportSet) → one_to_three (members t) ≡ true
members_counted (One a) = refl
members_counted (Two a b) = refl
members_counted (Three a b c) = refl

-- ---- both

pub valid-disk : (l : Limits) (d : Disk) (ps : List Point) → valid_in l d ps ≡ true → valid_disk_in l d ≡ true
unfolding valid_in
valid-disk l d ps h = first (valid_disk_in l d) (valid_points_in l ps) h

pub valid-points : (l : Limits) (d : Disk) (ps : List Point) → valid_in l d ps ≡ true → valid_points_in l ps ≡ true
unfolding valid_in
valid-points l d ps h = rest (valid_disk_in l d) (valid_points_in l ps) h

-- ---- the divisor rule, by its meaning

pub lowest_reduced : (d : Disk) → is_lowest d ≡ true → Reduced d.x d.y d.e
lowest_reduced d h g p q r =
    eq-one_of_dvd-one
    (subst (λ (n : ℕ). g ∣ n) (eqb-true (common d.x d.y d.e) 1 h) (common_greatest d.x d.y d.e g p q r))

pub reduced_lowest : (d : Disk) → Reduced d.x d.y d.e → is_lowest d ≡ true
reduced_lowest d h =
    let x = d.x in
    let y = d.y in
    let e = d.e in eq-eqb (common x y e) 1 (h (common x y e) (divides_x x y e) (divides_y x y e) (divides_e x y e))

-- ---- what a valid disk is, by its meaning

module _ (l : Limits) (d : Disk) (h : valid_disk_in l d ≡ true) where
  behind_scale : is_lowest d && (centre_in_box l d && square_in_limit l d) ≡ true
  unfolding valid_disk_in
  behind_scale = rest (scale_in_limit l d) (is_lowest d && (centre_in_box l d && square_in_limit l d)) h

  pub valid-lowest : Reduced d.x d.y d.e
  valid-lowest = lowest_reduced d (first (is_lowest d) (centre_in_box l d && square_in_limit l d) behind_scale)

  pub valid_within : WithinLimits l d
  unfolding centre_in_box
  valid_within =
      let e = pos d.e in
      let in_x = between (l.left *ℤ e) d.x (l.right *ℤ e) in
      let in_y = between (l.foot *ℤ e) d.y (l.top *ℤ e) in
      let centre = first (centre_in_box l d) (square_in_limit l d) (rest (is_lowest d) (centre_in_box l d && square_in_limit l d) behind_scale) in
      let x = first in_x in_y centre in
      let y = rest in_x in_y centre in
      record {
        e_most = (limits l d h).e_small;
        s_most = (limits l d h).s_small;
        x_low = between-low (l.left *ℤ e) d.x (l.right *ℤ e) x;
        x_high = between-high (l.left *ℤ e) d.x (l.right *ℤ e) x;
        y_low = between-low (l.foot *ℤ e) d.y (l.top *ℤ e) y;
        y_high = between-high (l.foot *ℤ e) d.y (l.top *ℤ e) y;
      }

-- ---- what makes them valid

test : (a b : ℤ) → a ≼ b → le_z a b ≡ true
test a b h = test_true (le_z a b) h.le

pub disk-valid : (l : Limits) (d : Disk) → 1 ≤ d.e → Reduced d.x d.y d.e → WithinLimits l d → valid_disk_in l d ≡ true
unfolding valid_disk_in centre_in_box
disk-valid l d some reduced k =
    let e = pos d.e in
    both (both (le-leb 1 d.e some) (le-leb d.e l.scale k.e_most))
    (both (reduced_lowest d reduced)
    (both (both (both (test (l.left *ℤ e) d.x k.x_low) (test d.x (l.right *ℤ e) k.x_high))
    (both (test (l.foot *ℤ e) d.y k.y_low) (test d.y (l.top *ℤ e) k.y_high)))
    (le-leb d.s (l.square * (d.e * d.e)) k.s_most)))

pub points-valid : (l : Limits) (ps : List Point) → one_to_three ps ≡ true → rising ps ≡ true → all_in_box l ps ≡ true → valid_points_in l ps ≡ true
unfolding valid_points_in
points-valid l ps n r m = both n (both r m)

pub both_valid : (l : Limits) (d : Disk) (ps : List Point) → valid_disk_in l d ≡ true → valid_points_in l ps ≡ true → valid_in l d ps ≡ true
unfolding valid_in
both_valid l d ps h k = both h k
