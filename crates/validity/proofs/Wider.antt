-- What a record by narrower limits holds, one by wider limits can hold: a record of 45 bytes that is read can be written with 53.
--
--   within_wider, points_wider : a disk keeps to wider limits, and its points lie in the wider box
--   valid_wider                : what is valid by narrower limits is valid by wider ones
--   old_narrower               : the limits of records of 45 bytes keep to those of the em
use mathlib.Core.Path.{◌≡◌}
use mathlib.Core.Bool.{true}
use mathlib.Core.List.{List, [], ◌∷◌}
use Prim.Native.Nat.{ℕ}
use native.Mathlib.Nat.{le_refl, le_trans, mul-le-mul}
use lib.Dec.{lit≤}
use lib.IntN.{ℤ, pos, ◌*ℤ◌}
use Rattle.integers.specs.Order.{◌≼◌}
use Rattle.integers.proofs.Order.{≤_trans, nonneg, le, nn, ◌⊠◌}
use Rattle.integers.proofs.Ring.{poly}
use Rattle.geometry.specs.declared.Point.{Point}
use Rattle.geometry.specs.declared.Limits.{Limits}
use Rattle.geometry.specs.EmBox.{em, old_em, all_in_box, WithinLimits}
use Rattle.geometry.specs.Plane.{Disk}
use Rattle.geometry.proofs.EmBox.{all_in, in_all}
use Rattle.validity.specs.Narrow.{Narrower}
use Rattle.validity.specs.Valid.{valid_in}
use Rattle.validity.proofs.ValidLaws.{limits, valid-disk, valid-points, counted, rises, boxed}
use Rattle.validity.proofs.ValidLaws.{valid-lowest, valid_within, disk-valid, points-valid, both_valid}

scaled : (a b : ℤ) (e : ℕ) → a ≼ b → a *ℤ pos e ≼ b *ℤ pos e
scaled a b e h = nonneg (a ∷ b ∷ pos e ∷ []) (le h ⊠ nn e) (search poly depth 30) tt

module _ {l m : Limits} (w : Narrower l m) where
  within_wider : (d : Disk) → WithinLimits l d → WithinLimits m d
  within_wider d k = record {
    e_most = le_trans k.e_most w.scale_within;
    s_most = le_trans k.s_most (mul-le-mul w.square_within (le_refl _));
    x_low = ≤_trans (scaled m.left l.left d.e w.left_within) k.x_low;
    x_high = ≤_trans k.x_high (scaled l.right m.right d.e w.right_within);
    y_low = ≤_trans (scaled m.foot l.foot d.e w.foot_within) k.y_low;
    y_high = ≤_trans k.y_high (scaled l.top m.top d.e w.top_within);
  }

  points_wider : (ps : List Point) → all_in_box l ps ≡ true → all_in_box m ps ≡ true
  points_wider ps h = in_all m ps (λ p k. let i = all_in l ps h p k in
      record {
        from_left = ≤_trans w.left_within i.from_left;
        to_right = ≤_trans i.to_right w.right_within;
        from_foot = ≤_trans w.foot_within i.from_foot;
        to_top = ≤_trans i.to_top w.top_within;
      })

  pub valid_wider : (d : Disk) (ps : List Point) → valid_in l d ps ≡ true → valid_in m d ps ≡ true
  valid_wider d ps h =
      let disk = valid-disk l d ps h in
      let points = valid-points l d ps h in
      both_valid m d ps (disk-valid m d (limits l d disk).e_some (valid-lowest l d disk) (within_wider d (valid_within l d disk)))
      (points-valid m ps (counted l ps points) (rises l ps points) (points_wider ps (boxed l ps points)))

pub old_narrower : Narrower old_em em
old_narrower = record {
  left_within = record { le = tt };
  right_within = record { le = tt };
  foot_within = record { le = tt };
  top_within = record { le = tt };
  scale_within = lit≤ tt;
  square_within = lit≤ tt;
}
