-- What the tests may ask of a disk and points that a record can hold.
--
--   small          : the disk's numbers are small
--   tested_one, tested_two, tested_three : the tests of Tests.antt, for such a disk and points
use mathlib.Core.Path.{◌≡◌, refl}
use mathlib.Core.Bool.{true, ◌&&◌}
use mathlib.Core.List.Memᴰ
use mathlib.Core.List.{List, [], ◌∷◌}
use lib.Dec.{eqb}
use Rattle.geometry.specs.declared.Point.{Point}
use Rattle.geometry.specs.Plane.{Disk}
use Rattle.geometry.specs.EmBox.{em}
use Rattle.point_lists.proofs.Order.{before_not_equal}
use Rattle.point_lists.proofs.Rising.{rising_test}
use Rattle.support_tests.specs.Tests.{on_boundary_test, opposite, acute, SmallDisk}
use Rattle.support_tests.proofs.Numbers.{limits_small}
use Rattle.validity.specs.Valid.{valid}
use Rattle.validity.proofs.ValidLaws.{limits, valid-disk, valid-points, rises, valid-lowest, valid_within}
use Rattle.belonging.specs.Belonging.{belongs}
use Rattle.belonging.proofs.Tests.{belongs-one, belongs-two, belongs-three}

pub small : (d : Disk) (ps : List Point) → valid d ps ≡ true → SmallDisk d
small d ps h = limits_small d (valid_within em d (valid-disk em d ps h))

module _ (d : Disk) (a : Point) (h : valid d (a ∷ []) ≡ true) where
  pub tested_one : belongs d (a ∷ []) ≡ (on_boundary_test d a && eqb d.s 0)
  tested_one = let v = valid-disk em d (a ∷ []) h in belongs-one d (limits em d v).e_some (valid-lowest em d v) a

module _ (d : Disk) (a b : Point) (h : valid d (a ∷ b ∷ []) ≡ true) where
  -- the points rise
  apart : a ≡ b → ⊥
  apart = before_not_equal a b (((rising_test (a ∷ b ∷ [])).1 (rises em (a ∷ b ∷ []) (valid-points em d (a ∷ b ∷ []) h))).0 b (Memᴰ.head refl))

  pub tested_two : belongs d (a ∷ b ∷ []) ≡ (on_boundary_test d a && opposite d a b)
  tested_two = let v = valid-disk em d (a ∷ b ∷ []) h in belongs-two d (limits em d v).e_some (valid-lowest em d v) a b apart

module _ (d : Disk) (a b c : Point) (h : valid d (a ∷ b ∷ c ∷ []) ≡ true) where
  pub tested_three : belongs d (a ∷ b ∷ c ∷ []) ≡ (on_boundary_test d a && (on_boundary_test d b && (on_boundary_test d c && acute a b c)))
  tested_three = let v = valid-disk em d (a ∷ b ∷ c ∷ []) h in belongs-three d (limits em d v).e_some (valid-lowest em d v) a b c
