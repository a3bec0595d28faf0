-- What the procedure asks of a list and of the set R, and what it promises.
--
--   Given R n list               == the first n points of the list and the points of R lie in the em box, and n is at most 4,096
--   Ran R n before after d t     == d, t and `after` are the disk, the tests and the list that the text's procedure gives on the first n points
--                                   of `before`, with R fixed, whether or not a disk fits them
use Rattle.std.specs.Prelude.{◌≡◌, List, ◌++◌, ℕ, ◌*◌, ◌≤◌, ℤ, length, drop}
use Rattle.geometry.specs.Points.{flat, first_points}
use Rattle.disks.specs.Procedure.{mtf}
use Rattle.relative_disks.specs.declared.RelativeDisk.{RelativeDisk}
use Rattle.relative_disks.specs.Relative.{Keeps}
use Rattle.fixed_points.specs.declared.Boundary.{Boundary}
use Rattle.fixed_points.specs.Boundary.{members, Boxed}

pub record Given (fixed : Boundary) (n : ℕ) (list : List ℤ) : Type 0 where
  pub few : n ≤ 4096
  pub fits : 2 * n ≤ length list
  pub fixed_boxed : Boxed (members fixed)
  pub list_boxed : Boxed (first_points n list)

pub record Ran (fixed : Boundary) (n : ℕ) (before after : List ℤ) (d : RelativeDisk) (tests : ℕ) : Type 0 where
  pub disk_is : Keeps d (mtf (members fixed) (first_points n before)).cover
  pub tests_is : tests ≡ (mtf (members fixed) (first_points n before)).tests
  pub left_is : after ≡ flat (mtf (members fixed) (first_points n before)).left ++ drop (2 * n) before
