-- Welzl's procedure from a set that is already fixed on the boundary (000, B_MTFDISK with R). Shown in proofs/FromFixed.antt.
--
--   EndsSmallest R P  == started on the list P with R fixed, the procedure ends on a disk, the smallest that holds P with R on its boundary
--   FromFixed         == it does, where R has at most three points, all different, P and R are not both empty, and some disk with a fractional
--                        centre and squared radius holds P with R on its boundary
use Rattle.std.specs.Prelude.{◌≡◌, List, ◌+◌, ◌≤◌, length}
use Rattle.geometry.specs.declared.Point.{Point}
use Rattle.geometry.specs.Plane.{Disk}
use Rattle.point_lists.specs.Sets.{Different}
use Rattle.disks.specs.Smallest.{RationalDisk, Fits, SmallestWith}
use Rattle.disks.specs.Procedure.{disk, mtf}

pub record EndsSmallest (R P : List Point) : Type 0 where
  pub found : Disk
  pub ends_on : (mtf R P).cover ≡ disk found
  pub smallest : SmallestWith P R found

abbrev pub FromFixed : Type 0
FromFixed =
    (R P : List Point) → length R ≤ 3 → Different R → 1 ≤ length P + length R → (c : RationalDisk) → Fits c P R → EndsSmallest R P
