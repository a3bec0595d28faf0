-- Which disks and support sets a record can hold (01, "Description, sheet, record": "A valid record has .."), by limits that are given.
--
--   scale_in_limit l d   == E is from 1 to its limit
--   centre_in_box l d    == the centre (X/E, Y/E) is in the box
--   square_in_limit l d  == S/E² is within its limit
--   is_lowest d         == no whole number above 1 divides X, Y and E (01: the divisor rule)
--   one_to_three ps      == there are one, two or three points
--   valid_in l d ps     == a record with the limits l can hold the disk d and the points ps
--   valid d ps         == one by the limits of the em can
use Rattle.std.specs.Prelude.{Bool, ◌&&◌, List, ◌*◌, leb, eqb, pos, ◌*ℤ◌, length}
use Rattle.integers.specs.Order.{between}
use Rattle.divisors.specs.Divisor.{common}
use Rattle.geometry.specs.declared.Point.{Point}
use Rattle.geometry.specs.Plane.{Disk}
use Rattle.geometry.specs.declared.Limits.{Limits}
use Rattle.geometry.specs.EmBox.{em, all_in_box}
use Rattle.point_lists.specs.Rising.{rising}

-- ---- the disk

abbrev pub scale_in_limit : Limits → Disk → Bool
scale_in_limit l d = leb 1 d.e && leb d.e l.scale

-- the limits of `in_box`, times E
unfoldable pub centre_in_box : Limits → Disk → Bool
centre_in_box l d =
    between (l.left *ℤ pos d.e) d.x (l.right *ℤ pos d.e) && between (l.foot *ℤ pos d.e) d.y (l.top *ℤ pos d.e)

abbrev pub square_in_limit : Limits → Disk → Bool
square_in_limit l d = leb d.s (l.square * (d.e * d.e))

abbrev pub is_lowest : Disk → Bool
is_lowest d = eqb (common d.x d.y d.e) 1

unfoldable pub valid_disk_in : Limits → Disk → Bool
valid_disk_in l d = scale_in_limit l d && (is_lowest d && (centre_in_box l d && square_in_limit l d))

-- ---- the points

abbrev pub one_to_three : List Point → Bool
one_to_three ps = leb 1 (length ps) && leb (length ps) 3

unfoldable pub valid_points_in : Limits → List Point → Bool
valid_points_in l ps = one_to_three ps && (rising ps && all_in_box l ps)

-- ---- both

unfoldable pub valid_in : Limits → Disk → List Point → Bool
valid_in l d ps = valid_disk_in l d && valid_points_in l ps

abbrev pub valid_disk : Disk → Bool
valid_disk d = valid_disk_in em d

abbrev pub valid : Disk → List Point → Bool
valid d ps = valid_in em d ps
