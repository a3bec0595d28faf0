-- The disk of specs/TruePreview.antt that comes near the bound, by computing.
--
--   nearly_met : its preview's x is off by 2⁻⁴³ but for one part in 4,146,443
use mathlib.Core.Path.{refl}
use lib.IntN.{pos, negsuc}
use lib.Ieee.{div, of_int, to_bits}
use Rattle.integers.specs.Least.{least, first_from}
use Rattle.divisors.specs.Divisor.{gcd, steps}
use Rattle.geometry.specs.EmBox.{all_in_box, in_box}
use Rattle.geometry.specs.Plane.{holds}
use Rattle.geometry.specs.Order.{before}
use Rattle.point_lists.specs.Rising.{rising}
use Rattle.disks.specs.Procedure.{outside, lowest_terms, diameter_disk, turned_by, circle, boundary_disk, tested, step, through, run}
use Rattle.disks.specs.Support.{same_disk, fronted}
use Rattle.validity.specs.Valid.{centre_in_box, valid_disk_in, valid_points_in, valid_in}
use Rattle.belonging.specs.Belonging.{is_disk_of, left_out, none_has, belongs}
use Rattle.preview.specs.Preview.{floats}
use Rattle.preview_claims.specs.Reading.{read_bits}
use Rattle.preview_claims.specs.TruePreview.{far_off, NearlyMet}

pub nearly_met : NearlyMet
unfolding gcd steps holds in_box all_in_box before rising centre_in_box valid_disk_in valid_points_in valid_in
    outside lowest_terms diameter_disk turned_by circle boundary_disk tested step through run same_disk fronted is_disk_of left_out none_has belongs
    least first_from div of_int to_bits read_bits
nearly_met = record {
  preview = floats far_off 1295;
  shown = refl;
  number = record { whole = pos 5_519_275_013_680_977; power = negsuc 41 };
  read = refl;
  distance = refl;
}
