-- The previews and readings of specs/Previews.antt, by computing.
--
--   previews_overlaid : each preview has these bits
--   bits_read         : each pattern of bits is read so
use mathlib.Core.Path.{refl}
use lib.Ieee.{div, of_int, to_bits}
use Rattle.integers.specs.Least.{least, first_from}
use Rattle.divisors.specs.Divisor.{gcd, steps}
use Rattle.geometry.specs.EmBox.{all_in_box, in_box}
use Rattle.geometry.specs.Plane.{holds}
use Rattle.geometry.specs.Order.{before}
use Rattle.point_lists.specs.Rising.{rising}
use Rattle.disks.specs.Procedure.{outside, lowest_terms, diameter_disk, turned_by, circle, boundary_disk, tested, step, through, run}
use Rattle.disks.specs.Support.{same_disk, fronted}
use Rattle.validity.specs.Valid.{centre_in_box, valid_disk_in, valid_points_in, valid_in}
use Rattle.belonging.specs.Belonging.{is_disk_of, left_out, none_has, belongs}
use Rattle.preview_claims.specs.Reading.{read_bits}
use Rattle.letters_to_try.specs.Previews.{overlays, AllOverlaid, readings, AllReadAs}
use Rattle.letters_to_try.proofs.Letters.{◌&◌}

pub previews_overlaid : AllOverlaid overlays
unfolding gcd steps holds in_box all_in_box before rising centre_in_box valid_disk_in valid_points_in valid_in
    outside lowest_terms diameter_disk turned_by circle boundary_disk tested step through run same_disk fronted is_disk_of left_out none_has belongs
    least first_from div of_int to_bits
previews_overlaid = refl & refl & refl & refl & refl & refl & tt

pub bits_read : AllReadAs readings
unfolding read_bits
bits_read = refl & refl & refl & refl & refl & refl & refl & refl & refl & refl & refl & tt
