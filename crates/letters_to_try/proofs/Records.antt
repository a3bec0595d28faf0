-- The records of specs/Records.antt, by computing.
--
--   records_read, old_records_read : the reader answers so for each kind of repeats and points, of 53 bytes and of 45
--   lengths_refused, large_read, limits_kept : for other lengths, for S above 2⁶⁴, and at the limits of both forms
--   f_written    : the writer's bytes
use mathlib.Core.Path.{refl}
use mathlib.Core.List.{[]}
use Rattle.big_endian.specs.Fields.{bytes_of, get}
use Rattle.twos_complement.specs.Twos.{twos, back}
use Rattle.divisors.specs.Divisor.{gcd, steps}
use Rattle.geometry.specs.EmBox.{all_in_box, in_box}
use Rattle.geometry.specs.Order.{before}
use Rattle.geometry.specs.Plane.{holds}
use Rattle.point_lists.specs.Rising.{rising}
use Rattle.point_lists.specs.Sets.{same}
use Rattle.disks.specs.Procedure.{outside, lowest_terms, diameter_disk, turned_by, circle, boundary_disk, tested, step, through, run}
use Rattle.disks.specs.Support.{same_disk, fronted}
use Rattle.validity.specs.Valid.{centre_in_box, valid_disk_in, valid_points_in, valid_in}
use Rattle.belonging.specs.Belonging.{is_disk_of, left_out, none_has, belongs}
use Rattle.record_writer.specs.Bytes.{record_by}
use Rattle.record_reader.specs.Reading.{meant}
use Rattle.letters_to_try.proofs.Letters.{◌&◌}
use Rattle.letters_to_try.specs.Records.{high, rows, lengths, large_s, old_limits, AllRead, Written}

pub records_read : AllRead (rows high)
unfolding get back gcd steps in_box all_in_box before rising centre_in_box valid_disk_in valid_points_in valid_in same meant holds
    outside lowest_terms diameter_disk turned_by circle boundary_disk tested step through run same_disk fronted is_disk_of left_out none_has belongs
records_read = refl & refl & refl & refl & refl & refl & refl & refl & refl & refl & refl & refl & refl & refl & refl & refl & refl & refl & refl & tt

pub old_records_read : AllRead (rows [])
unfolding get back gcd steps in_box all_in_box before rising centre_in_box valid_disk_in valid_points_in valid_in same meant holds
    outside lowest_terms diameter_disk turned_by circle boundary_disk tested step through run same_disk fronted is_disk_of left_out none_has belongs
old_records_read = refl & refl & refl & refl & refl & refl & refl & refl & refl & refl & refl & refl & refl & refl & refl & refl & refl & refl & refl & tt

pub lengths_refused : AllRead lengths
unfolding get back gcd steps in_box all_in_box before rising centre_in_box valid_disk_in valid_points_in valid_in same meant holds
    outside lowest_terms diameter_disk turned_by circle boundary_disk tested step through run same_disk fronted is_disk_of left_out none_has belongs
lengths_refused = refl & refl & refl & refl & refl & refl & tt

pub large_read : AllRead large_s
unfolding get back gcd steps in_box all_in_box before rising centre_in_box valid_disk_in valid_points_in valid_in same meant holds
    outside lowest_terms diameter_disk turned_by circle boundary_disk tested step through run same_disk fronted is_disk_of left_out none_has belongs
large_read = refl & refl & refl & refl & tt

pub limits_kept : AllRead old_limits
unfolding get back gcd steps in_box all_in_box before rising centre_in_box valid_disk_in valid_points_in valid_in same meant holds
    outside lowest_terms diameter_disk turned_by circle boundary_disk tested step through run same_disk fronted is_disk_of left_out none_has belongs
limits_kept = refl & refl & refl & refl & refl & refl & refl & refl & tt

pub f_written : Written
unfolding bytes_of twos record_by
f_written = record { of_one = refl; of_two = refl; of_three = refl; of_wide = refl }
