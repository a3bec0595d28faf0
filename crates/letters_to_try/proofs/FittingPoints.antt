-- The checks of specs/FittingPoints.antt, by computing.
--
--   checks_answer : each is answered so
use mathlib.Core.Path.{refl}
use Rattle.divisors.specs.Divisor.{gcd, steps}
use Rattle.geometry.specs.EmBox.{all_in_box, in_box}
use Rattle.geometry.specs.Plane.{holds}
use Rattle.geometry.specs.Order.{before}
use Rattle.point_lists.specs.Rising.{rising}
use Rattle.disks.specs.Procedure.{outside, lowest_terms, diameter_disk, turned_by, circle, boundary_disk, tested, step, through, run}
use Rattle.disks.specs.Support.{same_disk, fronted}
use Rattle.validity.specs.Valid.{centre_in_box, valid_disk_in, valid_points_in, valid_in}
use Rattle.belonging.specs.Belonging.{is_disk_of, left_out, none_has, belongs}
use Rattle.letters_to_try.specs.FittingPoints.{checks, AllChecked}
use Rattle.letters_to_try.proofs.Letters.{◌&◌}

pub checks_answer : AllChecked checks
unfolding gcd steps holds in_box all_in_box before rising centre_in_box valid_disk_in valid_points_in valid_in
    outside lowest_terms diameter_disk turned_by circle boundary_disk tested step through run same_disk fronted is_disk_of left_out none_has belongs
checks_answer =
    refl & refl & refl & refl & refl & refl & refl & refl & refl & refl & refl & refl & refl & refl & refl & refl & refl & refl & refl & refl & refl
    & refl & refl & refl & refl & refl & refl & tt
