-- The choices of specs/ChosenPoints.antt, by computing.
--
--   choices_answer : each is answered so
use mathlib.Core.Path.{refl}
use Rattle.divisors.specs.Divisor.{gcd, steps}
use Rattle.geometry.specs.EmBox.{in_box, all_in_box}
use Rattle.geometry.specs.Plane.{holds}
use Rattle.geometry.specs.Points.{points, flat}
use Rattle.point_lists.specs.Sets.{same, has, all_of}
use Rattle.disks.specs.Procedure.{outside, lowest_terms, diameter_disk, turned_by, circle, boundary_disk, tested, step, through, run}
use Rattle.engine.specs.Engine.{enclose_of}
use Rattle.fitting.specs.Fitting.{is_on, fits, fitting_disk}
use Rattle.chosen_points.specs.Chosen.{through_of}
use Rattle.letters_to_try.proofs.Letters.{◌&◌}
use Rattle.letters_to_try.specs.ChosenPoints.{choices, AllAnswer}

pub choices_answer : AllAnswer choices
unfolding gcd steps in_box all_in_box holds points flat same has all_of outside lowest_terms diameter_disk turned_by circle boundary_disk tested step through run
    enclose_of is_on fits fitting_disk through_of
choices_answer = refl & refl & refl & refl & refl & refl & refl & refl & refl & refl & refl & refl & refl & refl & refl & tt
