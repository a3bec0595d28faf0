-- The lists of specs/TracedPoints.antt, by computing.
--
--   traces_answer : each is answered so
use mathlib.Core.Path.{refl}
use Rattle.divisors.specs.Divisor.{gcd, steps}
use Rattle.geometry.specs.EmBox.{in_box, all_in_box}
use Rattle.geometry.specs.Plane.{holds}
use Rattle.disks.specs.Procedure.{outside, lowest_terms, diameter_disk, turned_by, circle, boundary_disk, tested, step, through, run}
use Rattle.tracings.specs.Squares.{traced, corners, all_corners}
use Rattle.traced_points.specs.Traced.{fault, first_fault, traced_of}
use Rattle.letters_to_try.proofs.Letters.{◌&◌}
use Rattle.letters_to_try.specs.TracedPoints.{traces, AllAnswer}

pub traces_answer : AllAnswer traces
unfolding gcd steps in_box all_in_box holds outside lowest_terms diameter_disk turned_by circle boundary_disk tested step through run
    traced corners all_corners fault first_fault traced_of
traces_answer =
    refl & refl & refl & refl & refl & refl & refl & refl & refl & refl & refl & refl & refl & refl & refl & refl & refl & refl & tt
