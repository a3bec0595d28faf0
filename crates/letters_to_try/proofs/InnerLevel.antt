-- The cases of specs/InnerLevel.antt, by computing.
--
--   cases_end : each ends so
use mathlib.Core.Path.{refl}
use Rattle.divisors.specs.Divisor.{gcd, steps}
use Rattle.geometry.specs.Plane.{holds}
use Rattle.disks.specs.Procedure.{outside, lowest_terms, diameter_disk, turned_by, circle, boundary_disk, tested, step, through, run}
use Rattle.letters_to_try.proofs.Letters.{◌&◌}
use Rattle.letters_to_try.specs.InnerLevel.{cases, AllEnd}

pub cases_end : AllEnd cases
unfolding gcd steps holds outside lowest_terms diameter_disk turned_by circle boundary_disk tested step through run
cases_end = refl & refl & refl & refl & refl & refl & tt
