-- The letters of document 01 hold (specs/Letters.antt), by computing.
use mathlib.Core.Path.{refl}
use Rattle.divisors.specs.Divisor.{gcd, steps}
use Rattle.geometry.specs.EmBox.{all_in_box, in_box}
use Rattle.geometry.specs.Plane.{holds}
use Rattle.geometry.specs.Order.{before}
use Rattle.geometry.specs.Points.{points, flat}
use Rattle.disks.specs.Procedure.{outside, lowest_terms, diameter_disk, turned_by, circle, boundary_disk, tested, step, through, run}
use Rattle.point_lists.specs.Rising.{insert, sorted, rising}
use Rattle.disks.specs.Support.{fronted, choose, same_disk, supports, first_of, first_support}
use Rattle.engine.specs.Engine.{enclose_of, list_after}
use Rattle.integers.specs.Least.{least, first_from}
use Rattle.validity.specs.Valid.{centre_in_box, valid_disk_in, valid_points_in, valid_in}
use Rattle.belonging.specs.Belonging.{is_disk_of, left_out, none_has, belongs}
use Rattle.letters_to_try.specs.Letters.{letters, AllHold}

-- one after another
infixr 5 ◌&◌
pub ◌&◌ : {A B : Type 0} → A → B → A × B
a & b = (a, b)

pub letters_hold : AllHold letters
unfolding gcd steps holds in_box all_in_box before points flat
    outside lowest_terms diameter_disk turned_by circle boundary_disk tested step through run
    insert sorted fronted choose same_disk supports first_of first_support
    enclose_of list_after least first_from centre_in_box valid_disk_in rising valid_points_in valid_in
    is_disk_of left_out none_has belongs
letters_hold =
    record { answer = refl; order = refl; whole = refl }
    & record { answer = refl; order = refl; whole = refl }
    & record { answer = refl; order = refl; whole = refl }
    & record { answer = refl; order = refl; whole = refl }
    & record { answer = refl; order = refl; whole = refl }
    & record { answer = refl; order = refl; whole = refl }
    & record { answer = refl; order = refl; whole = refl }
    & record { answer = refl; order = refl; whole = refl }
    & record { answer = refl; order = refl; whole = refl }
    & record { answer = refl; order = refl; whole = refl }
    & record { answer = refl; order = refl; whole = refl }
    & tt
