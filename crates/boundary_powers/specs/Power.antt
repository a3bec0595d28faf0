-- The power of a point in a disk, and what it says of the boundary.
--
--   power_of d p      == E|p|² − 2(Xx + Yy): the power of p in d, times E, but for a number that does not depend on p
--   OfBoundary d k   == k is the power of a point on d's boundary
use Rattle.std.specs.Prelude.{true, ◌≡◌, ℕ, ℤ, pos, ◌+ℤ◌, ◌-ℤ◌, ◌*ℤ◌}
use Rattle.geometry.specs.declared.Point.{Point}
use Rattle.geometry.specs.Plane.{Disk}
use Rattle.support_tests.specs.Tests.{on_boundary_test}

unfoldable pub power_along : ℤ → ℕ → ℤ → ℤ
power_along v e c = v *ℤ (v *ℤ pos e -ℤ pos 2 *ℤ c)

abbrev pub power_of : Disk → Point → ℤ
power_of d p = power_along p.x d.e d.x +ℤ power_along p.y d.e d.y

pub record OfBoundary (d : Disk) (k : ℤ) : Type 0 where
  pub point : Point
  pub on : on_boundary_test d point ≡ true
  pub power_is : k ≡ power_of d point
