-- The search through the sets of points of a list, by the tests of their coordinates.
--
--   first_fit d Q  == of the sets of one, then two, then three points of Q, each in Q's order, the first that passes its test
use Rattle.std.specs.Prelude.{List}
use Rattle.geometry.specs.declared.Point.{Point}
use Rattle.geometry.specs.Plane.{Disk}
use Rattle.disks.specs.Support.{candidates, first_of}
use Rattle.support_tests.specs.Tests.{fits}

unfoldable pub first_fit : Disk → List Point → List Point
first_fit d Q = first_of (fits d) (candidates Q)
