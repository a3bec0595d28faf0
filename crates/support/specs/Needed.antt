-- The points that the search for the first support set needs.
--
--   needed d s p          == p is on d's boundary, and its x not strictly within the span s
--   NextNeeded d s l i r  == r is the first place of l, from i on, whose point is needed; the end of l, where there is none
use Rattle.std.specs.Prelude.{◌≡◌, Bool, true, false, not, ◌&&◌, List, ℕ, ◌/◌, ◌≤◌, ◌<◌, ℤ, length}
use Rattle.geometry.specs.declared.Point.{Point}
use Rattle.geometry.specs.Plane.{Disk}
use Rattle.geometry.specs.Points.{point_at}
use Rattle.support_tests.specs.Tests.{on_boundary_test}
use Rattle.support_span.specs.declared.Span.{Span}
use Rattle.support_span.specs.Span.{strictly_within}

abbrev pub needed : Disk → Span → Point → Bool
needed d s p = not (strictly_within s p.x) && on_boundary_test d p

pub record NextNeeded (d : Disk) (s : Span) (l : List ℤ) (i r : ℕ) : Type 0 where
  pub from : i ≤ r
  pub most : r ≤ length l / 2
  pub passed : (j : ℕ) → i ≤ j → j < r → needed d s (point_at l j) ≡ false
  pub found : r < length l / 2 → needed d s (point_at l r) ≡ true
