-- What the search for the first support set asks.
--
--   Asked l d  == l is a list of at least one point and at most 4,096, all in the em box, and d is its smallest disk; the first point of l is on d's
--                 boundary, as the procedure leaves it
use Rattle.std.specs.Prelude.{◌≡◌, true, List, ◌≤◌, ℤ, length}
use Rattle.geometry.specs.Plane.{Disk, on_boundary}
use Rattle.geometry.specs.EmBox.{all_in_em_box}
use Rattle.geometry.specs.Points.{points, point_at}
use Rattle.disks.specs.Procedure.{disk_of}

pub record Asked (l : List ℤ) (d : Disk) : Type 0 where
  pub some : 2 ≤ length l
  pub most : length l ≤ 8192
  pub boxed : all_in_em_box (points l) ≡ true
  pub smallest : d ≡ disk_of (points l)
  pub front : on_boundary d (point_at l 0)
