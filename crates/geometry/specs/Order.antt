-- The rising order of points (01, "Disk and rim": x, then y).
--
--   before p q  == p comes before q in rising order, x first and then y
use Rattle.std.specs.Prelude.{Bool, ◌&&◌, ◌||◌}
use Rattle.std.specs.Int.Signed.{lt_z}
use Rattle.integers.specs.Order.{eq_z}
use Rattle.geometry.specs.declared.Point.{Point}

unfoldable pub before : Point → Point → Bool
before p q = lt_z p.x q.x || (eq_z p.x q.x && lt_z p.y q.y)
