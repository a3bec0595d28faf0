-- `farthest_points::best_if_far` meets its contract: where no point is as far as s is wide, s stays the best.
use mathlib.Core.Path.{sym}
use native.Mathlib.Omega.{arith}
use Rattle.geometry.specs.Points.{points}
use Rattle.farthest_points.proofs.Rows.{too_near}
use Rattle.farthest_points.proofs.best_if_far.Goals as goal

pub returns-then-from-s : goal.returns-then-from-s
returns-then-from-s c =
    sym (too_near 0 c.args.s c.args.p (points c.args.list.now) (omega (arith, c.reach.ensures, c.from.ensures, c.if-from-s.true)))
