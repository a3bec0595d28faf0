-- `hull_points::reduce_to_hull` meets its contract: a list that passes the engine's checks can be reduced.
use native.Mathlib.Omega.{arith}
use Rattle.geometry.specs.Points.{points}
use Rattle.engine.specs.Engine.{enclosure}
use Rattle.engine.proofs.Accepted.{accepted_list}
use Rattle.engine.proofs.Checks.{even_length, some_length}
use Rattle.hull_points.proofs.reduce_to_hull.Goals as goal

pub reduce-requires : goal.reduce-requires
reduce-requires c =
    let l = c.args.list.now in
    let r = accepted_list l (enclosure (points l)) c.in_ok-check.ensures in
    let even = even_length l r.even in
    record { even = even; some = omega (arith, some_length l r.some, even); boxed = r.boxed }
