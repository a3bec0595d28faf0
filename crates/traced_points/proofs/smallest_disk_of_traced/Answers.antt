-- `traced_points::smallest_disk_of_traced` meets its contract: a list that passes the checks gets the disk of the squares' corners, any other is
-- refused as they say.
use native.Mathlib.Omega.{arith}
use Rattle.traced_points.proofs.Checks.{accepted_list}
use Rattle.traced_points.proofs.smallest_disk_of_traced.Goals as goal

pub solve_in_room-requires-clause-accepted : goal.solve_in_room-requires-clause-accepted
solve_in_room-requires-clause-accepted c = (accepted_list c.args.list.now _ c.in_ok-check.ensures).0

pub solve_in_room-requires-2-clause-accepted : goal.solve_in_room-requires-2-clause-accepted
solve_in_room-requires-2-clause-accepted c = (accepted_list c.args.list.now _ c.in_ok-check.ensures).0

pub solve_in_room-requires-2-clause-fits : goal.solve_in_room-requires-2-clause-fits
solve_in_room-requires-2-clause-fits c =
    let a = (accepted_list c.args.list.now _ c.in_ok-check.ensures).0 in
    (omega (arith, a.few), omega arith)
