-- `square_corners::lay_out` meets its contract. The loop's invariant: what was laid out and the corners of the squares that are left are all corners.
use mathlib.Core.Path.{◌≡◌}
use mathlib.Core.List.{◌++◌}
use Prim.Native.Nat.{◌+◌, ◌*◌}
use lib.ListN.{length}
use Rattle.geometry.specs.Points.{first_points}
use Rattle.tracings.specs.Squares.{traced, all_corners}
use Rattle.square_corners.specs.Laying.{AllBoxed}
use Rattle.square_corners.proofs.lay_out.Given as goal

abbrev pub invariant-loop-i : goal.invariant-loop-i
invariant-loop-i l =
    let n = l.i-iterator.count in
    let left = traced l.i-iterator.iter.0.now in
    (length l.room ≡ 8 * (n + length left)) × AllBoxed left × (first_points (4 * n) l.room ++ all_corners left ≡ all_corners (traced l.list))
