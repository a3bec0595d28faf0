-- `widest_stretch::widest_stretch` meets its contract: a list that passes the engine's checks gets its widest stretch, any other is refused as they say.
use mathlib.Core.List.{List}
use Prim.Native.Nat.{◌≤◌}
use native.Mathlib.Omega.{arith}
use lib.IntN.{ℤ}
use lib.ListN.{length}
use Rattle.geometry.specs.Points.{points}
use Rattle.engine.specs.Engine.{enclosure}
use Rattle.engine.proofs.Accepted.{Accepted, accepted_list}
use Rattle.engine.proofs.Checks.{even_length, some_length}
use Rattle.widest_stretch.proofs.widest_stretch.Goals as goal

-- a list that has passed the checks has two numbers at least
some : (l : List ℤ) → Accepted l (enclosure (points l)) → 2 ≤ length l
some l r = omega (arith, some_length l r.some, even_length l r.even)

pub widest-requires : goal.widest-requires
widest-requires c =
    let l = c.args.list.now in
    let r = accepted_list l (enclosure (points l)) c.in_ok-check.ensures in
    (some l r, r.boxed)

pub widest_by_hull-requires : goal.widest_by_hull-requires
widest_by_hull-requires c =
    let l = c.args.list.now in
    let r = accepted_list l (enclosure (points l)) c.in_ok-check.ensures in
    let even = even_length l r.even in
    (record { even = even; some = some l r; boxed = r.boxed }, omega (arith, even, r.few))
