-- `widest_stretch::widest_of_hull` meets its contract: the points that are kept have the list's widest stretch.
use mathlib.Core.Path.{sym, ◌∙◌}
use Prim.Native.Nat.{◌*◌, ◌≤◌}
use native.Mathlib.Omega.{arith}
use lib.ListN.{length}
use lib.Seq.{length-take-le}
use Rattle.widest_stretch.proofs.Kept.{kept_some, kept_room, kept_boxed, kept_widest}
use Rattle.widest_stretch.proofs.widest_of_hull.Goals as goal
use Rattle.widest_stretch.proofs.widest_of_hull.Goals.{After-reduce-n}

-- the kept points are in front of the list
fits : (c : After-reduce-n) → 2 * c.reduce-n.result ≤ length c.reduce-n.new.list
fits c = omega (arith, kept_room c.args.list.now c.requires.some, c.reduce-n.ensures.size)

pub overflow_mul-n : goal.overflow_mul-n
overflow_mul-n c = omega (arith, fits (goal.at.overflow_mul-n c).After-reduce-n)

pub slice_bounds-widest-end : goal.slice_bounds-widest-end
slice_bounds-widest-end c = fits (goal.at.slice_bounds-widest-end c).After-reduce-n

pub slice_bounds-widest-end-2 : goal.slice_bounds-widest-end-2
slice_bounds-widest-end-2 c = sym (length-take-le _ _ (fits (goal.at.slice_bounds-widest-end-2 c).After-reduce-n))

pub widest-requires : goal.widest-requires
widest-requires c =
    let size = c.reduce-n.ensures.size in
    let left = c.reduce-n.ensures.left in
    let l = c.args.list.now in (
      omega (arith, length-take-le (2 * c.reduce-n.result) c.reduce-n.new.list (fits (goal.at.widest-requires c).After-reduce-n), kept_some l c.requires.some, size),
      kept_boxed l c.requires.some c.reduce-n.result c.reduce-n.new.list size left c.requires.boxed,
    )

pub returns : goal.returns
returns c =
    let size = c.reduce-n.ensures.size in
    let left = c.reduce-n.ensures.left in
    c.widest.ensures ∙ kept_widest c.args.list.now c.requires.some c.reduce-n.result c.reduce-n.new.list size left
