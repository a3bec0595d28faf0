use mathlib.Core.Path.{sym, ap, ◌∙◌}
use Prim.Native.Nat.{◌+◌}
use native.Mathlib.Omega.{arith}
use lib.ListN.{drop}
use Rattle.geometry.specs.declared.Point.{Point}
use Rattle.geometry.specs.Points.{points, point_at}
use Rattle.geometry.proofs.PointRows.{points-from, points_end}
use Rattle.stretches.specs.declared.Stretch.{Stretch}
use Rattle.stretches.specs.Widest.{ordered, better_of, best_from}
use Rattle.farthest_points.proofs.Rows.{inside_at, best_step, best_end}
use Rattle.farthest_points.proofs.best_from.Goals as goal

pub better_of-found-requires : goal.better_of-found-requires
better_of-found-requires c = (c.requires.0, inside_at c.args.list.now c.loop-j.j c.point_at.ensures c.requires.1 (omega arith))

pub loop-j-preserved : goal.loop-j-preserved
loop-j-preserved c =
    let l = c.args.list.now in
    let p = c.args.p in
    let j = c.loop-j.j in
    let found = c.loop-j.found in
    let Q = drop (j + 1) (points l) in (
      omega arith,
      ap (λ (r : Stretch). best_from r p Q) (c.better_of-found.ensures ∙ ap (λ (q : Point). better_of found (ordered p q)) c.point_at.ensures)
          ∙ sym (best_step found p (point_at l j) Q) ∙ ap (best_from found p) (sym (points-from j l (omega arith))) ∙ c.loop-j.invariant.1,
    )

pub returns : goal.returns
returns c =
    let l = c.args.list.now in
    sym (best_end c.loop-j.found c.args.p) ∙ ap (best_from c.loop-j.found c.args.p) (sym (points_end c.loop-j.j l c.loop-j-test.false))
    ∙ c.loop-j.invariant.1
