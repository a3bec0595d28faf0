use mathlib.Core.Path.{sym, ap, ◌∙◌}
use Prim.Native.Nat.{ℕ, ◌+◌, max}
use native.Mathlib.Omega.{arith}
use lib.ListN.{drop}
use Rattle.geometry.specs.Points.{points, point_at}
use Rattle.geometry.proofs.PointRows.{points-from, points_end}
use Rattle.stretches.specs.Widest.{apart}
use Rattle.farthest_points.specs.Reach.{reach_from}
use Rattle.farthest_points.proofs.Rows.{inside_at, reach_step, reach_end}
use Rattle.farthest_points.proofs.reach.Goals as goal

pub squared_distance-requires : goal.squared_distance-requires
squared_distance-requires c = (c.requires.0, inside_at c.args.list.now c.loop-j.j c.point_at.ensures c.requires.1 (omega arith))

pub loop-j-preserved : goal.loop-j-preserved
loop-j-preserved c =
    let l = c.args.list.now in
    let p = c.args.p in
    let j = c.loop-j.j in
    let most = c.loop-j.most in
    let Q = drop (j + 1) (points l) in (
      omega arith,
      ap (λ (m : ℕ). reach_from m p Q) (c.max-most.ensures ∙ ap (max most) (c.squared_distance.ensures ∙ ap (apart p) c.point_at.ensures))
          ∙ sym (reach_step most p (point_at l j) Q) ∙ ap (reach_from most p) (sym (points-from j l (omega arith))) ∙ c.loop-j.invariant.1,
    )

pub returns : goal.returns
returns c =
    let l = c.args.list.now in
    sym (reach_end c.loop-j.most c.args.p) ∙ ap (reach_from c.loop-j.most c.args.p) (sym (points_end c.loop-j.j l c.loop-j-test.false))
    ∙ c.loop-j.invariant.1
