use mathlib.Core.Path.{◌≡◌, sym, ap, ap₂, ◌∙◌}
use mathlib.Core.List.{List}
use Prim.Native.Nat.{◌+◌, ◌≤◌}
use native.Mathlib.Omega.{arith}
use lib.IntN.{ℤ}
use lib.ListN.{length, drop}
use Rattle.geometry.specs.declared.Point.{Point}
use Rattle.geometry.specs.EmBox.{all_in_em_box}
use Rattle.geometry.specs.Points.{points, point_at}
use Rattle.geometry.proofs.PointRows.{points-from}
use Rattle.stretches.specs.declared.Stretch.{Stretch}
use Rattle.stretches.specs.Widest.{ordered, best_from, best_of, widest_of}
use Rattle.farthest_points.proofs.Rows.{inside_at, of_step, of_end, points_tail, tail_inside}
use Rattle.farthest_points.proofs.widest.Goals as goal

widest_first : (l : List ℤ) → 2 ≤ length l → best_of (ordered (point_at l 0) (point_at l 0)) (points l) ≡ widest_of (points l)
unfolding widest_of
widest_first l h = let all = points-from 0 l h in
    ap (best_of (ordered (point_at l 0) (point_at l 0))) all ∙ sym (ap widest_of all)

pub loop-i-init : goal.loop-i-init
loop-i-init c =
    let l = c.args.list.now in
    let is : c.stretch_between-found.result ≡ ordered (point_at l 0) (point_at l 0) =
    c.stretch_between-found.ensures ∙ ap (λ (p : Point). ordered p p) c.point_at-first.ensures in
    (omega arith, ap (λ (s : Stretch). best_of s (points l)) is ∙ widest_first l c.requires.0)

pub best_if_far-found-requires : goal.best_if_far-found-requires
best_if_far-found-requires c =
    let l = c.args.list.now in
    let i = c.loop-i.i in
    (inside_at l i c.point_at-p.ensures c.requires.1 (omega arith), ap all_in_em_box (points_tail i l) ∙ tail_inside i l c.requires.1)

pub loop-i-preserved : goal.loop-i-preserved
loop-i-preserved c =
    let l = c.args.list.now in
    let i = c.loop-i.i in
    let found = c.loop-i.found in
    let best : c.best_if_far-found.result ≡ best_from found (point_at l i) (drop i (points l)) =
    c.best_if_far-found.ensures ∙ ap₂ (best_from found) c.point_at-p.ensures (points_tail i l) in
    (omega arith, ap (λ (s : Stretch). best_of s (drop (i + 1) (points l))) best ∙ sym (of_step l i found (omega arith)) ∙ c.loop-i.invariant.1)

pub returns : goal.returns
returns c =
    let l = c.args.list.now in
    sym (of_end l c.loop-i.i c.loop-i.found c.loop-i-test.false) ∙ c.loop-i.invariant.1
