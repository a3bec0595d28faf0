use mathlib.Core.Path.{◌≡◌, refl, ap, ◌∙◌}
use mathlib.Core.List.{List, [], ◌∷◌, append_assoc}
use Prim.Native.Nat.{◌+◌, ◌*◌}
use native.Mathlib.Omega.{arith}
use lib.ListN.{length, drop}
use Rattle.geometry.specs.declared.Point.{Point}
use Rattle.geometry.specs.Points.{point_at, first_points}
use Rattle.geometry.proofs.PointRows.{first_points-from, first_points_end, first_points-take}
use Rattle.point_lists.proofs.Put.{first_points-put, drop-put, length-put}
use Rattle.rising_lists.proofs.Rests.{point_at-drop, drop_next}
use Rattle.rising_lists.proofs.insert_at.Goals as goal

pub loop-i-init : goal.loop-i-init
loop-i-init c =
    let kept = first_points-take c.args.k c.args.n c.args.list.now c.requires.0 (omega arith) in
    (omega arith, omega arith, refl, refl, rw kept)

pub loop-i-preserved : goal.loop-i-preserved
loop-i-preserved c =
    let i = c.loop-i.i in
    let l = c.loop-i.list in
    let l₀ = c.args.list.now in
    let Q : List Point = first_points c.args.n l₀ in
    let read : c.point_at-q.result ≡ point_at l₀ i = c.point_at-q.ensures
    ∙ point_at-drop i l l₀ c.loop-i.invariant.3 in
    let rest : drop i Q ≡ point_at l₀ i ∷ drop (i + 1) Q = first_points-from c.args.n i l₀ (omega arith) (omega arith) in (
      omega arith,
      omega arith,
      ap length c.put_point.ensures ∙ length-put l i c.loop-i.held ∙ c.loop-i.invariant.2,
      ap (drop (2 * (i + 1))) c.put_point.ensures ∙ drop-put l i c.loop-i.held ∙ drop_next i l l₀ c.loop-i.invariant.3,
      rw (c.put_point.ensures, first_points-put l i c.loop-i.held (omega arith), append_assoc, read, ← rest) c.loop-i.invariant.4,
    )

pub returns : goal.returns
returns c =
    let e : c.loop-i.i ≡ c.args.n = omega arith in
    let end : drop c.args.n (first_points c.args.n c.args.list.now) ≡ [] = first_points_end c.args.n c.args.n c.args.list.now
    (omega arith) (omega arith) in
    rw (c.put_point-2.ensures, first_points-put c.loop-i.list c.args.n c.loop-i.held (omega arith)) (rw (e, end) at c.loop-i.invariant.4)
