use mathlib.Core.Path.{◌≡◌, refl, sym, ap, ◌∙◌, subst}
use mathlib.Core.List.Memᴰ
use mathlib.Core.List.{List, [], ◌∷◌, ◌++◌, append_assoc, append-nil}
use Prim.Native.Nat.{ℕ, ◌+◌, ◌*◌}
use native.Mathlib.Omega.{arith}
use lib.ListN.{length}
use Rattle.geometry.specs.declared.Point.{Point}
use Rattle.geometry.specs.Points.{points, first_points}
use Rattle.geometry.proofs.PointLists.{first_points_all}
use Rattle.tracings.specs.declared.TracedPoint.{TracedPoint}
use Rattle.tracings.specs.Squares.{traced, corners, all_corners}
use Rattle.square_corners.specs.Laying.{AllBoxed}
use Rattle.square_corners.proofs.Threes.{length-traced}
use Rattle.square_corners.proofs.lay_out.Goals as goal

corners_next : {ss : List TracedPoint} (s : TracedPoint) (rest : List TracedPoint) → ss ≡ s ∷ rest → all_corners ss ≡ corners s ++ all_corners rest
unfolding all_corners
corners_next s rest e = ap all_corners e

corners_end : {ss : List TracedPoint} → ss ≡ [] → all_corners ss ≡ []
unfolding all_corners
corners_end e = ap all_corners e

first_boxed : {ss : List TracedPoint} {s : TracedPoint} {rest : List TracedPoint} → ss ≡ s ∷ rest → AllBoxed ss → AllBoxed (s ∷ rest)
first_boxed e h = subst AllBoxed e h

pub loop-i-init : goal.loop-i-init
unfolding points
loop-i-init c =
    let l = c.args.list.now in
    let room = c.args.room.now in
    let it = c.into_iter-i-iterator.result in
    let gives = c.into_iter-i-iterator.ensures.into_iter_gives in
    let same : traced it.iter.0.now ≡ traced l =
    (λ i. traced ((gives i).iter.0.now)) ∙ (λ i. traced ((c.enumerate-i-items.ensures.source i).0.now)) ∙ c.traced_points.ensures in
    let zero : it.count ≡ 0 = (λ i. (gives i).count) ∙ c.enumerate-i-items.ensures.count in (
      omega (arith, zero, ap length same, length-traced l c.requires.threes, c.requires.room_length),
      subst AllBoxed (sym same) c.requires.boxed,
      ap (λ (n : ℕ). first_points (4 * n) room ++ all_corners (traced it.iter.0.now)) zero ∙ ap all_corners same,
    )

pub put_corners-requires-clause-room : goal.put_corners-requires-clause-room
put_corners-requires-clause-room c = omega (arith, c.loop-i.invariant.0, ap length c.in-Some.ensures.steps.0, c.in-Some.ensures.steps.1)

pub put_corners-requires-clause-boxed : goal.put_corners-requires-clause-boxed
put_corners-requires-clause-boxed c = first_boxed c.in-Some.ensures.steps.0 c.loop-i.invariant.1 c.in-Some.s (Memᴰ.head refl)

pub loop-i-preserved : goal.loop-i-preserved
loop-i-preserved c =
    let k = c.in-Some.ensures.steps in
    let i = c.in-Some.i in
    let s = c.in-Some.s in
    let rest = traced c.next.new.self.iter.0.now in
    let left = all_corners (traced c.loop-i.i-iterator.iter.0.now) in
    let new = c.put_corners.new.room in
    let before = first_points (4 * i) c.loop-i.room in
    let next : c.next.new.self.count ≡ i + 1 = omega (arith, k.1, k.2) in (
      omega (arith, c.loop-i.invariant.0, ap length k.0, k.2, c.put_corners.auto.room),
      (λ r m. first_boxed k.0 c.loop-i.invariant.1 r (Memᴰ.tail m)),
      ap (λ (n : ℕ). first_points (4 * n) new ++ all_corners rest) next
          ∙ ap (λ (Q : List Point). Q ++ all_corners rest) c.put_corners.ensures
          ∙ append_assoc before (corners s) (all_corners rest)
          ∙ ap (λ (Q : List Point). before ++ Q) (sym (corners_next s rest k.0))
          ∙ ap (λ (n : ℕ). first_points (4 * n) c.loop-i.room ++ left) k.1
          ∙ c.loop-i.invariant.2,
    )

pub returns : goal.returns
returns c =
    let k = c.in-None.ensures.steps in
    let n = c.loop-i.i-iterator.count in
    let all = first_points (4 * n) c.loop-i.room in
    sym (first_points_all (4 * n) c.loop-i.room (omega (arith, c.loop-i.invariant.0, ap length k.0.0)))
    ∙ sym (append-nil all)
    ∙ ap (λ (Q : List Point). all ++ Q) (sym (corners_end k.0.0))
    ∙ c.loop-i.invariant.2
