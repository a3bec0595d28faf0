use borrow.Author.Rules.{rules}
use mathlib.Core.Path.{◌≡◌, refl, sym, ap, ◌∙◌, subst}
use mathlib.Core.Bool.{true}
use mathlib.Core.List.{[], ◌∷◌}
use Prim.Native.Nat.{◌+◌, ◌*◌, ◌≤◌}
use native.Mathlib.Nat.{add-zero}
use native.Mathlib.Omega.{arith}
use lib.ListN.{length}
use Rattle.geometry.specs.declared.Point.{Point}
use Rattle.geometry.specs.EmBox.{in_em_box}
use Rattle.geometry.specs.Points.{point_at}
use Rattle.geometry.proofs.PointLists.{point_at-first_points}
use Rattle.disks.specs.Procedure.{boundary_disk}
use Rattle.relative_disks.specs.Relative.{is_outside, Keeps}
use Rattle.relative_disks.proofs.RelativeLaws.{near_box}
use Rattle.fixed_points.specs.declared.Boundary.TheVariants.{Two, Three}
use Rattle.fixed_points.specs.Boundary.{members, room_in, added, Boxed}
use Rattle.inner_level.proofs.RanLaws.{ran_full, ran_none, ran_kept, ran_moved, ran-length, point_same, added-boxed}
use Rattle.inner_level.proofs.two_fixed.Goals as goal
use Rattle.inner_level.proofs.two_fixed.Goals.{At-loop-i, In-loop-i, then-is_outside, else-is_outside}

-- at the loop's head: R is the set of the two points, and the list has its length
room : (a b : Point) → room_in (Two a b) ≡ 0 → ⊥
room a b e = omega arith

kept : (c : At-loop-i) → length c.loop-i.list ≡ length c.args.list.now
kept c = ran-length (Two c.args.a c.args.b) c.loop-i.i c.args.list.now c.loop-i.list c.loop-i.disk c.loop-i.i (omega arith) c.loop-i.invariant.1

-- in the loop: point i was there, is still there, and lies in the em box
fits : (c : In-loop-i) → 2 * c.loop-i.i + 2 ≤ length c.args.list.now
fits c = omega (arith, c.loop-i-test.true, c.requires.fits)

same_point : (c : In-loop-i) → point_at c.loop-i.list c.loop-i.i ≡ point_at c.args.list.now c.loop-i.i
same_point c =
    point_same (Two c.args.a c.args.b) c.loop-i.i c.args.list.now c.loop-i.list c.loop-i.disk c.loop-i.i (room c.args.a c.args.b) (fits c)
    c.loop-i.invariant.1

boxed : (c : In-loop-i) → in_em_box (point_at c.args.list.now c.loop-i.i) ≡ true
boxed c =
    c.requires.list_boxed.in_box _ (point_at-first_points c.loop-i.i c.args.n c.args.list.now c.loop-i-test.true c.requires.fits)

pub boundary_disk-disk-requires : goal.boundary_disk-disk-requires
boundary_disk-disk-requires c = c.requires.fixed_boxed

pub loop-i-init : goal.loop-i-init
loop-i-init c =
    (search rules, ran_none (Two c.args.a c.args.b) c.args.list.now c.boundary_disk-disk.result c.boundary_disk-disk.ensures)

pub point_at-p-requires : goal.point_at-p-requires
point_at-p-requires c = omega (arith, kept (goal.at.point_at-p-requires c).At-loop-i)

pub is_outside-requires : goal.is_outside-requires
is_outside-requires c =
    let inside = (goal.at.is_outside-requires c).In-loop-i in
    record { small = c.loop-i.invariant.1.disk_is.small; near = rw (c.point_at-p.ensures ∙ same_point inside) (near_box _ (boxed inside)) }

pub boundary_disk-disk-requires-then-is_outside : goal.boundary_disk-disk-requires-then-is_outside
boundary_disk-disk-requires-then-is_outside c =
    let inside = (goal.at.boundary_disk-disk-requires-then-is_outside c).In-loop-i in
    subst (λ (q : Point). Boxed (members (added (Two c.args.a c.args.b) q))) (sym (c.point_at-p.ensures ∙ same_point inside))
    (added-boxed (Two c.args.a c.args.b) (point_at c.args.list.now c.loop-i.i) c.requires.fixed_boxed (boxed inside))

pub move_to_front-requires : goal.move_to_front-requires
move_to_front-requires c =
    omega (arith, kept (goal.at.move_to_front-requires c).At-loop-i, fits (goal.at.move_to_front-requires c).In-loop-i)

pub loop-i-preserved : goal.loop-i-preserved
loop-i-preserved c =
    let R = Two c.args.a c.args.b in
    let places = goal.at.loop-i-preserved c in
    let l = c.args.list.now in
    let i = c.loop-i.i in
    let p = point_at c.loop-i.list i in
    let point = c.point_at-p.ensures in
    let tested : is_outside c.loop-i.disk p ≡ c.is_outside.result =
    sym (c.is_outside.ensures ∙ ap (is_outside c.loop-i.disk) point) in (
      omega arith,
      elim c.if-is_outside.branch [
        | then-is_outside w ↦
            -- with p added R has three points, so the circle is all that the call gives
            let d = w.boundary_disk-disk-then-is_outside.result in
            let circle = subst (λ (q : Point). Keeps d (boundary_disk (q ∷ c.args.a ∷ c.args.b ∷ []))) point w.boundary_disk-disk-then-is_outside.ensures in
            let three = ran_full (Three p c.args.a c.args.b) i c.loop-i.list d refl (omega (arith, kept places.At-loop-i, fits places.In-loop-i)) circle in
            rw (w.list-is, w.move_to_front.ensures, w.disk-is)
            (rw (add-zero (i + 1)) at (ran_moved R i l c.loop-i.list c.loop-i.disk i (room c.args.a c.args.b) (fits places.In-loop-i) c.loop-i.invariant.1
            c.loop-i.list d 0 (boxed places.In-loop-i) (tested ∙ w.if-is_outside.true) three))
        | else-is_outside w ↦
            rw (w.list-is, w.disk-is)
            (ran_kept R i l c.loop-i.list c.loop-i.disk i (room c.args.a c.args.b) (fits places.In-loop-i) c.loop-i.invariant.1 (boxed places.In-loop-i)
            (tested ∙ w.if-is_outside.false))
      ],
    )

pub returns : goal.returns
returns c =
    let e : c.loop-i.i ≡ c.args.n = omega arith in
    rw e at c.loop-i.invariant.1
