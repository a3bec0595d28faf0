-- `welzl::mtf` meets its contract.
use Rattle.std.proofs.Common.{rules, ◌≡◌, ℕ, ◌+◌, ◌*◌, ◌^◌, ◌<◌, ◌≤◌, ◌∙◌, length, arith, sym, ap, subst}
use mathlib.Core.Bool.{true}
use native.Mathlib.Nat.{add-zero}
use Rattle.geometry.specs.declared.Point.{Point}
use Rattle.geometry.specs.EmBox.{in_em_box}
use Rattle.geometry.specs.Points.{point_at}
use Rattle.geometry.proofs.PointLists.{point_at-first_points}
use Rattle.relative_disks.specs.Relative.{is_outside}
use Rattle.relative_disks.proofs.RelativeLaws.{near_box}
use Rattle.fixed_points.specs.declared.Boundary.{Boundary}
use Rattle.fixed_points.specs.Boundary.{room_in, added}
use Rattle.inner_level.specs.Ran.{Ran}
use Rattle.inner_level.proofs.RunLaws.{room_falls}
use Rattle.inner_level.proofs.RanLaws.{ran_full, ran_none, ran_kept, ran_moved, ran-length, ran_tests, point_same, prefix_boxed, added-boxed}
use Rattle.welzl.proofs.+mtf.Goals as goal
use Rattle.welzl.proofs.+mtf.Goals.{At-loop-i, In-loop-i, then-is_outside, else-is_outside, then-i-gt0, else-i-gt0}

kept_sum : (k i : ℕ) → k + (i + 1) ≡ k + i + 1
kept_sum k i = omega arith

moved_sum : (k m i : ℕ) → k + m + (i + 1) ≡ k + i + 1 + m
moved_sum k m i = omega arith

-- at the loop's head: the list has its length, the tests are far from wrapping, and R has room
kept : (t : ℕ) (c : At-loop-i t) → length c.loop-i.list ≡ length c.args.list.now
kept t c =
    ran-length c.args.fixed c.loop-i.i c.args.list.now c.loop-i.list c.loop-i.disk (c.loop-i.inner + c.loop-i.i) (omega arith)
    c.loop-i.invariant.1

counted : (t : ℕ) (c : At-loop-i t) → c.loop-i.inner + c.loop-i.i < 2 ^ 36
counted t c =
    ran_tests c.args.fixed c.loop-i.i c.args.list.now c.loop-i.list c.loop-i.disk (c.loop-i.inner + c.loop-i.i) (omega arith)
    c.loop-i.invariant.1 (omega arith)

more : (t : ℕ) (c : At-loop-i t) → room_in c.args.fixed ≡ 0 → ⊥
more t c e = c.if-room-eq0.false (c.room.ensures ∙ e)

-- in the loop: point i was there, is still there, and lies in the em box
fits : (t : ℕ) (c : In-loop-i t) → 2 * c.loop-i.i + 2 ≤ length c.args.list.now
fits t c = omega (arith, c.loop-i-test.true, c.requires.fits)

boxed : (t : ℕ) (c : In-loop-i t) → in_em_box (point_at c.args.list.now c.loop-i.i) ≡ true
boxed t c =
    c.requires.list_boxed.in_box _ (point_at-first_points c.loop-i.i c.args.n c.args.list.now c.loop-i-test.true c.requires.fits)

same_point : (t : ℕ) (c : In-loop-i t) → point_at c.loop-i.list c.loop-i.i ≡ point_at c.args.list.now c.loop-i.i
same_point t c =
    point_same c.args.fixed c.loop-i.i c.args.list.now c.loop-i.list c.loop-i.disk (c.loop-i.inner + c.loop-i.i) (λ e. c.if-room-eq0.false (c.room.ensures ∙ e))
    (fits t c) c.loop-i.invariant.1

-- the set of the call, with the point as the definition has it
next_is : (R : Boundary) {S : Boundary} {p q : Point} → S ≡ added R p → p ≡ q → S ≡ added R q
next_is R e f = e ∙ ap (added R) f

pub returns-in-Two : goal.returns-in-Two
returns-in-Two t c = rw c.in-Two.is c.two_fixed.ensures

pub returns-then-room-eq0 : goal.returns-then-room-eq0
returns-then-room-eq0 t c =
    ran_full c.args.fixed c.args.n c.args.list.now c.boundary_disk-disk.result (sym c.room.ensures ∙ c.if-room-eq0.true) c.requires.fits
    c.boundary_disk-disk.ensures

pub loop-i-init : goal.loop-i-init
loop-i-init t c = (search rules, ran_none c.args.fixed c.args.list.now c.boundary_disk-disk.result c.boundary_disk-disk.ensures)

pub is_outside-requires : goal.is_outside-requires
is_outside-requires t c =
    let inside = (goal.at.is_outside-requires t c).In-loop-i in
    record { small = c.loop-i.invariant.1.disk_is.small; near = rw (c.point_at-p.ensures ∙ same_point t inside) (near_box _ (boxed t inside)) }

pub mtf-again-requires : goal.mtf-again-requires
mtf-again-requires t c =
    let places = goal.at.mtf-again-requires t c in
    let R = c.args.fixed in
    let l = c.args.list.now in
    let i = c.loop-i.i in (
      rw (c.add_point-next.ensures, ← c.decreases) (room_falls R c.point_at-p.result (more t places.At-loop-i)),
      record {
        few = omega (arith, c.loop-i-test.true, c.requires.few);
        fits = omega (arith, kept t places.At-loop-i, fits t places.In-loop-i);
        fixed_boxed =
            rw (c.add_point-next.ensures, c.point_at-p.ensures ∙ same_point t places.In-loop-i)
            (added-boxed R (point_at l i) c.requires.fixed_boxed (boxed t places.In-loop-i));
        list_boxed = prefix_boxed R i l c.loop-i.list c.loop-i.disk (c.loop-i.inner + i) (more t places.At-loop-i) (fits t places.In-loop-i)
            c.loop-i.invariant.1 c.args.n c.loop-i.invariant.0 c.requires.list_boxed;
      },
    )

pub overflow_add-inner : goal.overflow_add-inner
overflow_add-inner t c =
    let places = goal.at.overflow_add-inner t c in
    omega (
      arith,
      counted t places.At-loop-i,
      ran_tests c.add_point-next.result c.loop-i.i c.loop-i.list c.mtf-again.new.list c.mtf-again.result.disk c.mtf-again.result.tests
          (omega (arith, kept t places.At-loop-i, fits t places.In-loop-i)) c.mtf-again.ensures (omega (arith, c.loop-i-test.true, c.requires.few)),
    )

pub boundary_disk-disk-requires-else-i-gt0 : goal.boundary_disk-disk-requires-else-i-gt0
boundary_disk-disk-requires-else-i-gt0 t c =
    let inside = (goal.at.boundary_disk-disk-requires-else-i-gt0 t c).In-loop-i in
    rw (c.add_point-next.ensures, c.point_at-p.ensures ∙ same_point t inside)
    (added-boxed c.args.fixed (point_at c.args.list.now c.loop-i.i) c.requires.fixed_boxed (boxed t inside))

pub loop-i-preserved : goal.loop-i-preserved
loop-i-preserved t c =
    let places = goal.at.loop-i-preserved t c in
    let R = c.args.fixed in
    let l = c.loop-i.list in
    let i = c.loop-i.i in
    let tested : is_outside c.loop-i.disk (point_at l i) ≡ c.is_outside.result =
    sym (c.is_outside.ensures ∙ ap (is_outside c.loop-i.disk) c.point_at-p.ensures) in (
      omega arith,
      elim c.if-is_outside.branch [
        | then-is_outside w ↦
            let S = added R (point_at l i) in
            let again : (k : ℕ) × Ran S i l w.if-i-gt0.list w.if-i-gt0.disk k × (w.if-i-gt0.inner ≡ c.loop-i.inner + k) =
            elim w.if-i-gt0.branch [
              | then-i-gt0 v ↦ (
                v.mtf-again.result.tests,
                rw (v.list-is, v.disk-is) (rw (next_is R w.add_point-next.ensures c.point_at-p.ensures) at v.mtf-again.ensures),
                v.inner-is,
              )
              | else-i-gt0 v ↦
                  let d = v.boundary_disk-disk-else-i-gt0.result in
                  let at_first : i ≡ 0 = omega (arith, v.if-i-gt0.false) in
                  let none = ran_none S l d (rw (next_is R w.add_point-next.ensures c.point_at-p.ensures) at v.boundary_disk-disk-else-i-gt0.ensures) in
                  (0, rw (v.list-is, v.disk-is) (subst (λ (j : ℕ). Ran S j l l d 0) (sym at_first) none), v.inner-is ∙ sym (add-zero c.loop-i.inner))
            ] in
            rw (w.list-is, w.move_to_front.ensures, w.disk-is, w.inner-is, again.2, moved_sum c.loop-i.inner again.0 i)
            (ran_moved R i c.args.list.now l c.loop-i.disk (c.loop-i.inner + i) (more t places.At-loop-i) (fits t places.In-loop-i)
            c.loop-i.invariant.1 w.if-i-gt0.list w.if-i-gt0.disk again.0 (boxed t places.In-loop-i) (tested ∙ w.if-is_outside.true) again.1)
        | else-is_outside w ↦
            rw (w.list-is, w.disk-is, w.inner-is, kept_sum c.loop-i.inner i)
            (ran_kept R i c.args.list.now l c.loop-i.disk (c.loop-i.inner + i) (more t places.At-loop-i) (fits t places.In-loop-i)
            c.loop-i.invariant.1 (boxed t places.In-loop-i) (tested ∙ w.if-is_outside.false))
      ],
    )

pub overflow_add-tests : goal.overflow_add-tests
overflow_add-tests t c = omega (arith, counted t (goal.at.overflow_add-tests t c).At-loop-i)

pub returns : goal.returns
returns t c =
    let e : c.loop-i.i ≡ c.args.n = omega arith in
    subst (λ (i : ℕ). Ran c.args.fixed i c.args.list.now c.loop-i.list c.loop-i.disk (c.loop-i.inner + i)) e c.loop-i.invariant.1
