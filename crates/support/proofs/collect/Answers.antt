use mathlib.Core.Path.{◌≡◌, sym, ap, subst, ◌∙◌}
use mathlib.Core.Bool.{true}
use mathlib.Core.List.{List, [], ◌∷◌, ◌++◌}
use Prim.Native.Nat.{ℕ, ◌+◌, ◌*◌, ◌/◌, ◌≤◌}
use native.Mathlib.Omega.{arith}
use lib.IntN.{ℤ, pos}
use lib.ListN.{length}
use lib.Seq.{length-take-le}
use mir.Syntax.{w64}
use mir.Val.{SFits, to_z, of_z}
use mir.Facts.{to_z-of_z}
use Rattle.integers.proofs.Order.{<-≤_clash, ≤_of_<}
use Rattle.geometry.specs.declared.Point.{Point}
use Rattle.geometry.specs.Plane.{Disk, numbers}
use Rattle.geometry.specs.Points.{points, point_at, first_points}
use Rattle.geometry.proofs.PointLists.{length-first_points, first_points_next, first_points-whole}
use Rattle.geometry.proofs.PointRows.{points_some}
use Rattle.point_lists.specs.Sets.{In}
use Rattle.point_lists.specs.Rising.{insert}
use Rattle.point_lists.proofs.Rising.{insert_new, insert-length}
use Rattle.support_tests.specs.Tests.{on_boundary_test, SmallDisk}
use Rattle.support_tests.proofs.Numbers.{limits_small}
use Rattle.boundary_powers.specs.Power.{OfBoundary}
use Rattle.support_span.specs.Span.{Spanned, Spans}
use Rattle.support_span.specs.declared.Span.{Span}
use Rattle.support_span.proofs.Spans.{spanned_more}
use Rattle.support.specs.Asked.{Asked}
use Rattle.support.proofs.SearchFinds.{e_some, within_limits}
use Rattle.support.proofs.Kept.{Kept, kept_none, kept_put, kept_next, next_on, kept_finds}
use Rattle.support.proofs.collect.Goals as goal
use Rattle.support.proofs.collect.Goals.{then-m-size, else-m-size}

-- the disk's numbers are small
small : {l : List ℤ} {d : Disk} → Asked l d → SmallDisk d
small {l} {d} a = limits_small d (within_limits (points l) (points_some l a.some) d a.smallest a.boxed)

-- what `next_needed` asks, from any place on
asked : {l : List ℤ} {d : Disk} {power : ℤ} → Asked l d → OfBoundary d power → SFits w64 power → (i : ℕ) → i ≤ length l / 2
    → (i ≤ length l / 2) × SmallDisk d × (1 ≤ d.e) × OfBoundary d (to_z w64 (of_z w64 power))
asked {l} {d} a b f i h = (h, small a, e_some (points l) (points_some l a.some) d a.smallest, subst (OfBoundary d) (sym (to_z-of_z f)) b)

nothing_spanned : (d : Disk) (Q : List Point) → Spans d Q (record { lo = pos 0; hi = pos 0 })
nothing_spanned d Q z h k = <-≤_clash h (≤_of_< k)

-- a point of the boundary put in
put_in : {d : Disk} (l : List ℤ) (i : ℕ) {p : Point} {Q R : List Point} → 2 * i + 2 ≤ length l → p ≡ point_at l i → on_boundary_test d (point_at l i) ≡ true
    → Kept d (first_points i l) Q → R ≡ insert p Q → Kept d (first_points (i + 1) l) R
put_in {d} l i {p} {Q} {R} room read on k e =
    let next = first_points_next i l room ∙ ap (λ (q : Point). first_points i l ++ (q ∷ [])) (sym read) in
    subst (λ (L : List Point). Kept d L R) (sym next)
    (subst (Kept d (first_points i l ++ (p ∷ []))) (sym e) (kept_put d (first_points i l) Q p k (ap (on_boundary_test d) read ∙ on)))

-- what was spanned stays so
still_spanned : {d : Disk} (p : Point) {Q R : List Point} {s : Span} → Spans d Q s → R ≡ insert p Q → Spans d R s
still_spanned {d} p {Q} spans e z h k = subst (λ (L : List Point). Spanned d L z) (sym e) (spanned_more d Q p z (spans z h k))

-- where there is room for a point more, the points with p put in have room
one_more : (out : List ℤ) (m : ℕ) (p : Point) {size : ℕ} → size ≡ length (insert p (first_points m out)) → 2 * m + 2 ≤ length out → 2 * size ≤ length out
one_more out m p e room = omega (arith, e, insert-length p (first_points m out), length-first_points m out (omega arith))

pub next_needed-i-requires : goal.next_needed-i-requires
next_needed-i-requires c = asked c.requires.0 c.requires.2 c.ranges.power 0 (omega arith)

pub loop-i-init : goal.loop-i-init
unfolding points
loop-i-init c =
    let d = numbers c.args.disk in
    let t = c.next_needed-i.ensures in
    let none : Span = record { lo = pos 0; hi = pos 0 } in (
      t.most,
      omega arith,
      kept_next d none [] (nothing_spanned d []) c.args.list.now 0 c.next_needed-i.result t (kept_none d),
      nothing_spanned d [],
      next_on t,
    )

pub insert_point-size-requires : goal.insert_point-size-requires
insert_point-size-requires c = omega arith

pub slice_bounds-span_with-end : goal.slice_bounds-span_with-end
slice_bounds-span_with-end c = omega (arith, one_more c.loop-i.out c.loop-i.m c.point_at-p.result c.insert_point-size.ensures.size (omega arith))

pub overflow_mul-size : goal.overflow_mul-size
overflow_mul-size c =
    record { fits = omega (arith, one_more c.loop-i.out c.loop-i.m c.point_at-p.result c.insert_point-size.ensures.size (omega arith)) }

pub slice_bounds-span_with-end-then-m-size : goal.slice_bounds-span_with-end-then-m-size
slice_bounds-span_with-end-then-m-size c =
    sym (length-take-le (2 * c.insert_point-size.result) c.insert_point-size.new.list
    (omega (arith, one_more c.loop-i.out c.loop-i.m c.point_at-p.result c.insert_point-size.ensures.size (omega arith))))

pub span_with-span-requires : goal.span_with-span-requires
span_with-span-requires c =
    let i = c.loop-i.invariant in
    let p = c.point_at-p.result in
    let Q = first_points c.loop-i.m c.loop-i.out in
    let e = c.insert_point-size.ensures.left in
    record {
      small = small c.requires.0;
      among = subst (In p) (sym e) (insert_new p Q);
      spans = still_spanned p i.3 e;
    }

pub next_needed-i-requires-in-loop-i : goal.next_needed-i-requires-in-loop-i
next_needed-i-requires-in-loop-i c = asked c.requires.0 c.requires.2 c.ranges.power (c.loop-i.i + 1) (omega arith)

pub loop-i-preserved : goal.loop-i-preserved
loop-i-preserved c =
    let d = numbers c.args.disk in
    let l = c.args.list.now in
    let i = c.loop-i.invariant in
    let p = c.point_at-p.result in
    let Q = first_points c.loop-i.m c.loop-i.out in
    let R = first_points c.insert_point-size.result c.insert_point-size.new.list in
    let e = c.insert_point-size.ensures.left in
    let t = c.next_needed-i-in-loop-i.ensures in
    let spans : Spans d R c.if-m-size.span =
    elim c.if-m-size.branch [
      | then-m-size w ↦ subst (Spans d R) (sym w.span-is) w.span_with-span.ensures
      | else-m-size w ↦ subst (Spans d R) (sym w.span-is) (still_spanned p i.3 e)
    ] in
    let kept = put_in l c.loop-i.i (omega arith) c.point_at-p.ensures (i.4 c.loop-i-test.true) i.2 e in (
      t.most,
      omega (arith, t.from, c.insert_point-size.ensures.size, insert-length p Q, length-first_points c.loop-i.m c.loop-i.out (omega arith)),
      kept_next d c.if-m-size.span R spans l (c.loop-i.i + 1) c.next_needed-i-in-loop-i.result t kept,
      spans,
      next_on t,
    )

pub returns : goal.returns
returns c =
    let d = numbers c.args.disk in
    let l = c.args.list.now in
    let whole : first_points c.loop-i.i l ≡ points l = first_points-whole c.loop-i.i l (omega arith) (omega arith) in
    record {
      room = omega arith;
      left = kept_finds (points l) (points_some l c.requires.0.some) d c.requires.0.smallest (first_points c.loop-i.m c.loop-i.out)
          (subst (λ (P : List Point). Kept d P (first_points c.loop-i.m c.loop-i.out)) whole c.loop-i.invariant.2);
    }
