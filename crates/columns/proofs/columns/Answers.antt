use mathlib.Core.Path.{◌≡◌, sym, ap, ap₂, subst, ◌∙◌}
use mathlib.Core.List.{◌∷◌, ◌++◌, []}
use Prim.Native.Nat.{ℕ, ◌+◌, ◌<◌}
use native.Mathlib.Omega.{arith}
use lib.Dec.{T}
use lib.IntN.{ℤ, nat_abs, pos}
use lib.ListN.{get_or, set, length}
use Rattle.std.specs.Int.{int_min, int_max}
use Rattle.geometry.proofs.Coordinates.{stored}
use lib.Signed.{non_neg, yes_non_neg}
use mir.Syntax.{w16}
use mir.Val.{to_z, of_z}
use mir.Facts.{to_z-of_z}
use Rattle.geometry.specs.declared.Point.{Point}
use Rattle.geometry.specs.EmBox.{em, Inside}
use Rattle.geometry.specs.Points.{points, point_at, first_points}
use Rattle.geometry.proofs.EmBox.{all_inside}
use Rattle.geometry.proofs.PointLists.{first_points_next}
use Rattle.geometry.proofs.PointRows.{point_at_in}
use Rattle.columns.specs.Columns.{kept_at}
use Rattle.columns.proofs.ColumnLaws.{box_column, columns_next, seen_next}
use Rattle.columns.proofs.columns.Goals as goal
use Rattle.columns.proofs.columns.Goals.{After-struct_told-1}

-- the point that was read, and its column
module _ (c : After-struct_told-1) where
  abbrev p : Point
  p = c.point_at-p.result

  boxed : Inside em p
  boxed =
      let l = c.args.list.now in
      let i = c.loop-i.i in
      subst (Inside em) (sym c.point_at-p.ensures)
      (all_inside (points l) c.requires.list_len.1 (point_at l i) (point_at_in i l (omega (arith, c.loop-i-test.true))))

  x_is : to_z w16 (of_z w16 p.x) ≡ p.x
  x_is = to_z-of_z {w = w16} (record { sfits = c.struct_told-1.given.0.1 })

  column_is : nat_abs (to_z w16 (of_z w16 p.x)) ≡ nat_abs p.x
  column_is = ap nat_abs x_is

  in_low : nat_abs (to_z w16 (of_z w16 p.x)) < length c.loop-i.low
  in_low = omega (arith, column_is, box_column p boxed, c.loop-i.invariant.1.low_size)

  in_high : nat_abs (to_z w16 (of_z w16 p.x)) < length c.loop-i.high
  in_high = omega (arith, column_is, box_column p boxed, c.loop-i.invariant.1.high_size)

pub loop-i-init : goal.loop-i-init
unfolding points
loop-i-init c = (omega arith, c.requires.columns.0, c.requires.columns.1)

pub overflow_cast-x : goal.overflow_cast-x
overflow_cast-x c = (
  subst (λ (z : ℤ). T (non_neg z)) (sym (x_is c)) (yes_non_neg (boxed c).from_left),
  record { fits = omega (arith, column_is c, box_column (p c) (boxed c)) },
)

pub slice_copy_out-min : goal.slice_copy_out-min
slice_copy_out-min c = in_low (goal.at.slice_copy_out-min c).After-struct_told-1

pub bounds-low-x : goal.bounds-low-x
bounds-low-x c = in_low (goal.at.bounds-low-x c).After-struct_told-1

pub slice_copy_out-max : goal.slice_copy_out-max
slice_copy_out-max c = in_high (goal.at.slice_copy_out-max c).After-struct_told-1

pub bounds-high-x : goal.bounds-high-x
bounds-high-x c = in_high (goal.at.bounds-high-x c).After-struct_told-1

pub bounds-seen-x : goal.bounds-seen-x
bounds-seen-x c =
    let here = (goal.at.bounds-seen-x c).After-struct_told-1 in
    omega (arith, column_is here, box_column (p here) (boxed here), c.loop-i.invariant.2.groups)

pub loop-i-preserved : goal.loop-i-preserved
loop-i-preserved c =
    let here = (goal.at.loop-i-preserved c).After-struct_told-1 in
    let q = p here in
    let x = nat_abs q.x in
    let k = nat_abs (to_z w16 (of_z w16 q.x)) in
    let i = c.loop-i.i in
    let l = c.args.list.now in
    let more = c.loop-i-test.true in
    let low = c.loop-i.low in
    let high = c.loop-i.high in
    let y_is : to_z w16 (of_z w16 q.y) ≡ q.y = to_z-of_z {w = w16} (record { sfits = c.struct_told-1.given.1.0.1 }) in
    let low_is : set low k (to_z w16 (of_z w16 c.min.result)) ≡ kept_at int_min low x q.y =
    ap (set low k) (stored c.min.result c.min.type_inv ∙ c.min.ensures.value ∙ ap₂ int_min (stored (get_or low k (pos 0)) c.min-arg-1.given) y_is)
    ∙ ap (λ (j : ℕ). kept_at int_min low j q.y) (column_is here) in
    let high_is : set high k (to_z w16 (of_z w16 c.max.result)) ≡ kept_at int_max high x q.y =
    ap (set high k) (stored c.max.result c.max.type_inv ∙ c.max.ensures.value ∙ ap₂ int_max (stored (get_or high k (pos 0)) c.max-arg-1.given) y_is)
    ∙ ap (λ (j : ℕ). kept_at int_max high j q.y) (column_is here) in
    let read : first_points (i + 1) l ≡ first_points i l ++ (q ∷ []) =
    first_points_next i l (omega (arith, more)) ∙ ap (λ (r : Point). first_points i l ++ (r ∷ [])) (sym c.point_at-p.ensures) in (
      omega (arith, more),
      rw (read, low_is, high_is) (columns_next c.loop-i.invariant.1 q (boxed here)),
      rw (read, column_is here) (seen_next c.loop-i.invariant.2 q (boxed here)),
    )
