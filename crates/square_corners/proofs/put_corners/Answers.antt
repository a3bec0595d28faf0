-- `square_corners::put_corners` meets its contract: the coordinates of a square in the em box fit 16 bits, and its corners stand one behind another.
use mathlib.Core.Path.{◌≡◌, ap, ◌∙◌}
use Prim.Native.Nat.{ℕ, ◌+◌, ◌*◌}
use native.Mathlib.Omega.{arith}
use lib.IntN.{◌+ℤ◌, ◌-ℤ◌}
use mir.Syntax.{w16}
use mir.Val.{SFits, to_z, of_z}
use Rattle.integers.proofs.Bounds.{Value, v_back, fits, reads_as}
use Rattle.geometry.specs.Points.{first_points}
use Rattle.point_lists.specs.Put.{put_at}
use Rattle.tracings.specs.declared.TracedPoint.{TracedPoint}
use Rattle.tracings.specs.Squares.{corners}
use Rattle.square_corners.proofs.FourCorners.{four_put, minus_value, plus_value, low_corner, high_corner}
use Rattle.square_corners.proofs.put_corners.Goals as goal
use Rattle.square_corners.proofs.put_corners.Goals.{After-struct_told-3-1}

-- x and t, y and t as the machine has them, and the four coordinates
module _ (c : After-struct_told-3-1) where
  abbrev s : TracedPoint
  s = c.args.s

  x_fits : SFits w16 s.x
  x_fits = record { sfits = c.struct_told-1.given.0.1 }

  y_fits : SFits w16 s.y
  y_fits = record { sfits = c.struct_told-2-1.given.1.0.1 }

  t_fits : SFits w16 s.t
  t_fits = record { sfits = c.struct_told-3-1.given.1.1.0.1 }

  abbrev left : Value (to_z w16 (of_z w16 s.x) -ℤ to_z w16 (of_z w16 s.t))
  left = minus_value x_fits t_fits (low_corner s c.requires.boxed).0

  abbrev right : Value (to_z w16 (of_z w16 s.x) +ℤ to_z w16 (of_z w16 s.t))
  right = plus_value x_fits t_fits (high_corner s c.requires.boxed).0

  abbrev low : Value (to_z w16 (of_z w16 s.y) -ℤ to_z w16 (of_z w16 s.t))
  low = minus_value y_fits t_fits (low_corner s c.requires.boxed).1

  abbrev high : Value (to_z w16 (of_z w16 s.y) +ℤ to_z w16 (of_z w16 s.t))
  high = plus_value y_fits t_fits (high_corner s c.requires.boxed).1

pub overflow_sub-left : goal.overflow_sub-left
overflow_sub-left c = fits (left c) tt

pub overflow_add-right : goal.overflow_add-right
overflow_add-right c = fits (right c) tt

pub overflow_sub-low : goal.overflow_sub-low
overflow_sub-low c = fits (low c) tt

pub overflow_add-high : goal.overflow_add-high
overflow_add-high c = fits (high c) tt

pub returns : goal.returns
unfolding corners
returns c =
    let here = (goal.at.returns c).After-struct_told-3-1 in
    let i = c.args.i in
    let l₀ = c.args.room.now in
    let l₁ = c.put_point.new.list in
    let l₂ = c.put_point-2.new.list in
    let l₃ = c.put_point-3.new.list in
    let l₄ = c.put_point-4.new.list in
    let next : 4 * (i + 1) ≡ 4 * i + 4 = omega arith in
    let l = reads_as (v_back w16 (left here)) tt in
    let r = reads_as (v_back w16 (right here)) tt in
    let b = reads_as (v_back w16 (low here)) tt in
    let h = reads_as (v_back w16 (high here)) tt in
    ap (λ (n : ℕ). first_points n l₄) next
    ∙ four_put l₀ l₁ l₂ l₃ l₄ (4 * i) _ _ _ _ (omega (arith, c.requires.room))
    (c.put_point.ensures ∙ (λ z. put_at l₀ (4 * i) (record { x = l z; y = b z })))
    (c.put_point-2.ensures ∙ (λ z. put_at l₁ (4 * i + 1) (record { x = l z; y = h z })))
    (c.put_point-3.ensures ∙ (λ z. put_at l₂ (4 * i + 2) (record { x = r z; y = b z })))
    (c.put_point-4.ensures ∙ (λ z. put_at l₃ (4 * i + 3) (record { x = r z; y = h z })))
