-- `farthest_points::squared_distance` meets its contract: nothing wraps, and a sum of squares can be cast.
use mathlib.Core.Path.{sym, ap, subst}
use native.Mathlib.Omega.{arith}
use lib.Dec.{T}
use lib.IntN.{ℤ, pos, nat_abs, ◌+ℤ◌, ◌-ℤ◌, ◌*ℤ◌}
use lib.Signed.{non_neg, yes_non_neg, nat_abs-le}
use mir.Syntax.{w16, w32}
use mir.Val.{Fits, SFits, to_z, of_z}
use Rattle.integers.specs.Order.{◌≼◌, Within}
use Rattle.integers.proofs.Bounds.{Value, v_leaf, v_neg, v_add, v_mul, v_back, fits, reads_as}
use Rattle.integers.proofs.Order.{sq, ◌⊞◌}
use Rattle.geometry.specs.declared.Point.{Point}
use Rattle.geometry.specs.EmBox.{em, largest, Inside}
use Rattle.geometry.proofs.EmBox.{inside_test, point_size}
use Rattle.farthest_points.proofs.squared_distance.Goals as goal

x_small : (p : Point) → Inside em p → Within (largest em) p.x
x_small p h = record { within = (point_size em p (inside_test em p h)).0 }

y_small : (p : Point) → Inside em p → Within (largest em) p.y
y_small p h = record { within = (point_size em p (inside_test em p h)).1 }

-- a difference as the machine has it, in 16 bits and then in 32
abbrev read : ℤ → ℤ → ℤ
read b a = to_z w16 (of_z w16 b) -ℤ to_z w16 (of_z w16 a)

abbrev wide : ℤ → ℤ → ℤ
wide b a = to_z w32 (of_z w32 (to_z w16 (of_z w16 (read b a))))

abbrev difference : (b a : ℤ) → Within (largest em) b → Within (largest em) a → Value (read b a)
difference b a h k = v_add (v_leaf w16 h) (v_neg (v_leaf w16 k))

abbrev widened : (b a : ℤ) → Within (largest em) b → Within (largest em) a → Value (wide b a)
widened b a h k = v_back w32 (v_back w16 (difference b a h k))

module _ (p q : Point) (h : Inside em p) (k : Inside em q) where
  abbrev along_x : Value (wide q.x p.x)
  along_x = widened q.x p.x (x_small q k) (x_small p h)

  abbrev along_y : Value (wide q.y p.y)
  along_y = widened q.y p.y (y_small q k) (y_small p h)

  abbrev sum : ℤ
  sum = to_z w32 (of_z w32 (wide q.x p.x *ℤ wide q.x p.x)) +ℤ to_z w32 (of_z w32 (wide q.y p.y *ℤ wide q.y p.y))

  abbrev squares : Value sum
  squares = v_add (v_back w32 (v_mul along_x along_x)) (v_back w32 (v_mul along_y along_y))

-- what a cast to a u32 asks
abbrev Castable : ℤ → Type 0
Castable z = T (non_neg z) × Fits w32 (nat_abs z)

castable : (z : ℤ) → pos 0 ≼ z → SFits w32 z → Castable z
castable z h f = (yes_non_neg h, record { fits = omega (arith, nat_abs-le z f.sfits) })

pub overflow_mul-result : goal.overflow_mul-result
overflow_mul-result c =
    let v = along_x c.args.p c.args.q c.requires.0 c.requires.1 in
    fits (v_mul v v) tt

pub overflow_mul-result-2 : goal.overflow_mul-result-2
overflow_mul-result-2 c =
    let v = along_y c.args.p c.args.q c.requires.0 c.requires.1 in
    fits (v_mul v v) tt

pub overflow_add-result : goal.overflow_add-result
overflow_add-result c = fits (squares c.args.p c.args.q c.requires.0 c.requires.1) tt

pub overflow_cast-result : goal.overflow_cast-result
overflow_cast-result c =
    let v = v_back w32 (squares c.args.p c.args.q c.requires.0 c.requires.1) in
    let x = c.args.q.x -ℤ c.args.p.x in
    let y = c.args.q.y -ℤ c.args.p.y in
    let is = reads_as v tt in
    subst Castable (sym is) (castable (x *ℤ x +ℤ y *ℤ y) (sq x ⊞ sq y) (subst (SFits w32) is (fits v tt)))

pub returns : goal.returns
returns c =
    ap nat_abs (reads_as (v_back w32 (squares c.args.p c.args.q c.requires.0 c.requires.1)) tt)
