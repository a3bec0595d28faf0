-- `hull_chains::turns_left` meets its contract: nothing wraps, so the machine tests the number of `cross`.
use mathlib.Core.Path.{refl}
use lib.IntN.{◌-ℤ◌, ◌*ℤ◌}
use Rattle.integers.proofs.Bounds.{Value, v_add, v_neg, v_mul, v_back, v_lit, t_lt, fits, tests_as}
use Rattle.geometry.proofs.Coordinates.{minus_value}
use mir.Syntax.{w64}
use mir.Val.{to_z, of_z}
use Rattle.hull_chains.proofs.turns_left.Goals as goal
use Rattle.hull_chains.proofs.turns_left.Goals.{After-minus-2, After-minus-4}

abbrev first : (c : After-minus-2) → Value (to_z w64 (of_z w64 c.minus.result) *ℤ to_z w64 (of_z w64 c.minus-2.result))
first c =
    v_mul
    (minus_value c.args.b.x c.args.a.x (record { sfits = c.struct_told-1.given.0.1 })
    (record { sfits = c.struct_told-2-1.given.0.1 }) c.minus.ensures)
    (minus_value c.args.c.y c.args.a.y (record { sfits = c.struct_told-3-1.given.1.0.1 })
    (record { sfits = c.struct_told-4-1.given.1.0.1 }) c.minus-2.ensures)

abbrev second : (c : After-minus-4) → Value (to_z w64 (of_z w64 c.minus-3.result) *ℤ to_z w64 (of_z w64 c.minus-4.result))
second c =
    v_mul
    (minus_value c.args.b.y c.args.a.y (record { sfits = c.struct_told-5-1.given.1.0.1 })
    (record { sfits = c.struct_told-6-1.given.1.0.1 }) c.minus-3.ensures)
    (minus_value c.args.c.x c.args.a.x (record { sfits = c.struct_told-7-1.given.0.1 })
    (record { sfits = c.struct_told-8-1.given.0.1 }) c.minus-4.ensures)

abbrev product : (c : After-minus-4)
    → Value (to_z w64
    (of_z w64 (to_z w64 (of_z w64 c.minus.result) *ℤ to_z w64
    (of_z w64 c.minus-2.result)))
    -ℤ to_z w64 (of_z w64 (to_z w64 (of_z w64 c.minus-3.result) *ℤ to_z w64 (of_z w64 c.minus-4.result))))
product c = v_add (v_back w64 (first (goal.at.After-minus-4 c).After-minus-2)) (v_neg (v_back w64 (second c)))

pub overflow_mul-result : goal.overflow_mul-result
overflow_mul-result c = fits (first c) tt

pub overflow_mul-result-2 : goal.overflow_mul-result-2
overflow_mul-result-2 c = fits (second c) tt

pub overflow_sub-result : goal.overflow_sub-result
overflow_sub-result c = fits (product c) tt

pub returns : goal.returns
returns c = tests_as (t_lt (v_lit {n = 0} refl) (v_back w64 (product c))) tt
