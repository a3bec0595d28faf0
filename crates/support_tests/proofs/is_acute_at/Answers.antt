-- `support_tests::is_acute_at` meets its contract: nothing wraps, so the machine tests the number of `acute_at`.
use lib.IntN.{◌+ℤ◌, ◌*ℤ◌}
use mathlib.Core.Path.{refl}
use lib.Signed.{lt_z}
use mir.Syntax.{w64}
use mir.Val.{to_z, of_z}
use Rattle.integers.proofs.Bounds.{Value, v_add, v_mul, v_back, v_lit, fits, ap_values}
use Rattle.geometry.proofs.Coordinates.{minus_value}
use Rattle.support_tests.specs.Tests.{acute_at}
use Rattle.support_tests.proofs.is_acute_at.Goals as goal
use Rattle.support_tests.proofs.is_acute_at.Goals.{After-minus-2, After-minus-4}

abbrev first : (c : After-minus-2) → Value (to_z w64 (of_z w64 c.minus.result) *ℤ to_z w64 (of_z w64 c.minus-2.result))
first c =
    v_mul
    (minus_value c.args.b.x c.args.a.x (record { sfits = c.struct_told-1.given.0.1 })
    (record { sfits = c.struct_told-2-1.given.0.1 }) c.minus.ensures)
    (minus_value c.args.c.x c.args.a.x (record { sfits = c.struct_told-3-1.given.0.1 })
    (record { sfits = c.struct_told-4-1.given.0.1 }) c.minus-2.ensures)

abbrev second : (c : After-minus-4) → Value (to_z w64 (of_z w64 c.minus-3.result) *ℤ to_z w64 (of_z w64 c.minus-4.result))
second c =
    v_mul
    (minus_value c.args.b.y c.args.a.y (record { sfits = c.struct_told-5-1.given.1.0.1 })
    (record { sfits = c.struct_told-6-1.given.1.0.1 }) c.minus-3.ensures)
    (minus_value c.args.c.y c.args.a.y (record { sfits = c.struct_told-7-1.given.1.0.1 })
    (record { sfits = c.struct_told-8-1.given.1.0.1 }) c.minus-4.ensures)

abbrev product : (c : After-minus-4)
    → Value (to_z w64 (of_z w64 (to_z w64 (of_z w64 c.minus.result) *ℤ to_z w64 (of_z w64 c.minus-2.result)))
    +ℤ to_z w64 (of_z w64 (to_z w64 (of_z w64 c.minus-3.result) *ℤ to_z w64 (of_z w64 c.minus-4.result))))
product c = v_add (v_back w64 (first (goal.at.After-minus-4 c).After-minus-2)) (v_back w64 (second c))

pub overflow_mul-result : goal.overflow_mul-result
overflow_mul-result c = fits (first c) tt

pub overflow_mul-result-2 : goal.overflow_mul-result-2
overflow_mul-result-2 c = fits (second c) tt

pub overflow_add-result : goal.overflow_add-result
overflow_add-result c = fits (product c) tt

pub returns : goal.returns
unfolding acute_at
returns c = ap_values lt_z (v_lit {n = 0} refl) (v_back w64 (product c)) tt
