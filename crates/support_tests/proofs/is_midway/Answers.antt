-- `support_tests::is_midway` meets its contract: nothing wraps, so the machine compares the two numbers of `midway`.
use mathlib.Core.Path.{refl}
use lib.IntN.{pos, ◌+ℤ◌, ◌*ℤ◌}
use mir.Syntax.{w64}
use mir.Val.{to_z, of_z}
use Rattle.integers.proofs.Bounds.{Value, v_add, v_mul, v_back, v_lit, v_nat, fits, eq_test}
use Rattle.support_tests.specs.Tests.{midway}
use Rattle.geometry.proofs.Coordinates.{wide_value}
use Rattle.support_tests.proofs.Numbers.{stored_value}
use Rattle.support_tests.proofs.is_midway.Goals as goal
use Rattle.support_tests.proofs.is_midway.Goals.{After-wide-2}

abbrev sum : (c : After-wide-2) → Value (to_z w64 (of_z w64 c.wide.result) +ℤ to_z w64 (of_z w64 c.wide-2.result))
sum c =
    v_add (wide_value c.args.a c.ranges.a c.wide.ensures) (wide_value c.args.b c.ranges.b c.wide-2.ensures)

abbrev scaled : (c : After-wide-2)
    → Value (to_z w64 (of_z w64 (to_z w64 (of_z w64 c.wide.result) +ℤ to_z w64 (of_z w64 c.wide-2.result))) *ℤ to_z w64 c.args.e)
scaled c = v_mul (v_back w64 (sum c)) (v_nat w64 c.args.e c.requires.e_most)

abbrev twice : (c : After-wide-2) → Value (pos 2 *ℤ to_z w64 (of_z w64 c.args.c))
twice c = v_mul (v_lit {n = 2} refl) (stored_value c.args.c c.requires.c_most)

pub overflow_add-result : goal.overflow_add-result
overflow_add-result c = fits (sum c) tt

pub overflow_mul-result : goal.overflow_mul-result
overflow_mul-result c = fits (scaled c) tt

pub overflow_mul-result-2 : goal.overflow_mul-result-2
overflow_mul-result-2 c = fits (twice c) tt

pub returns : goal.returns
unfolding midway
returns c = eq_test w64 (scaled c) (twice c) tt
