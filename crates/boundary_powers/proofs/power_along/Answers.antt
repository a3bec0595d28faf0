-- `boundary_powers::power_along` meets its contract: nothing wraps.
use mathlib.Core.Path.{refl}
use lib.IntN.{pos, ◌-ℤ◌, ◌*ℤ◌}
use mir.Syntax.{w64}
use mir.Val.{to_z, of_z}
use Rattle.integers.proofs.Bounds.{Value, v_add, v_neg, v_mul, v_back, v_nat, v_lit, fits, reads_as}
use Rattle.geometry.proofs.Coordinates.{wide_value}
use Rattle.support_tests.proofs.Numbers.{stored_value}
use Rattle.boundary_powers.specs.Power.{power_along}
use Rattle.boundary_powers.proofs.power_along.Goals as goal
use Rattle.boundary_powers.proofs.power_along.Goals.{After-wide-w}

abbrev widened : (c : After-wide-w) → Value (to_z w64 (of_z w64 c.wide-w.result))
widened c = wide_value c.args.v c.ranges.v c.wide-w.ensures

abbrev scaled : (c : After-wide-w) → Value (to_z w64 (of_z w64 c.wide-w.result) *ℤ to_z w64 c.args.e)
scaled c = v_mul (widened c) (v_nat w64 c.args.e c.requires.e_most)

abbrev doubled : (c : After-wide-w) → Value (pos 2 *ℤ to_z w64 (of_z w64 c.args.c))
doubled c = v_mul (v_lit {n = 2} refl) (stored_value c.args.c c.requires.c_most)

abbrev difference : (c : After-wide-w)
    → Value (to_z w64 (of_z w64 (to_z w64 (of_z w64 c.wide-w.result) *ℤ to_z w64 c.args.e))
    -ℤ to_z w64 (of_z w64 (pos 2 *ℤ to_z w64 (of_z w64 c.args.c))))
difference c = v_add (v_back w64 (scaled c)) (v_neg (v_back w64 (doubled c)))

pub overflow_mul-result : goal.overflow_mul-result
overflow_mul-result c = fits (scaled c) tt

pub overflow_mul-result-2 : goal.overflow_mul-result-2
overflow_mul-result-2 c = fits (doubled c) tt

pub overflow_sub-result : goal.overflow_sub-result
overflow_sub-result c = fits (difference c) tt

pub overflow_mul-result-3 : goal.overflow_mul-result-3
overflow_mul-result-3 c = fits (v_mul (widened c) (v_back w64 (difference c))) tt

pub returns : goal.returns
unfolding power_along
returns c = reads_as (v_back w64 (v_mul (widened c) (v_back w64 (difference c)))) tt
