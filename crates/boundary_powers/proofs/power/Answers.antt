-- `boundary_powers::power` meets its contract: the two parts are small enough for their sum.
use mathlib.Core.Path.{◌≡◌, refl}
use Prim.Native.Nat.{ℕ}
use lib.IntN.{ℤ, pos, ◌+ℤ◌}
use mir.Syntax.{w16, w64}
use mir.Val.{SFits, to_z, of_z}
use Rattle.integers.proofs.Bounds.{Value, v_add, v_neg, v_mul, v_back, v_abs, v_lit, v_fits, v_eq, fits, reads_as}
use Rattle.support_tests.proofs.Numbers.{stored_value}
use Rattle.support_tests.specs.Tests.{SmallPair}
use Rattle.boundary_powers.specs.Power.{power_along}
use Rattle.boundary_powers.proofs.power.Goals as goal
use Rattle.boundary_powers.proofs.power.Goals.{After-power_along-b}

-- what `power_along` gives, with its bound
abbrev along : (v : ℤ) (e : ℕ) (c : ℤ) {r : ℤ} → SFits w16 v → SmallPair e c
    → r ≡ power_along (to_z w16 (of_z w16 v)) e (to_z w64 (of_z w64 c)) → Value (to_z w64 (of_z w64 r))
unfolding power_along
along v e c f h q =
    v_back w64
    (v_eq q
    (v_mul (v_fits f) (v_add (v_mul (v_fits f) (v_abs {z = pos e} h.e_most)) (v_neg (v_mul (v_lit {n = 2} refl) (stored_value c h.c_most))))))

abbrev both : (c : After-power_along-b)
    → Value (to_z w64 (of_z w64 c.power_along-a.result) +ℤ to_z w64 (of_z w64 c.power_along-b.result))
both c =
    let p = c.args.p in
    let d = c.args.disk in
    v_add
    (along p.x d.e d.x (record { sfits = c.struct_told-1.given.0.1 }) c.requires.0 c.power_along-a.ensures)
    (along p.y d.e d.y (record { sfits = c.struct_told-3-1.given.1.0.1 }) c.requires.1 c.power_along-b.ensures)

pub overflow_add-result : goal.overflow_add-result
unfolding power_along
overflow_add-result c = fits (both c) tt

pub returns : goal.returns
unfolding power_along
returns c = reads_as (v_back w64 (both c)) tt
