-- `divisors::lowest_terms` meets its contract: it divides by `common`, which is from 1 to e.
use Rattle.std.proofs.Common.{ℕ, ◌<◌, ◌^◌, ◌≡◌, ℤ, sym, subst, ap₂, ◌∙◌}
use native.Mathlib.Nat.{lt_of_le_of_lt}
use mir.Val.{SFits, to_z, of_z}
use mir.Syntax.{w64}
use mir.Facts.{to_z-of_z}
use Rattle.divisors.specs.Divisor.{common}
use Rattle.divisors.proofs.LowestTerms.{common-pos, common_le}
use Rattle.divisors.proofs.lowest_terms.Goals as goal

-- what `common_divisor` gives, with its arguments read back
is_common : {x y : ℤ} {g : ℕ} (e : ℕ) → SFits w64 x → SFits w64 y → g ≡ common (to_z w64 (of_z w64 x)) (to_z w64 (of_z w64 y)) e → g ≡ common x y e
is_common e fx fy h = h ∙ ap₂ (λ (x y : ℤ). common x y e) (to_z-of_z fx) (to_z-of_z fy)

positive : {g : ℕ} (x y : ℤ) (e : ℕ) → g ≡ common x y e → 0 < e → 0 < g
positive x y e h p = subst (λ (n : ℕ). 0 < n) (sym h) (common-pos x y e p)

small : {g : ℕ} (x y : ℤ) (e : ℕ) → g ≡ common x y e → 0 < e → e < 2 ^ 63 → g < 2 ^ 63
small x y e h p below = subst (λ (n : ℕ). n < 2 ^ 63) (sym h) (lt_of_le_of_lt (common_le x y e p) below)

pub nonzero_div-lowest_e : goal.nonzero_div-lowest_e
nonzero_div-lowest_e c = positive c.args.x c.args.y c.args.e (is_common c.args.e c.ranges.x c.ranges.y c.common_divisor-g.ensures) c.requires.e_nonzero

pub divided-requires-clause-g_nonzero : goal.divided-requires-clause-g_nonzero
divided-requires-clause-g_nonzero c =
    positive c.args.x c.args.y c.args.e (is_common c.args.e c.ranges.x c.ranges.y c.common_divisor-g.ensures) c.requires.e_nonzero

pub divided-requires-clause-g_bound : goal.divided-requires-clause-g_bound
divided-requires-clause-g_bound c =
    small c.args.x c.args.y c.args.e (is_common c.args.e c.ranges.x c.ranges.y c.common_divisor-g.ensures) c.requires.e_nonzero c.requires.e_bound

pub divided-requires-2-clause-g_nonzero : goal.divided-requires-2-clause-g_nonzero
divided-requires-2-clause-g_nonzero c =
    positive c.args.x c.args.y c.args.e (is_common c.args.e c.ranges.x c.ranges.y c.common_divisor-g.ensures) c.requires.e_nonzero

pub divided-requires-2-clause-g_bound : goal.divided-requires-2-clause-g_bound
divided-requires-2-clause-g_bound c =
    small c.args.x c.args.y c.args.e (is_common c.args.e c.ranges.x c.ranges.y c.common_divisor-g.ensures) c.requires.e_nonzero c.requires.e_bound
