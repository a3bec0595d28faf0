-- `whole_floats::is_finite` meets its contract: below the infinity lies every float but itself and a NaN.
use Rattle.std.proofs.Common.{◌≡◌, true, false, sym, refl, ◌∙◌, true≢false}
use lib.Ieee.{Float, nan, inf, fin, lt, of_bits, neg}
use Rattle.std.specs.Float.{float_is_finite}
use Rattle.whole_floats.proofs.is_finite.Goals as goal

under : (v : Float) → lt v (inf false) ≡ true → lt (inf true) v ≡ float_is_finite v
unfolding lt float_is_finite
under nan h = absurd (true≢false (sym h))
under (inf true) h = refl
under (inf false) h = absurd (true≢false (sym h))
under (fin s m e) h = refl

over : (v : Float) → lt v (inf false) ≡ false → false ≡ float_is_finite v
unfolding lt float_is_finite
over nan h = refl
over (inf s) h = refl
over (fin s m e) h = absurd (true≢false h)

pub returns-then-v : goal.returns-then-v
unfolding of_bits neg
returns-then-v c = under c.args.v c.if-v.true

pub returns-else-v : goal.returns-else-v
unfolding of_bits
returns-else-v c = c.if-v.false ∙ over c.args.v c.if-v.false
