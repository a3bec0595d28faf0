-- The whole number that a float stands for (02, item 2: "A float is taken only when it stands for a whole number exactly; minus zero is 0").
--
--   StandsFor v z   == v is finite, and its value is z exactly
--   whole_of v       == the whole number that v stands for; or 11 for a NaN, an infinity or a float with a fraction
--
-- Floats are the library's account of IEEE 754: `fin s m e` is m·2^e, negative where s is true, and 2^e is the fraction up e / down e.
-- proofs/WholeLaws: `whole_of v` gives z exactly where v stands for z.
use Rattle.std.specs.Prelude.{◌≡◌, ◌*◌, ◌/◌, ◌%◌, not, ℤ, pos, ◌*ℤ◌, ◌==◌, Float}
use Rattle.std.specs.Float.{nan, inf, fin}
use Rattle.std.specs.Float.Ieee.{up, down}
use Rattle.answers.specs.Outcome.{Outcome, given, refused, refuse_if}
use Rattle.integers.specs.Order.{signed}

abbrev pub StandsFor : Float → ℤ → Type 0
StandsFor nan z = ⊥
StandsFor (inf s) z = ⊥
StandsFor (fin s m e) z = signed s (m * up e) ≡ z *ℤ pos (down e)

unfoldable pub whole_of : Float → Outcome ℤ
whole_of nan = refused 11
whole_of (inf s) = refused 11
whole_of (fin s m e) = refuse_if (not (m * up e % down e == 0)) 11 (given (signed s (m * up e / down e)))
