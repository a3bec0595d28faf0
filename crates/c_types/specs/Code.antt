-- An answer as one number.
--
--   code_of o == 0, or the number of the refusal
use Rattle.std.specs.Prelude.{ℕ}
use Rattle.answers.specs.Outcome.{Outcome, given, refused}

abbrev pub code_of : {A : Type 0} → Outcome A → ℕ
code_of (given a) = 0
code_of (refused n) = n
