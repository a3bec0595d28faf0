-- The answer of the call as the numbers that C is given.
--
--   load_answer o == 0 and what the outcome o gives; or the number of the refusal, and 0 for everything else
use Rattle.std.specs.Prelude.{ℕ}
use Rattle.answers.specs.Outcome.{Outcome, given, refused}
use Rattle.c_load.specs.declared.LoadAnswer.{LoadAnswer}

abbrev pub load_answer : Outcome ℕ → LoadAnswer
load_answer (given n) = record { refusal = 0; count = n }
load_answer (refused k) = record { refusal = k; count = 0 }
