-- The answer of the call as the numbers that C is given.
--
--   run_answer o == 0 and what the outcome o gives; or the number of the refusal, and 0 for everything else
use Rattle.std.specs.Prelude.{ℕ}
use Rattle.answers.specs.Outcome.{Outcome, given, refused}
use Rattle.c_run.specs.declared.RunAnswer.{RunAnswer}

abbrev pub run_answer : Outcome (ℕ × ℕ) → RunAnswer
run_answer (given p) = record { refusal = 0; worked = p.0; left = p.1 }
run_answer (refused n) = record { refusal = n; worked = 0; left = 0 }
