-- The answer of the call as the numbers that C is given.
--
--   estimate_answer o == 0 and what the outcome o gives; or the number of the refusal, and 0 for everything else
use Rattle.std.specs.Prelude.{ℕ}
use Rattle.answers.specs.Outcome.{Outcome, given, refused}
use Rattle.c_estimate.specs.declared.EstimateAnswer.{EstimateAnswer}

abbrev pub estimate_answer : Outcome (ℕ × ℕ) → EstimateAnswer
estimate_answer (given p) = record { refusal = 0; bytes = p.0; tests = p.1 }
estimate_answer (refused n) = record { refusal = n; bytes = 0; tests = 0 }
