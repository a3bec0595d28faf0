-- The answer of the call as the numbers that C is given.
--
--   radius_answer o == 0 and what the outcome o gives; or the number of the refusal, and 0 for everything else
use Rattle.std.specs.Prelude.{ℕ}
use Rattle.answers.specs.Outcome.{Outcome, given, refused}
use Rattle.c_radius.specs.declared.RadiusAnswer.{RadiusAnswer}

abbrev pub radius_answer : Outcome ℕ → RadiusAnswer
radius_answer (given r) = record { refusal = 0; radius = r }
radius_answer (refused n) = record { refusal = n; radius = 0 }
