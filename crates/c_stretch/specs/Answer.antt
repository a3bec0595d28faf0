-- The answer of the call as the numbers that C is given.
--
--   stretch_answer o == 0 and the stretch that the outcome o gives; or the number of the refusal, and 0 for everything else
use Rattle.answers.specs.Outcome.{Outcome, given, refused}
use Rattle.stretches.specs.declared.Stretch.{Stretch}
use Rattle.c_types.specs.Support.{origin}
use Rattle.c_stretch.specs.declared.StretchAnswer.{StretchAnswer}

abbrev pub stretch_answer : Outcome Stretch → StretchAnswer
stretch_answer (given s) = record { refusal = 0; a = s.a; b = s.b; w = s.w }
stretch_answer (refused n) = record { refusal = n; a = origin; b = origin; w = 0 }
