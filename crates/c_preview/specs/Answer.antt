-- The answer of the call as the numbers that C is given.
--
--   preview_answer o == 0 and what the outcome o gives; or the number of the refusal, and 0 for everything else
use Rattle.std.specs.Prelude.{Float}
use Rattle.std.specs.Float.{binary64}
use Rattle.std.specs.Float.Ieee.{of_bits}
use Rattle.answers.specs.Outcome.{Outcome, given, refused}
use Rattle.preview.specs.declared.Preview.{Preview}
use Rattle.c_preview.specs.declared.PreviewAnswer.{PreviewAnswer}

-- the float 0, whose bits are all 0
abbrev pub nought : Float
nought = of_bits binary64 0

abbrev pub preview_answer : Outcome Preview → PreviewAnswer
preview_answer (given p) = record { refusal = 0; x = p.x; y = p.y; radius = p.radius }
preview_answer (refused n) = record { refusal = n; x = nought; y = nought; radius = nought }
