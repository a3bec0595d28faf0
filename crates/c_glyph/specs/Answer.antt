-- The answer of the call as the numbers that C is given.
--
--   glyph_answer o == 0 and what the outcome o gives; or the number of the refusal, and 0 for everything else
use Rattle.answers.specs.Outcome.{Outcome, given, refused}
use Rattle.directory.specs.declared.Place.{Place}
use Rattle.c_glyph.specs.declared.GlyphAnswer.{GlyphAnswer}

abbrev pub glyph_answer : Outcome Place → GlyphAnswer
glyph_answer (given p) = record { refusal = 0; start = p.start; len = p.len }
glyph_answer (refused n) = record { refusal = n; start = 0; len = 0 }
