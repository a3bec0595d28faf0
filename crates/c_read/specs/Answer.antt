-- The answer of the call as the numbers that C is given, S in two words.
--
--   record_answer o == 0 and what the outcome o gives; or the number of the refusal, and 0 for everything else
use Rattle.std.specs.Prelude.{List}
use Rattle.answers.specs.Outcome.{Outcome, given, refused}
use Rattle.geometry.specs.declared.Point.{Point}
use Rattle.geometry.specs.Plane.{Disk}
use Rattle.c_types.specs.Disks.{in_words, no_disk}
use Rattle.c_types.specs.Support.{no_support, support_of}
use Rattle.c_read.specs.declared.RecordAnswer.{RecordAnswer}

abbrev pub record_answer : Outcome (Disk × List Point) → RecordAnswer
record_answer (given dp) = record { refusal = 0; disk = in_words dp.0; support = support_of dp.1 }
record_answer (refused n) = record { refusal = n; disk = no_disk; support = no_support }
