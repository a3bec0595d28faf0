-- The answer of the call as the numbers that C is given, S in two words.
--
--   through_answer o == 0 and the disk that the outcome o gives; or the number of the refusal, and 0 for the disk's numbers
use Rattle.answers.specs.Outcome.{Outcome, given, refused}
use Rattle.geometry.specs.Plane.{Disk}
use Rattle.c_types.specs.Disks.{in_words, no_disk}
use Rattle.c_through.specs.declared.ThroughAnswer.{ThroughAnswer}

abbrev pub through_answer : Outcome Disk → ThroughAnswer
through_answer (given d) = record { refusal = 0; disk = in_words d }
through_answer (refused n) = record { refusal = n; disk = no_disk }
