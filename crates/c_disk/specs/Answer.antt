-- The answer of the call as the numbers that C is given, S in two words.
--
--   disk_answer o == 0 and what the outcome o gives; or the number of the refusal, and 0 for everything else
use Rattle.answers.specs.Outcome.{Outcome, given, refused}
use Rattle.engine.specs.Engine.{Enclosure}
use Rattle.c_types.specs.Disks.{in_words, no_disk}
use Rattle.c_types.specs.Support.{no_support, support_of}
use Rattle.c_disk.specs.declared.DiskAnswer.{DiskAnswer}

abbrev pub disk_answer : Outcome Enclosure → DiskAnswer
disk_answer (given e) = record { refusal = 0; disk = in_words e.disk; support = support_of e.support; tests = e.tests }
disk_answer (refused n) = record { refusal = n; disk = no_disk; support = no_support; tests = 0 }
