-- The checks of a disk and its points, which reader, writer, whole radius and preview make before they answer (01: refusal 7; 02, item 9: "15 when it fails,
-- after 7").
--
--   check_in l d ps == the refusal due first: 7 where no valid record by the limits l holds d and ps, 15 where ps do not belong to d; or that both are kept
--   check_of d ps   == the same by the limits of the em
use Rattle.std.specs.Prelude.{not, List}
use Rattle.answers.specs.Outcome.{Outcome, given, refuse_if}
use Rattle.geometry.specs.declared.Point.{Point}
use Rattle.geometry.specs.Plane.{Disk}
use Rattle.geometry.specs.declared.Limits.{Limits}
use Rattle.geometry.specs.EmBox.{em}
use Rattle.validity.specs.Valid.{valid_in}
use Rattle.belonging.specs.Belonging.{belongs}

abbrev pub check_in : Limits → Disk → List Point → Outcome (Unit {0})
check_in l d ps = refuse_if (not (valid_in l d ps)) 7 (refuse_if (not (belongs d ps)) 15 (given tt))

abbrev pub check_of : Disk → List Point → Outcome (Unit {0})
check_of d ps = check_in em d ps
