-- The smallest disk that holds P and has R on its boundary (02, item 6; 000: b_md(P, R)): the procedure's, if it fits.
--
--   is_on d p         == p is on d's boundary, as a test
--   fits c P R       == c is a disk that holds every point of P and has every point of R on its boundary, as a test
--   fitting_disk P R  == the disk on which Welzl's procedure ends on P with R fixed, if it fits; 13 if it does not
--
-- That no other disk fits where this one does not, and that it is the smallest where it does, is shown in proofs/Decided.antt, for R of one to three
-- different points; what document 02 says of it is claimed in requests/specs/ChosenPoints.antt.
use Rattle.std.specs.Prelude.{Bool, false, not, ◌&&◌, List, ltb, pos}
use Rattle.answers.specs.Outcome.{Outcome, given, refuse_if}
use Rattle.integers.specs.Order.{eq_z}
use Rattle.geometry.specs.declared.Point.{Point}
use Rattle.geometry.specs.Plane.{Disk, distance, holds}
use Rattle.point_lists.specs.Sets.{all_of}
use Rattle.disks.specs.Procedure.{Cover, empty, disk, mtf, disk_in}

unfoldable pub is_on : Disk → Point → Bool
is_on d p = eq_z (distance d p) (pos d.s)

unfoldable pub fits : Cover → List Point → List Point → Bool
fits empty P R = false
fits (disk d) P R = ltb 0 d.e && (all_of (holds d) P && all_of (is_on d) R)

unfoldable pub fitting_disk : List Point → List Point → Outcome Disk
fitting_disk P R =
    let c = (mtf R P).cover in
    refuse_if (not (fits c P R)) 13 (given (disk_in c))
