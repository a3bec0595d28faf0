-- The procedure ends on the smallest disk from a set that is already fixed (specs/FromFixed.antt).
use Rattle.disks.specs.Procedure.{mtf, disk_in}
use Rattle.disks.proofs.Welzl.{mtf-disk, mtf_smallest}
use Rattle.claims.specs.FromFixed.{FromFixed}

pub from-fixed : FromFixed
from-fixed R P most different some c fits = record {
  found = disk_in (mtf R P).cover;
  ends_on = mtf-disk R P most different some c fits;
  smallest = mtf_smallest R P most different some c fits;
}
