-- The chosen points in the list, and a disk that fits, by the tests and by what they say.
--
--   all_there, there_all  : the chosen points are in the list exactly where the test says so
--   some_fits, fits_some  : some disk holds the list with the chosen points on its boundary exactly where the procedure's disk passes the test
--   fits_same, smallest_same_set : such a disk, and the smallest, for the same points on the boundary
use mathlib.Core.Path.{◌≡◌}
use mathlib.Core.Bool.{true}
use mathlib.Core.List.{List}
use lib.IntN.{ℤ}
use Rattle.geometry.specs.declared.Point.{Point}
use Rattle.geometry.specs.Plane.{Disk}
use Rattle.geometry.specs.Points.{points}
use Rattle.point_lists.specs.Sets.{In, Same, has, all_of}
use Rattle.point_lists.proofs.Sets.{same_sym}
use Rattle.point_lists.proofs.SetTests.{has_in, in_has, all_in, in_all}
use Rattle.disks.specs.Smallest.{RationalDisk, Fits, SmallestWith}
use Rattle.disks.specs.Procedure.{mtf}
use Rattle.fitting.specs.Fitting.{fits}
use Rattle.fitting.proofs.Decided.{rational_by, some_passes}
use Rattle.chosen_points.specs.declared.Chosen.{Chosen}
use Rattle.chosen_points.specs.Chosen.{chosen, fixed}
use Rattle.chosen_points.proofs.Choice.{fixed_some, fixed_most, fixed_different, fixed_same}

pub fits_same : {k : RationalDisk} {P R S : List Point} → Same R S → Fits k P R → Fits k P S
fits_same s f = record { holds_all = f.holds_all; through_all = λ q i. f.through_all q (s.from q i) }

pub smallest_same_set : {P R S : List Point} {d : Disk} → Same R S → SmallestWith P R d → SmallestWith P S d
smallest_same_set s m = record {
  proper = m.proper;
  lowest = m.lowest;
  holds_all = m.holds_all;
  through_all = λ q i. m.through_all q (s.from q i);
  least = λ k f. m.least k (fits_same (same_sym s) f);
  only = λ k f. m.only k (fits_same (same_sym s) f);
}

module _ (l : List ℤ) (c : Chosen) where
  abbrev P : List Point
  P = points l

  pub all_there : ((p : Point) → In p (chosen c) → In p P) → all_of (has P) (chosen c) ≡ true
  all_there h = in_all (has P) (chosen c) (λ p i. in_has P p (h p i))

  pub there_all : all_of (has P) (chosen c) ≡ true → (p : Point) → In p (chosen c) → In p P
  there_all h p i = has_in P p (all_in (has P) (chosen c) h p i)

  pub some_fits : (k : RationalDisk) → Fits k P (chosen c) → fits (mtf (fixed c) P).cover P (fixed c) ≡ true
  some_fits k f = some_passes (fixed c) P (fixed_most c) (fixed_some c) (fixed_different c) k (fits_same (same_sym (fixed_same c)) f)

  pub fits_some : fits (mtf (fixed c) P).cover P (fixed c) ≡ true → (k : RationalDisk) × Fits k P (chosen c)
  fits_some h = let (k, f) = rational_by (mtf (fixed c) P).cover P (fixed c) h in (k, fits_same (fixed_same c) f)
