-- What the parts of the search ask and promise.
--
--   Fixes R             == R has a point, none twice, and all in the em box
--   Found R Q d         == d is the smallest disk that holds Q with R on its boundary, before it is written in lowest terms, and its numbers are small
--   NoneFits R Q        == no disk with a fractional centre and squared radius holds Q with R on its boundary
--   Decides R Q f       == f is such a disk d; or none, and none fits
--   Permuted l m        == the list m has the points of l, each as often
--   Held l d i j        == no point of l from place i on, before j, is outside d
--   FirstFrom l d i j r == r is the first place from i on, before j, at which the point of l is outside d; none if there is none
--   OutsideAt l d n r   == r is a place before n at which the point of l is outside d; none if there is none
use Rattle.std.specs.Prelude.{◌≡◌, true, false, ℕ, ◌≤◌, ◌<◌, ℤ, pos, length, Option, Some, None}
use mathlib.Core.List.{List, Permᴰ}
use Rattle.integers.specs.Order.{◌≺◌}
use Rattle.geometry.specs.declared.Point.{Point}
use Rattle.geometry.specs.Points.{points, point_at}
use Rattle.point_lists.specs.Sets.{Different}
use Rattle.disks.specs.Smallest.{RationalDisk, Fits, SmallestWith}
use Rattle.relative_disks.specs.declared.RelativeDisk.{RelativeDisk}
use Rattle.relative_disks.specs.Relative.{is_outside, Small, in_lowest_terms}
use Rattle.fixed_points.specs.declared.Boundary.{Boundary}
use Rattle.fixed_points.specs.Boundary.{members, Boxed}

pub record Fixes (R : Boundary) : Type 0 where
  pub some : 1 ≤ length (members R)
  pub different : Different (members R)
  pub boxed : Boxed (members R)

pub record Found (R Q : List Point) (d : RelativeDisk) : Type 0 where
  pub small : Small d
  pub proper : pos 0 ≺ d.e
  pub smallest : SmallestWith Q R (in_lowest_terms d)

abbrev pub NoneFits : List Point → List Point → Type 0
NoneFits R Q = (c : RationalDisk) → Fits c Q R → ⊥

abbrev pub Decides : List Point → List Point → Option RelativeDisk → Type 0
Decides R Q (Some d) = Found R Q d
Decides R Q None = NoneFits R Q

pub record Permuted (l m : List ℤ) : Type 0 where
  pub same_length : length m ≡ length l
  pub permuted : Permᴰ (points m) (points l)

abbrev pub Held : List ℤ → RelativeDisk → ℕ → ℕ → Type 0
Held l d from to = (i : ℕ) → from ≤ i → i < to → is_outside d (point_at l i) ≡ false

pub record FirstPlace (l : List ℤ) (d : RelativeDisk) (from to r : ℕ) : Type 0 where
  pub low : from ≤ r
  pub high : r < to
  pub held_before : Held l d from r
  pub outside_there : is_outside d (point_at l r) ≡ true

abbrev pub FirstFrom : List ℤ → RelativeDisk → ℕ → ℕ → Option ℕ → Type 0
FirstFrom l d from to (Some r) = FirstPlace l d from to r
FirstFrom l d from to None = Held l d from to

abbrev pub OutsideAt : List ℤ → RelativeDisk → ℕ → Option ℕ → Type 0
OutsideAt l d n (Some r) = (r < n) × (is_outside d (point_at l r) ≡ true)
OutsideAt l d n None = Held l d 0 n
