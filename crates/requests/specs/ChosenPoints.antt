-- Document 02, item 6: the smallest disk with one or two chosen points on its boundary, over the definition that the contract of
-- `smallest_disk_through` of the crate `chosen_points` cites. The refusals are claimed with the other calls' too (claims/specs/Demand1.antt). That the list
-- is left unchanged is said by its type, `&[i16]`. Shown in proofs/ChosenPoints.antt.
--
--   Accepts l c    == the list l breaks no rule of the engine, and the chosen points are in it
--   ChosenPoints   == all that item 6 says
--
-- `SmallestWith P R d` (disks/specs/Smallest.antt): d holds P and has R on its boundary, no disk with a fractional centre and squared radius that
-- does is smaller, and only the same disk is as small; and d is written without a common divisor of X, Y and E. Nothing is asked of its centre
-- and its radius beyond that.
use Rattle.std.specs.Prelude.{◌≡◌, ◌↔◌, List, ◌≤◌, ℤ}
use Rattle.answers.specs.Outcome.{given, refused}
use Rattle.divisors.specs.Divisor.{Reduced}
use Rattle.geometry.specs.declared.Point.{Point}
use Rattle.geometry.specs.Plane.{Disk}
use Rattle.geometry.specs.Points.{points}
use Rattle.point_lists.specs.Sets.{In}
use Rattle.disks.specs.Smallest.{RationalDisk, Fits, SmallestWith}
use Rattle.chosen_points.specs.declared.Chosen.{Chosen}
use Rattle.chosen_points.specs.declared.Chosen.TheVariants.{One, Two}
use Rattle.chosen_points.specs.Chosen.{chosen, through_of}
use Rattle.rules.specs.Row.{AllKept}
use Rattle.rules.specs.Rules.{engine_row}

abbrev pub Accepts : List ℤ → Chosen → Type 0
Accepts l c = AllKept (engine_row l) × ((p : Point) → In p (chosen c) → In p (points l))

pub record ChosenPoints : Type 0 where
  -- "Give the smallest disk that holds the list and has the chosen corners on its rim (source 000, b_md). Smallest is over all disks with fractional
  -- centre and squared radius that meet both conditions, and only the same disk equals it": this disk is given, and no other
  pub smallest : (l : List ℤ) (c : Chosen) (d : Disk) → (through_of l c ≡ given d) ↔ (Accepts l c × SmallestWith (points l) (chosen c) d)
  -- "then 13 exactly if no such disk exists"
  pub none : (l : List ℤ) (c : Chosen) → (through_of l c ≡ refused 13) ↔ (Accepts l c × ((k : RationalDisk) → Fits k (points l) (chosen c) → ⊥))
  -- "Choosing one corner twice counts as choosing it once."
  pub twice : (l : List ℤ) (p : Point) → through_of l (Two p p) ≡ through_of l (One p)
  -- whichever is named first
  pub exchanged : (l : List ℤ) (p q : Point) → through_of l (Two p q) ≡ through_of l (Two q p)
  -- "X, Y and E obey the divisor rule", and E at most 8,388,608 (item 10)
  pub lowest : (l : List ℤ) (c : Chosen) (d : Disk) → through_of l c ≡ given d → Reduced d.x d.y d.e
  pub e_some : (l : List ℤ) (c : Chosen) (d : Disk) → through_of l c ≡ given d → 1 ≤ d.e
  pub e_most : (l : List ℤ) (c : Chosen) (d : Disk) → through_of l c ≡ given d → d.e ≤ 8388608
