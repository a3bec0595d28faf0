-- B_MTFDISK in document 01's own words, as a relation: no formula for a disk, and no order of work but the text's (000, B_MTFDISK; 01,
-- "Welzl's procedure and the count"). Procedure.antt has the same procedure as a function.
--
--   SmallestThrough R c == c is "the smallest disk with R on its rim" (000: b_md(∅, R)), smallest as everywhere (Smallest.antt); the empty
--                          disk for R empty
--   Runs R P s          == the procedure on the list P with the set R fixed on the boundary ends in s: its disk, its tests, the list left
--   ByText              == `mtf` of Procedure.antt is the procedure so said; shown in proofs/ByText.antt
--
-- R is a set: its points are written newest first, and no point comes into it twice, since a point of R is never outside.
use Rattle.std.specs.Prelude.{◌≡◌, ◌⊎◌, true, false, List, [], ◌∷◌, ◌++◌, ◌+◌, ◌≤◌, ◌<◌, length}
use Rattle.geometry.specs.declared.Point.{Point}
use Rattle.geometry.specs.Plane.{Disk}
use Rattle.point_lists.specs.Sets.{Different}
use Rattle.disks.specs.Smallest.{RationalDisk, Fits, SmallestWith}
use Rattle.disks.specs.Procedure.{Cover, empty, disk, outside, State, mtf}

pub data SmallestThrough : List Point → Cover → Type 0 where
  -- "The result of the empty list with empty R is the empty disk, and p is always outside it" (`outside`)
  none : SmallestThrough [] empty
  -- "the smallest disk with R on its rim"
  some : {R : List Point} {d : Disk} → 1 ≤ length R → SmallestWith [] R d → SmallestThrough R (disk d)

pub data Runs : List Point → List Point → State → Type 0 where
  -- "P empty or R of three: the smallest disk with R on its rim."
  at_once :
      {R P : List Point} {c : Cover} → (P ≡ []) ⊎ (length R ≡ 3) → SmallestThrough R c
      → Runs R P (record { cover = c; tests = 0; left = P })
  -- "Otherwise, with p the last of P: do P without p; test p against the result"; "Each test of a p counts one"; p is not outside
  stays :
      {R P : List Point} {s : State} (p : Point) → length R < 3 → Runs R P s → outside s.cover p ≡ false
      → Runs R (P ++ (p ∷ [])) (record { cover = s.cover; tests = s.tests + 1; left = s.left ++ (p ∷ []) })
  -- "if p is outside, do P without p again, as it now stands, with p added to R, then move p to the front of the list"; "The move shifts the
  -- corners before p back by one place"
  moves :
      {R P : List Point} {s again : State} (p : Point) → length R < 3 → Runs R P s → outside s.cover p ≡ true
      → Runs (p ∷ R) s.left again
      → Runs R (P ++ (p ∷ [])) (record { cover = again.cover; tests = s.tests + 1 + again.tests; left = p ∷ again.left })

pub record ByText : Type 0 where
  -- from no point fixed, on every list
  pub runs : (P : List Point) → Runs [] P (mtf [] P)
  -- with R fixed, wherever some disk with R on its boundary holds P: so each set that such a run comes to has a smallest disk through it
  pub runs_with : (R P : List Point) → length R ≤ 3 → Different R → (c : RationalDisk) → Fits c P R → Runs R P (mtf R P)
  -- the text leads to one state at most
  pub one_result : (R P : List Point) (s t : State) → Runs R P s → Runs R P t → s ≡ t
  -- on every list, whether any disk holds it or not: where the text leads to a state, that is the function's
  pub complete : (R P : List Point) (s : State) → length R ≤ 3 → Different R → Runs R P s → s ≡ mtf R P
