-- Document 02, item 8: outlines stripped to what sticks out, over the definitions that the contract of `reduce_to_hull` of the crate `hull_points` cites.
-- "Refusals are the engine's.", and that a refused list is left as it was, is claimed with the other calls' (claims/specs/Demand1.antt, by `engine_row`).
-- Shown in proofs/HullPoints.antt.
--
--   kept_of l n         == the first n points of the list l as the call leaves it: the kept points, as numbers
--   SticksOut P p      == p is a point of P that is no mean of other points of P
--   SameAnswers l k    == the answers for the list k are those for the list l, but for the test count, which is k's own
--   HullPoints         == all that item 8 says
--
-- `Mean H p` (hull/specs/Means.antt): p is a weighted mean of points of H.
-- `IsHull P H` (hull/specs/Hull.antt): H are the corners of the convex hull of P, each next turning strictly left, with every point of P on the left of each
-- side or on it; in rising order the first comes before every other point of P. A row has its two ends, a lone point itself.
use Rattle.std.specs.Prelude.{◌≡◌, ◌↔◌, List, [], ◌∷◌, ◌++◌, ℕ, ◌*◌, ◌-◌, ◌≤◌, ℤ, pos, length, take, replicate}
use Rattle.answers.specs.Outcome.{given}
use Rattle.geometry.specs.declared.Point.{Point}
use Rattle.geometry.specs.Points.{points, flat}
use Rattle.point_lists.specs.Sets.{In}
use Rattle.disks.specs.Procedure.{tests_of}
use Rattle.engine.specs.Engine.{Enclosure, enclose_of}
use Rattle.hull.specs.Hull.{cross, Row, IsHull}
use Rattle.hull.specs.Means.{Mean}
use Rattle.hull_points.specs.Reducing.{reduce_of, list_after}
use Rattle.rules.specs.Row.{AllKept}
use Rattle.rules.specs.Rules.{engine_row}
use Rattle.claims.specs.Demand3.{answers_for}

abbrev pub kept_of : List ℤ → ℕ → List ℤ
kept_of l n = take (2 * n) (list_after l)

abbrev pub SticksOut : List Point → Point → Type 0
SticksOut P p = In p P × ((K : List Point) → ((q : Point) → In q K → In q P) → (In p K → ⊥) → Mean K p → ⊥)

pub record SameAnswers (l k : List ℤ) : Type 0 where
  pub full : Enclosure
  pub kept : Enclosure
  pub full_is : enclose_of l ≡ given full
  pub kept_is : enclose_of k ≡ given kept
  -- "The disk, first rim set .. of the kept corners are those of the full list"
  pub disk : kept.disk ≡ full.disk
  pub support : kept.support ≡ full.support
  -- ".. record and cutting radius ..", and the preview, whichever buffer is lent
  pub answers : (b : List ℕ) → answers_for kept b ≡ answers_for full b
  -- "the test count is that of the kept list"
  pub tests : kept.tests ≡ tests_of (points k)

pub record HullPoints : Type 0 where
  -- every list of points has corners of its convex hull, and only one list is them
  pub one_hull : (P : List Point) → (H : List Point) × (IsHull P H × ((K : List Point) → IsHull P K → K ≡ H))
  -- "Reduce a corner list to the corners of its convex hull, no three in a row, counterclockwise from the least corner by x then y. They go to the front of
  -- the list, the rest of the list becomes zeros, and the number kept is returned."
  pub reduced :
      (l : List ℤ) → AllKept (engine_row l) → (H : List Point) → IsHull (points l) H
      → (reduce_of l ≡ given (length H)) × (2 * length H ≤ length l) × (list_after l ≡ flat H ++ replicate (length l - 2 * length H) (pos 0))
  -- "no three in a row", and not only of three that follow one another
  pub no_row :
      (P H : List Point) → IsHull P H → (a b c : Point) → In a H → In b H → In c H
      → (a ≡ b → ⊥) → (b ≡ c → ⊥) → (a ≡ c → ⊥) → cross a b c ≡ pos 0 → ⊥
  -- "A row keeps its two ends, a lone corner itself."
  pub row : (P : List Point) (a b : Point) → In a P → In b P → Row P a b → IsHull P (a ∷ b ∷ [])
  pub lone : (P : List Point) (a : Point) → In a P → ((p : Point) → In p P → p ≡ a) → IsHull P (a ∷ [])
  -- "Outlines stripped to what sticks out.": the corners are the points that do; and no point of the list lies outside the hull, each is a mean of corners
  pub corners : (P H : List Point) → IsHull P H → (p : Point) → In p H ↔ SticksOut P p
  pub inside : (P H : List Point) → IsHull P H → (p : Point) → In p P → Mean H p
  -- "The disk, first rim set, record and cutting radius of the kept corners are those of the full list; the test count is that of the kept list."
  pub same : (l : List ℤ) (n : ℕ) → reduce_of l ≡ given n → SameAnswers l (kept_of l n)
