-- The smallest disk with one or two chosen points on its boundary (02, item 6: a registration corner on the rim).
--
--   chosen c       == the points that were chosen
--   fixed c        == the same, and one that was chosen twice stands there once
--   through_of l c  == the answer due for the point list l and the choice c: the engine's own refusals of l, then 12 if a chosen point is not
--                     in it, then 13 if no disk fits; else the smallest that does
use Rattle.std.specs.Prelude.{Bool, true, false, not, List, [], ◌∷◌, ℤ}
use Rattle.answers.specs.Outcome.{Outcome, refuse_if, and_then}
use Rattle.geometry.specs.declared.Point.{Point}
use Rattle.geometry.specs.Plane.{Disk}
use Rattle.geometry.specs.Points.{points}
use Rattle.point_lists.specs.Sets.{same, has, all_of}
use Rattle.engine.specs.Engine.{enclose_of}
use Rattle.fitting.specs.Fitting.{fitting_disk}
use Rattle.chosen_points.specs.declared.Chosen.{Chosen}
use Rattle.chosen_points.specs.declared.Chosen.TheVariants.{One, Two}

abbrev pub chosen : Chosen → List Point
chosen (One p) = p ∷ []
chosen (Two p q) = p ∷ q ∷ []

-- "Choosing one corner twice counts as choosing it once"
abbrev pub once : Bool → Point → Point → List Point
once true p q = p ∷ []
once false p q = p ∷ q ∷ []

abbrev pub fixed : Chosen → List Point
fixed (One p) = p ∷ []
fixed (Two p q) = once (same p q) p q

-- "the engine's own on the list, then 12 if a chosen corner, even one outside the em box, isn't in it, then 13 exactly if no such disk exists"
unfoldable pub through_of : List ℤ → Chosen → Outcome Disk
through_of l c =
    and_then (enclose_of l) (λ e.
    refuse_if (not (all_of (has (points l)) (chosen c))) 12
    (fitting_disk (points l) (fixed c)))
