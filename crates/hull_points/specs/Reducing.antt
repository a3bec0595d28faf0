-- The answer of the call that reduces a list to the corners of its convex hull, and the list as it leaves it (02, item 8: outlines stripped to what
-- sticks out).
--
--   reduce_of l    == the answer due for the list l: the engine's refusals; else how many corners the hull has
--   list_after l   == the list as the call leaves it: the corners in front and zeros behind; unchanged where the call refuses
--
-- That `hull_of P` (hull/specs/Chains.antt) are the corners of the convex hull of P, by their property, is claimed in requests/specs/HullPoints.antt.
use Rattle.std.specs.Prelude.{List, ℕ, ℤ, length}
use Rattle.answers.specs.Outcome.{Outcome, given, refused, and_then}
use Rattle.geometry.specs.Points.{points}
use Rattle.engine.specs.Engine.{Enclosure, enclose_of}
use Rattle.hull.specs.Chains.{hull_of}
use Rattle.joined_chains.specs.Laid.{laid}

-- "Refusals are the engine's."; "the number kept is returned"
abbrev pub reduce_of : List ℤ → Outcome ℕ
reduce_of l = and_then (enclose_of l) (λ e. given (length (hull_of (points l))))

-- "They go to the front of the list, the rest of the list becomes zeros"
abbrev pub left_by : Outcome Enclosure → List ℤ → List ℤ
left_by (given e) l = laid (hull_of (points l)) (length l)
left_by (refused n) l = l

abbrev pub list_after : List ℤ → List ℤ
list_after l = left_by (enclose_of l) l
