-- The answer of the call for the widest stretch of a letter (02, item 11).
--
--   stretch_of l   == the answer due for the list l: the engine's refusals; else the widest stretch of its points
--
-- That `widest_of P` (stretches/specs/Widest.antt) are the two points of P that are farthest apart, by their property, and Jung's bound are claimed in
-- stretch_claims/specs/WidestStretch.antt.
use Rattle.std.specs.Prelude.{List, ℤ}
use Rattle.answers.specs.Outcome.{Outcome, given, and_then}
use Rattle.geometry.specs.Points.{points}
use Rattle.engine.specs.Engine.{enclose_of}
use Rattle.stretches.specs.declared.Stretch.{Stretch}
use Rattle.stretches.specs.Widest.{widest_of}

-- "Refusals are the engine's"
abbrev pub stretch_of : List ℤ → Outcome Stretch
stretch_of l = and_then (enclose_of l) (λ e. given (widest_of (points l)))
