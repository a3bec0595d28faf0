-- The engine's own checks of a list, by themselves.
--
--   Checks l r  == r is what they say of the list l: none refuses it, and the engine gives its answer; or the engine refuses it with this refusal
use Rattle.std.specs.Prelude.{◌≡◌, List, ℤ, Result, Ok, Err}
use Rattle.answers.specs.Outcome.{given, refused, number_of}
use Rattle.geometry.specs.Points.{points}
use Rattle.answers.specs.declared.Refusal.{Refusal}
use Rattle.engine.specs.Engine.{enclosure, enclose_of}

abbrev pub Checks : List ℤ → Result (Unit {0}) Refusal → Type 0
Checks l (Ok u) = enclose_of l ≡ given (enclosure (points l))
Checks l (Err r) = enclose_of l ≡ refused (number_of r)
