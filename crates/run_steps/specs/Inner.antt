-- What the functions for one glyph promise.
--
--   placed at bytes l   == the list l with the bytes from the place on, and the rest as it was
--   number_for o        == a glyph's number: 0, or its refusal
--   bare l g w          == the state with l left and w worked, and nothing written
--   Stepped             == what one glyph makes of such a standing, and of the buffer behind the records of the worked ones; and its answer
use Rattle.std.specs.Prelude.{◌≡◌, Bool, List, [], ◌∷◌, ◌++◌, ℕ, ◌+◌, ◌*◌, length, take, drop, Result}
use Rattle.answers.specs.declared.Refusal.{Refusal}
use Rattle.answers.specs.Outcome.{Outcome, given, refused, outcome}
use Rattle.record_writer.specs.Layout.{record_length}
use Rattle.letter.specs.Letter.{Letter}
use Rattle.run_steps.specs.Steps.{State, step}
use Rattle.run_steps.specs.declared.Standing.{Standing}

abbrev pub placed : ℕ → List ℕ → List ℕ → List ℕ
placed at bytes l = take at l ++ (bytes ++ drop (at + length bytes) l)

abbrev pub number_for : Outcome (Unit {0}) → ℕ
number_for (given done) = 0
number_for (refused n) = n

abbrev pub bare : ℕ → Bool → ℕ → State
bare l g w = record { left = l; going = g; worked = w; records = []; numbers = [] }

pub record Stepped (o : Outcome Letter) (s : Standing) (before : List ℕ) (r : Standing) (after : List ℕ) (a : Result (Unit {0}) Refusal) : Type 0 where
  pub left_is : r.left ≡ (step o (bare s.left s.going s.worked)).left
  pub going_is : r.going ≡ (step o (bare s.left s.going s.worked)).going
  pub worked_is : r.worked ≡ (step o (bare s.left s.going s.worked)).worked
  pub number_is : number_for (outcome a) ∷ [] ≡ (step o (bare s.left s.going s.worked)).numbers
  pub after_is : after ≡ placed (record_length * s.worked) (step o (bare s.left s.going s.worked)).records before
