-- What the call answers, by what the engine says of the list.
--
--   refused_answer : a list that the engine refuses is refused alike
--   given_answer   : any other gets its widest stretch
use mathlib.Core.Path.{◌≡◌, ap}
use mathlib.Core.List.{List}
use Prim.Native.Nat.{ℕ}
use lib.IntN.{ℤ}
use Rattle.answers.specs.Outcome.{Outcome, given, refused, and_then}
use Rattle.geometry.specs.Points.{points}
use Rattle.engine.specs.Engine.{Enclosure, enclose_of}
use Rattle.stretches.specs.declared.Stretch.{Stretch}
use Rattle.stretches.specs.Widest.{widest_of}
use Rattle.widest_stretch.specs.Stretching.{stretch_of}

module _ (l : List ℤ) where
  abbrev answer : Outcome Enclosure → Outcome Stretch
  answer o = and_then o (λ e. given (widest_of (points l)))

  pub refused_answer : {n : ℕ} → enclose_of l ≡ refused n → stretch_of l ≡ refused n
  refused_answer h = ap answer h

  pub given_answer : {e : Enclosure} → enclose_of l ≡ given e → stretch_of l ≡ given (widest_of (points l))
  given_answer h = ap answer h
