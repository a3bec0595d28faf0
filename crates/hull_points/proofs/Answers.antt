-- What the call answers and leaves, by what the engine says of the list.
--
--   refused_answer, list_refused : a list that the engine refuses is refused alike, and left as it is
--   given_answer, list_reduced   : any other is reduced
--   list_kept                    : a list that the call refuses is left as it is
use mathlib.Core.Path.{◌≡◌, refl, sym, ap}
use mathlib.Core.List.{List}
use Prim.Native.Nat.{ℕ}
use lib.IntN.{ℤ}
use lib.ListN.{length}
use Rattle.answers.specs.Outcome.{Outcome, given, refused, and_then}
use Rattle.answers.proofs.OutcomeLaws.{not_given}
use Rattle.geometry.specs.Points.{points}
use Rattle.engine.specs.Engine.{Enclosure, enclose_of}
use Rattle.hull.specs.Chains.{hull_of}
use Rattle.joined_chains.specs.Laid.{laid}
use Rattle.hull_points.specs.Reducing.{reduce_of, left_by, list_after}

module _ (l : List ℤ) where
  abbrev answer : Outcome Enclosure → Outcome ℕ
  answer o = and_then o (λ e. given (length (hull_of (points l))))

  pub refused_answer : {n : ℕ} → enclose_of l ≡ refused n → reduce_of l ≡ refused n
  refused_answer h = ap answer h

  pub given_answer : {e : Enclosure} → enclose_of l ≡ given e → reduce_of l ≡ given (length (hull_of (points l)))
  given_answer h = ap answer h

  pub list_refused : {n : ℕ} → enclose_of l ≡ refused n → list_after l ≡ l
  list_refused h = ap (λ (o : Outcome Enclosure). left_by o l) h

  pub list_reduced : {e : Enclosure} → enclose_of l ≡ given e → list_after l ≡ laid (hull_of (points l)) (length l)
  list_reduced h = ap (λ (o : Outcome Enclosure). left_by o l) h

  pub list_kept : {n : ℕ} → reduce_of l ≡ refused n → list_after l ≡ l
  list_kept {n} h = go (enclose_of l) refl h
    where
      go : (o : Outcome Enclosure) → enclose_of l ≡ o → answer o ≡ refused n → left_by o l ≡ l
      go (given e) k h = absurd (not_given (sym h))
      go (refused m) k h = refl
