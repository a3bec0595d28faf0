-- What is known of a list that the engine accepts.
--
--   Accepted l e   == the rules of document 01 for a point list, and the answer e
--   accepted_list  : a list whose answer is given keeps them
--   has_point      : such a list has a point
use mathlib.Core.Path.{◌≡◌, refl, sym}
use mathlib.Core.Bool.{true}
use mathlib.Core.List.{List, [], ◌∷◌}
use Prim.Native.Nat.{ℕ, ◌/◌, ◌%◌, ◌≤◌}
use native.Mathlib.Omega.{arith}
use borrow.Author.Tests.{eqb-false, ltb-false, not-false}
use lib.IntN.{ℤ}
use lib.ListN.{length}
use Rattle.answers.specs.Outcome.{given}
use Rattle.answers.proofs.OutcomeLaws.{not_refused, same_given}
use Rattle.geometry.specs.EmBox.{all_in_em_box}
use Rattle.geometry.specs.Points.{points}
use Rattle.engine.specs.Engine.{Enclosure, enclosure, enclose_of}

pub record Accepted (l : List ℤ) (e : Enclosure) : Type 0 where
  pub even : length l % 2 ≡ 1 → ⊥
  pub some : length l ≡ 0 → ⊥
  pub few : length l / 2 ≤ 4096
  pub boxed : all_in_em_box (points l) ≡ true
  pub answer : e ≡ enclosure (points l)

pub accepted_list : (l : List ℤ) (e : Enclosure) → enclose_of l ≡ given e → Accepted l e
unfolding enclose_of
accepted_list l e h =
    let nine = not_refused _ 9 h in
    let five = not_refused _ 5 nine.1 in
    let four = not_refused _ 4 five.1 in
    let three = not_refused _ 3 four.1 in
    record {
      even = eqb-false (length l % 2) 1 nine.0;
      some = eqb-false (length l) 0 five.0;
      few = ltb-false 4096 (length l / 2) four.0;
      boxed = not-false _ three.0;
      answer = sym (same_given refl three.1);
    }

pub has_point : (l : List ℤ) → (length l % 2 ≡ 1 → ⊥) → (length l ≡ 0 → ⊥) → points l ≡ [] → ⊥
unfolding points
has_point [] even some e = some refl
has_point (x ∷ []) even some e = even refl
has_point (x ∷ y ∷ l) even some e = let z : ◌≡◌ {A = ℕ} 0 1 = cc in omega arith
