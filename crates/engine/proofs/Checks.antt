-- The engine's row of checks, and the list that it leaves.
--
--   accepted       : where no check refuses the list, the answer is given
--   list_refused   : a refused list is unchanged
--   even_length, some_length : the length of a list that passed the first two
--   list_accepted  : an accepted list is left as the procedure leaves it
use mathlib.Core.Path.{◌≡◌, refl, ap}
use mathlib.Core.Bool.{true}
use mathlib.Core.List.{List, [], ◌∷◌}
use native.Mathlib.Omega.{arith}
use Prim.Native.Nat.{ℕ, zero, suc, ◌/◌, ◌%◌, ◌≤◌, ◌<◌}
use borrow.Author.Tests.{ne_eqb, le-ltb}
use lib.IntN.{ℤ}
use lib.ListN.{length}
use Rattle.answers.specs.Outcome.{Outcome, given, refused}
use Rattle.geometry.specs.EmBox.{all_in_em_box}
use Rattle.geometry.specs.Points.{points, flat}
use Rattle.disks.specs.Procedure.{order_of}
use Rattle.engine.specs.Engine.{Enclosure, enclosure, enclose_of, order_after, list_after}

pub accepted : (l : List ℤ)
    → (length l % 2 ≡ 1 → ⊥)
    → (length l ≡ 0 → ⊥)
    → length l / 2 ≤ 4096
    → all_in_em_box (points l) ≡ true
    → enclose_of l ≡ given (enclosure (points l))
unfolding enclose_of
accepted l even some few boxed = rw (ne_eqb (length l % 2) 1 even, ne_eqb (length l) 0 some, le-ltb 4096 (length l / 2) few, boxed)

pub list_refused : (l : List ℤ) {n : ℕ} → enclose_of l ≡ refused n → list_after l ≡ l
unfolding list_after
list_refused l e = ap (λ (o : Outcome Enclosure). order_after o l) e

pub list_accepted : (l : List ℤ) {e : Enclosure} → enclose_of l ≡ given e → list_after l ≡ flat (order_of (points l))
unfolding list_after
list_accepted l e = ap (λ (o : Outcome Enclosure). order_after o l) e

-- ---- the length

two_cases : (m : ℕ) → m < 2 → (m ≡ 1 → ⊥) → m ≡ 0
two_cases zero h k = refl
two_cases (suc zero) h k = absurd (k refl)
two_cases (suc (suc m)) h k = absurd (omega arith)

pub even_length : (l : List ℤ) → (length l % 2 ≡ 1 → ⊥) → length l % 2 ≡ 0
even_length l h = two_cases (length l % 2) (omega arith) h

pub some_length : (l : List ℤ) → (length l ≡ 0 → ⊥) → 0 < length l
some_length [] h = absurd (h refl)
some_length (x ∷ l) h = omega arith
