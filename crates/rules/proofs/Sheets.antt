-- A sheet's pairs, in order.
--
--   in_order, ordered   : the test `follow` says that the pairs are in order
use mathlib.Core.Path.{◌≡◌, refl, subst}
use mathlib.Core.Bool.{true}
use mathlib.Core.List.{List}
use Prim.Native.Nat.{ℕ, zero, suc, ◌+◌, ◌≤◌, ◌<◌}
use native.Mathlib.Nat.{zero-add}
use native.Mathlib.Omega.{arith}
use borrow.Author.Tests.{le-leb}
use lib.ListN.{length}
use Rattle.integers.proofs.Tests.{both}
use Rattle.directory.specs.Directory.{count, directory_end, pair, pairs, follow}
use Rattle.directory.proofs.Follow.{follow-pair, pairs-sorted}
use Rattle.rules.specs.Rules.{part_end, PairsInOrder}

pub in_order : (s : List ℕ) → follow (directory_end s) (length s) (pairs s 0 (count s)) ≡ true → PairsInOrder s
in_order s h = record {
  sorted = λ i j a b. let e = pairs-sorted s h i j a b in omega (arith, e);
  first = λ k. (follow-pair s (length s) (directory_end s) 0 (count s) 0 h k).0;
  next = λ i k. pairs-sorted s h i (suc i) (omega arith) k;
  within = λ i k. subst (λ (m : ℕ). part_end s m ≤ length s) (zero-add i) (follow-pair s (length s) (directory_end s) 0 (count s) i h k).1;
}

-- the n pairs from pair i on
follows : (s : List ℕ) (l end i n : ℕ) → (0 < n → end ≤ (pair s i).start) → ((j : ℕ) → i ≤ j → suc j < i + n → part_end s j ≤ (pair s (suc j)).start)
    → ((j : ℕ) → i ≤ j → j < i + n → part_end s j ≤ l) → follow end l (pairs s i n) ≡ true
unfolding pairs follow
follows s l end i zero first next within = refl
follows s l end i (suc n) first next within =
    both (le-leb end (pair s i).start (first (omega arith)))
    (both (le-leb (part_end s i) l (within i (omega arith) (omega arith)))
    (follows s l (part_end s i) (suc i) n (λ k. next i (omega arith) (omega arith)) (λ j h k. next j (omega arith) (omega arith))
    (λ j h k. within j (omega arith) (omega arith))))

pub ordered : (s : List ℕ) → PairsInOrder s → follow (directory_end s) (length s) (pairs s 0 (count s)) ≡ true
ordered s o =
    follows s (length s) (directory_end s) 0 (count s) o.first (λ j h k. o.next j (rw zero-add at k)) (λ j h k. o.within j (rw zero-add at k))
