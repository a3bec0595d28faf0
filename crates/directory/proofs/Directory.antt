-- The rule of the pairs, one pair at a time, as a loop over the directory goes: pair i, with the pairs up to pair n still to come.
--
--   pairs-step     : the pairs from i to n are pair i and those from i + 1 on
--   pairs_done     : from n on there is none
--   follow_done    : where no pair is left the rule holds
--   follow_early   : where pair i starts before `end`, it is broken
--   follow_late    : where pair i ends behind the l bytes, it is broken
--   follow_next    : else it holds as it does of the next pairs, with pair i's end
--   rule_of_pairs  : the last four, for `search`
use mathlib.Core.Path.{◌≡◌, sym, ap, ◌∙◌}
use mathlib.Core.Bool.{true, false, ◌&&◌}
use mathlib.Core.List.{List, [], ◌∷◌}
use Prim.Native.Nat.{ℕ, suc, ◌+◌, ◌-◌, ◌≤◌, ◌<◌}
use native.Mathlib.Numerals.{add-one}
use native.Mathlib.Omega.{arith}
use borrow.Author.Tests.{le-leb, lt-leb}
use lib.Dec.{leb}
use Rattle.directory.specs.Directory.{pair, pairs, follow}

pub pairs-step : (s : List ℕ) (i n : ℕ) → i < n → pairs s i (n - i) ≡ pair s i ∷ pairs s (i + 1) (n - (i + 1))
unfolding pairs
pairs-step s i n h =
    let e : n - i ≡ suc (n - (i + 1)) = omega arith in
    ap (pairs s i) e ∙ ap (λ (j : ℕ). pair s i ∷ pairs s j (n - (i + 1))) (sym (add-one i))

pub pairs_done : (s : List ℕ) (i n : ℕ) → n ≤ i → pairs s i (n - i) ≡ []
unfolding pairs
pairs_done s i n h = let e : n - i ≡ 0 = omega arith in ap (pairs s i) e

module _ (s : List ℕ) (l end i n : ℕ) where
  pub follow_done : n ≤ i → follow end l (pairs s i (n - i)) ≡ true
  unfolding follow
  follow_done h = ap (follow end l) (pairs_done s i n h)

  -- the rule of pair i and those behind it
  step : i < n
      → follow end l (pairs s i (n - i))
      ≡ leb end (pair s i).start && (leb ((pair s i).start + (pair s i).len) l && follow ((pair s i).start + (pair s i).len) l (pairs s (i + 1) (n - (i + 1))))
  unfolding follow
  step h = ap (follow end l) (pairs-step s i n h)

  pub follow_early : i < n → (pair s i).start < end → follow end l (pairs s i (n - i)) ≡ false
  follow_early h k = step h ∙ simp (lt-leb end (pair s i).start k)

  pub follow_late : i < n → end ≤ (pair s i).start → l < (pair s i).start + (pair s i).len → follow end l (pairs s i (n - i)) ≡ false
  follow_late h k m = step h ∙ simp (le-leb end (pair s i).start k, lt-leb ((pair s i).start + (pair s i).len) l m)

  pub follow_next : i < n → end ≤ (pair s i).start → (pair s i).start + (pair s i).len ≤ l
      → follow ((pair s i).start + (pair s i).len) l (pairs s (i + 1) (n - (i + 1))) ≡ follow end l (pairs s i (n - i))
  follow_next h k m = sym (step h ∙ simp (le-leb end (pair s i).start k, le-leb ((pair s i).start + (pair s i).len) l m))

pub ruleset rule_of_pairs = (follow_done, follow_early, follow_late, follow_next)
