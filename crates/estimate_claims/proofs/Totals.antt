-- Sums over the glyphs of a sheet, and what a glyph comes to by what the loader answers.
--
--   total_same       : a sum is settled by its terms
--   total_within     : the sum up to glyph k, and glyph k's own, are within that of all
--   total_most       : a sum of terms within a limit
--   noted_long, noted_at : the length of a list of the loader's answers, and its place k
--   sum-total        : their sum as `total` has it
--   Agree o l, agree : a description's letter o and the loader's answer l: both refused alike, or both given, the tests within the most
use mathlib.Core.Path.{◌≡◌, refl, sym, ap, ap₂, ◌∙◌, subst, subst₂}
use mathlib.Core.Bool.{Bool, true, false}
use mathlib.Core.List.{List, map}
use Prim.Native.Nat.{ℕ, zero, suc, ◌+◌, ◌*◌, ◌≤◌, ◌<◌}
use native.Mathlib.Nat.{add-zero, zero-add, add_assoc, mul-suc}
use native.Mathlib.Omega.{arith}
use borrow.Author.Tests.{ltb-true, ltb-false}
use lib.Dec.{ltb}
use lib.ListN.{length, get_or}
use Rattle.answers.specs.Outcome.{Outcome, given, refused}
use Rattle.disks.specs.Procedure.{tests_of}
use Rattle.disks.proofs.Welzl.{tests_most}
use Rattle.description.specs.Description.{load_of, named, room}
use Rattle.description.proofs.AcceptedTexts.{room_long, accepted_count}
use Rattle.directory.specs.Directory.{pairs}
use Rattle.sheet.specs.Sheet.{parts}
use Rattle.letter.specs.Letter.{Letter, letter_of}
use Rattle.letter.proofs.Whole.{letter_loaded, letter_unloaded}
use Rattle.sheet_estimate.specs.Estimating.{loads, most_tests, sum}
use Rattle.sheet_estimate.proofs.Told.{load_at, each}
use Rattle.estimate_claims.specs.SheetEstimate.{total}

-- ---- sums

-- no glyph is before the first
none : (k : ℕ) → k < 0 → ⊥
none k h = omega arith

pub total_same : (f g : ℕ → ℕ) (n : ℕ) → ((k : ℕ) → k < n → f k ≡ g k) → total f n ≡ total g n
unfolding total
total_same f g zero h = refl
total_same f g (suc n) h = ap₂ ◌+◌ (total_same f g n (λ k l. h k (omega arith))) (h n (omega arith))

pub total_within : (f : ℕ → ℕ) (n k : ℕ) → k < n → total f k + f k ≤ total f n
unfolding total
total_within f zero k h = absurd (none k h)
total_within f (suc n) k h = by_place (ltb k n) refl (total_within f n k)
  where
    by_place : (b : Bool) → ltb k n ≡ b → (k < n → total f k + f k ≤ total f n) → total f k + f k ≤ total f n + f n
    by_place true e before = omega (arith, before (ltb-true k n e))
    by_place false e before =
        let last : k ≡ n = omega (arith, ltb-false k n e) in subst (λ (m : ℕ). total f k + f k ≤ total f m + f m) last (omega arith)

pub total_most : (f : ℕ → ℕ) (limit n : ℕ) → ((k : ℕ) → f k ≤ limit) → total f n ≤ limit * n
unfolding total
total_most f limit zero h = omega arith
total_most f limit (suc n) h = subst (λ (m : ℕ). total f n + f n ≤ m) (sym (mul-suc limit n)) (omega (arith, total_most f limit n h, h n))

-- ---- the loader's answers

module _ (f : Outcome ℕ → ℕ) (s : List ℕ) where
  each_long : (i n : ℕ) → length (each f s i n) ≡ n
  unfolding parts pairs
  each_long i zero = refl
  each_long i (suc n) = ap suc (each_long (suc i) n)

  pub noted_long : (n : ℕ) → length (map f (loads s n)) ≡ n
  noted_long n = each_long 0 n

  each_at : (i n k : ℕ) → k < n → get_or (each f s i n) k 0 ≡ f (load_at s (i + k))
  unfolding parts pairs
  each_at i zero k h = absurd (none k h)
  each_at i (suc n) zero h = ap (λ (j : ℕ). f (load_at s j)) (sym (add-zero i))
  each_at i (suc n) (suc k) h =
      let e : suc i + k ≡ i + suc k = omega arith in each_at (suc i) n k (omega arith) ∙ ap (λ (j : ℕ). f (load_at s j)) e

  pub noted_at : (n k : ℕ) → k < n → get_or (map f (loads s n)) k 0 ≡ f (load_at s k)
  noted_at n k h = each_at 0 n k h ∙ ap (λ (j : ℕ). f (load_at s j)) (zero-add k)

  abbrev term : ℕ → ℕ
  term k = f (load_at s k)

  each_total : (i n : ℕ) → total term i + sum (each f s i n) ≡ total term (i + n)
  unfolding parts pairs sum total
  each_total i zero = omega (arith, ap (total term) (add-zero i))
  each_total i (suc n) =
      let e : suc i + n ≡ i + suc n = omega arith in
      sym (add_assoc (total term i) (term i) (sum (each f s (suc i) n))) ∙ each_total (suc i) n ∙ ap (total term) e

  pub sum-total : (n : ℕ) → sum (map f (loads s n)) ≡ total term n
  unfolding total
  sum-total n = sym (zero-add (sum (each f s 0 n))) ∙ each_total 0 n ∙ ap (total term) (zero-add n)

-- ---- a letter and its load

pub data Agree : Outcome Letter → Outcome ℕ → Type 0 where
  both : {g : Letter} {n : ℕ} → g.tests ≤ most_tests n → Agree (given g) (given n)
  neither : {k : ℕ} → Agree (refused k) (refused k)

pub agree : (d : List ℕ) → Agree (letter_of d) (load_of d room)
agree d = by_load (load_of d room) refl
  where
    by_load : (o : Outcome ℕ) → load_of d room ≡ o → Agree (letter_of d) (load_of d room)
    by_load (given n) e =
        let within : tests_of (named d) ≤ most_tests (length (named d)) = omega (arith, tests_most (named d)) in
        subst₂ Agree (sym (letter_loaded d room room_long n e)) (sym e)
        (both (subst (λ (m : ℕ). tests_of (named d) ≤ most_tests m) (sym (accepted_count d room n e)) within))
    by_load (refused k) e = subst₂ Agree (sym (letter_unloaded d room room_long k e)) (sym e) neither
