-- What every run of the procedure keeps, whatever points are fixed and whether or not a disk fits them.
--
--   most k n       == the most tests that a run with room for k more can make on n points
--   run_permuted   : the list left has the points given, each as often as before
--   run_length     : so it is as long
--   run_tests      : the tests are at most `most`
--   most_more      : with more room they may be more
--   most_three     : `most` for room 3 is (n³ + 5n)/6, from n for room 1 and n(n + 1)/2 for room 2
use mathlib.Core.Path.{◌≡◌, refl, ap, subst, ◌∙◌}
use mathlib.Core.Bool.{Bool, true, false}
use mathlib.Core.List.Permᴰ
use mathlib.Core.List.{List, [], ◌∷◌, ◌++◌, append_assoc, append-nil, Permᴰ}
use Prim.Native.Nat.{ℕ, zero, suc, ◌+◌, ◌*◌, ◌≤◌}
use native.Mathlib.Numerals.{add-one}
use native.Mathlib.Omega.{arith}
use lib.ListN.{length, length-append}
use Rattle.geometry.specs.declared.Point.{Point}
use Rattle.disks.specs.Procedure.{State, outside, tested, step, through, start, run}
use Rattle.disks.proofs.Lists.{perm_length, last_first}

unfoldable pub most : ℕ → ℕ → ℕ
most zero n = 0
most (suc k) zero = 0
most (suc k) (suc n) = most (suc k) n + 1 + most k n

-- what holds of the result s of a run on Q with room for k more
record Kept (k : ℕ) (Q : List Point) (s : State) : Type 0 where
  permuted : Permᴰ s.left Q
  few : s.tests ≤ most k (length Q)

most_last : (k : ℕ) (Q : List Point) (p : Point) → most (suc k) (length (Q ++ (p ∷ []))) ≡ most (suc k) (length Q) + 1 + most k (length Q)
unfolding most
most_last k Q p = ap (most (suc k)) (length-append Q (p ∷ []) ∙ add-one (length Q))

tested_kept : (t : Bool) (k : ℕ) (Q : List Point) (s : State) (p : Point) (again : State) → Kept (suc k) Q s → Kept k s.left again
    → Kept (suc k) (Q ++ (p ∷ [])) (tested t s p again)
unfolding tested
tested_kept true k Q s p again r i = record {
  permuted = Permᴰ.trans (Permᴰ.cons refl (Permᴰ.trans i.permuted r.permuted)) (Permᴰ.symm (last_first Q p));
  few = rw most_last (omega (arith, r.few, subst (λ (n : ℕ). again.tests ≤ most k n) (perm_length r.permuted) i.few));
}
tested_kept false k Q s p again r i = record {
  permuted = Permᴰ.append_right (p ∷ []) r.permuted;
  few = rw most_last (omega (arith, r.few));
}

through_kept : (k : ℕ) (f : State → Point → State) → ((Q : List Point) (s : State) (p : Point) → Kept k Q s → Kept k (Q ++ (p ∷ [])) (f s p))
    → (Q ps : List Point) (s : State) → Kept k Q s → Kept k (Q ++ ps) (through f s ps)
unfolding through
through_kept k f turn Q [] s r = rw append-nil r
through_kept k f turn Q (p ∷ ps) s r = rw append_assoc at (through_kept k f turn (Q ++ (p ∷ [])) ps (f s p) (turn Q s p r))

kept : (k : ℕ) (R P : List Point) → Kept k P (run k R P)
unfolding run step most
kept zero R P = record { permuted = Permᴰ.refl P; few = omega arith }
kept (suc k) R P =
    through_kept (suc k) (step (run k) R)
    (λ Q s p r. tested_kept (outside s.cover p) k Q s p (run k (p ∷ R) s.left) r (kept k (p ∷ R) s.left))
    [] P (start R []) (record { permuted = Permᴰ.nil; few = omega arith })

pub run_permuted : (k : ℕ) (R P : List Point) → Permᴰ (run k R P).left P
run_permuted k R P = (kept k R P).permuted

pub run_length : (k : ℕ) (R P : List Point) → length (run k R P).left ≡ length P
run_length k R P = perm_length (run_permuted k R P)

pub run_tests : (k : ℕ) (R P : List Point) → (run k R P).tests ≤ most k (length P)
run_tests k R P = (kept k R P).few

-- ---- the figure

pub most_more : (k n : ℕ) → most k n ≤ most (suc k) n
unfolding most
most_more zero n = omega arith
most_more (suc k) zero = omega arith
most_more (suc k) (suc n) = omega (arith, most_more (suc k) n, most_more k n)

most_one : (n : ℕ) → most 1 n ≡ n
unfolding most
most_one zero = refl
most_one (suc n) = let h : most 1 n ≡ n = most_one n in omega arith

most_two : (n : ℕ) → 2 * most 2 n ≡ n * n + n
unfolding most
most_two zero = refl
most_two (suc n) = let h : 2 * most 2 n ≡ n * n + n = most_two n in let k : most 1 n ≡ n = most_one n in omega arith

pub most_three : (n : ℕ) → 6 * most 3 n ≡ n * n * n + 5 * n
unfolding most
most_three zero = refl
most_three (suc n) = let h : 6 * most 3 n ≡ n * n * n + 5 * n = most_three n in let k : 2 * most 2 n ≡ n * n + n = most_two n in omega arith
