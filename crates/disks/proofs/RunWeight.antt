-- How large E can become in a run.
--
--   AllInSquare P   == every point of P lies in the square of side l
--   Light s         == E is at most 2l², and the list left lies in the square
--   run_weight      : of points in a square of side l at least 1, every run is light
use mathlib.Core.Path.{refl}
use mathlib.Core.Bool.{Bool, true, false}
use mathlib.Core.Logic.{◌⊎◌, inl, inr}
use mathlib.Core.List.Memᴰ
use mathlib.Core.List.{List, [], ◌∷◌, ◌++◌}
use Prim.Native.Nat.{ℕ, zero, suc}
use lib.IntN.{ℤ, pos, ◌*ℤ◌}
use lib.Signed.{◌≤ℤ◌, ◌<ℤ◌}
use Rattle.integers.proofs.Ring.{poly}
use Rattle.integers.proofs.Order.{≤_of_<, nonneg, lt, nn, ◌⊞◌, ◌⊠◌}
use Rattle.geometry.specs.declared.Point.{Point}
use Rattle.point_lists.specs.Sets.{In}
use Rattle.point_lists.proofs.Sets.{none_of, also}
use Rattle.disks.proofs.BoxLimits.{Box, triple_weight}
use Rattle.disks.proofs.LiftedProcedure.{LiftedState, boundary_form, lifted_outside, lifted_tested, turn_at, one_by_one, lifted_start, run_with}

module _ (x0 y0 l : ℤ) (hl : pos 0 <ℤ l) where
  abbrev pub AllInSquare : List Point → Type 0
  AllInSquare P = (p : Point) → In p P → Box x0 y0 l p

  pub record Light (s : LiftedState) : Type 0 where
    pub weight : s.disk.e ≤ℤ (pos 2 *ℤ (l *ℤ l))
    pub boxed : AllInSquare s.left

  zero_small : pos 0 ≤ℤ (pos 2 *ℤ (l *ℤ l))
  zero_small = nonneg (l ∷ []) (nn 2 ⊠ (lt hl ⊠ lt hl) ⊞ nn 4 ⊠ lt hl ⊞ nn 2) (search poly depth 30) tt

  one_small : pos 1 ≤ℤ (pos 2 *ℤ (l *ℤ l))
  one_small = nonneg (l ∷ []) (nn 2 ⊠ (lt hl ⊠ lt hl) ⊞ nn 4 ⊠ lt hl ⊞ nn 1) (search poly depth 30) tt

  two_small : pos 2 ≤ℤ (pos 2 *ℤ (l *ℤ l))
  two_small = nonneg (l ∷ []) (nn 2 ⊠ (lt hl ⊠ lt hl) ⊞ nn 4 ⊠ lt hl) (search poly depth 30) tt

  boundary_weight : (R : List Point) → AllInSquare R → (boundary_form R).e ≤ℤ (pos 2 *ℤ (l *ℤ l))
  unfolding boundary_form
  boundary_weight [] h = zero_small
  boundary_weight (a ∷ []) h = one_small
  boundary_weight (a ∷ b ∷ []) h = two_small
  boundary_weight (a ∷ b ∷ c ∷ []) h = triple_weight x0 y0 l (≤_of_< hl) a b c (h a (Memᴰ.head refl)) (h b (Memᴰ.tail (Memᴰ.head refl)))
      (h c (Memᴰ.tail (Memᴰ.tail (Memᴰ.head refl))))
  boundary_weight (a ∷ b ∷ c ∷ d ∷ R) h = zero_small

  boxed_last : (P : List Point) (p : Point) → AllInSquare P → Box x0 y0 l p → AllInSquare (P ++ (p ∷ []))
  boxed_last P p h k q i = go (Memᴰ.append_cases P i)
    where
      go : In q P ⊎ In q (p ∷ []) → Box x0 y0 l q
      go (inl j) = h q j
      go (inr j) = also (Box x0 y0 l) k (none_of (Box x0 y0 l)) q j

  tested_small : (b : Bool) (s : LiftedState) (p : Point) (again : LiftedState) → Light s → Box x0 y0 l p → Light again → Light (lifted_tested b s p again)
  unfolding lifted_tested
  tested_small true s p again h k a = record { weight = a.weight; boxed = also (Box x0 y0 l) k a.boxed }
  tested_small false s p again h k a = record { weight = h.weight; boxed = boxed_last s.left p h.boxed k }

  one_by_one_small : (f : LiftedState → Point → LiftedState) → ((s : LiftedState) (p : Point) → Light s → Box x0 y0 l p → Light (f s p)) →
      (s : LiftedState) (P : List Point)
      → Light s → AllInSquare P → Light (one_by_one f s P)
  unfolding one_by_one
  one_by_one_small f h s [] k b = k
  one_by_one_small f h s (p ∷ P) k b = one_by_one_small f h (f s p) P (h s p k (b p (Memᴰ.head refl))) (λ q i. b q (Memᴰ.tail i))

  pub run_weight : (k : ℕ) (R P : List Point) → AllInSquare R → AllInSquare P → Light (run_with k R P)
  unfolding run_with turn_at
  run_weight zero R P r b = record { weight = boundary_weight R r; boxed = b }
  run_weight (suc k) R P r b = go (λ S Q s q. run_weight k S Q s q)
    where
      go : ((S Q : List Point) → AllInSquare S → AllInSquare Q → Light (run_with k S Q)) → Light (one_by_one (turn_at (run_with k) R) (lifted_start R []) P)
      go ih = one_by_one_small (turn_at (run_with k) R) (λ s p h c. tested_small (lifted_outside s.disk p) s p (run_with k (p ∷ R) s.left) h c
          (ih (p ∷ R) s.left (also (Box x0 y0 l) c r) h.boxed))
          (lifted_start R []) P (record { weight = boundary_weight R r; boxed = none_of (Box x0 y0 l) }) b
