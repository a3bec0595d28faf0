-- Welzl's theorem for the lifted procedure: it ends on the strongly minimal disk.
--
--   MinimalSoFar P R F == F is strongly minimal for (P, R); or both are empty and F is the empty disk
--   RunCorrect k R P s == what holds of the result s of a run on P with R fixed and room for k more: its disk and the list left
--   run_ran, run_right : RunCorrect of every run for which some disk is feasible and whose R has at most three points, none twice
--   run_strong         : its disk is strongly minimal, unless there is no point at all
--   mtf-ran, mtf_strong : the same from no point fixed, where a large disk is feasible
use mathlib.Core.Path.{◌≡◌, refl, sym, subst}
use mathlib.Core.Logic.{◌⊎◌, inl, inr}
use mathlib.Core.Bool.{Bool, true, false, not}
use mathlib.Core.List.Memᴰ
use mathlib.Core.List.{List, [], ◌∷◌, ◌++◌, append_assoc, append-nil, Permᴰ}
use mathlib.Core.List.Permᴰ
use Prim.Native.Nat.{ℕ, zero, suc, ◌+◌, ◌-◌, ◌≤◌}
use native.Mathlib.Omega.{arith}
use lib.IntN.{ℤ, pos, neg_ℤ, ◌+ℤ◌, ◌-ℤ◌, ◌*ℤ◌}
use lib.Dec.{T}
use lib.ListN.{length}
use lib.Signed.{◌≤ℤ◌, ◌<ℤ◌, lt_z, lt_z_no}
use Rattle.integers.proofs.Ring.{poly}
use Rattle.integers.proofs.Order.{≤_of_eq, ≤_trans, nonneg, nn, sq, le, ◌⊞◌, <-≤_clash}
use Rattle.geometry.specs.declared.Point.{Point}
use Rattle.point_lists.specs.Sets.{In, Same, Different}
use Rattle.point_lists.proofs.Sets.{same_sym}
use Rattle.disks.proofs.Lifted.{Lifted, value, no_disk, value_none}
use Rattle.disks.proofs.Minimal.{Feasible, StronglyMinimal, Below, feasible_same, strong_same, strong_below, none_below, through_point, to_boundary}
use Rattle.disks.proofs.Minimal.{step_strong, held}
use Rattle.disks.proofs.Base.{point_strong, pair_strong, positive_one}
use Rattle.disks.proofs.Triple.{triple_strong}
use Rattle.disks.proofs.LiftedProcedure.{LiftedState, boundary_form, lifted_outside, lifted_tested, turn_at, one_by_one, lifted_start, run_with}
use Rattle.disks.proofs.LiftedProcedure.{lifted_run, lifted_mtf}
use Rattle.disks.proofs.Lists.{perm_same, last_first}

-- ---- what was found

pub data MinimalSoFar : List Point → List Point → Lifted → Type 0 where
  found : {P R : List Point} {F : Lifted} → StronglyMinimal P R F → MinimalSoFar P R F
  none_yet : MinimalSoFar [] [] no_disk

pub found_below : {P R : List Point} {F : Lifted} → MinimalSoFar P R F → Below P R F
found_below (found s) = strong_below s
found_below none_yet = none_below

none_holds-nothing : {X : Type 0} (p : Point) → value no_disk p ≤ℤ pos 0 → X
none_holds-nothing p h = <-≤_clash positive_one (subst (λ (z : ℤ). z ≤ℤ pos 0) (value_none p) h)

pub found_held : {P R : List Point} {F : Lifted} {p : Point} → MinimalSoFar P R F → value F p ≤ℤ pos 0 → StronglyMinimal (p ∷ P) R F
found_held (found s) h = held s h
found_held {p} none_yet h = none_holds-nothing p h

pub found_strong : {P R : List Point} {F : Lifted} → MinimalSoFar P R F → 1 ≤ length P + length R → StronglyMinimal P R F
found_strong (found s) h = s
found_strong none_yet h = absurd (omega arith)

-- ---- the base

pub base_found : (R : List Point) → length R ≤ 2 → MinimalSoFar [] R (boundary_form R)
unfolding boundary_form
base_found [] h = none_yet
base_found (a ∷ []) h = found (point_strong a)
base_found (a ∷ b ∷ []) h = found (pair_strong a b)
base_found (a ∷ b ∷ c ∷ []) h = absurd (omega arith)
base_found (a ∷ b ∷ c ∷ d ∷ R) h = absurd (omega arith)

pub full_found : {P : List Point} (R : List Point) {W : Lifted} → length R ≡ 3 → Feasible P R W → Different R → StronglyMinimal P R (boundary_form R)
unfolding boundary_form
full_found [] h f d = absurd (omega arith)
full_found (a ∷ []) h f d = absurd (omega arith)
full_found (a ∷ b ∷ []) h f d = absurd (omega arith)
full_found (a ∷ b ∷ c ∷ []) h f d = triple_strong f d
full_found (a ∷ b ∷ c ∷ e ∷ R) h f d = absurd (omega arith)

-- ---- the run

pub record RunCorrect (k : ℕ) (R P : List Point) (s : LiftedState) : Type 0 where
  pub disk_found : MinimalSoFar P R s.disk
  pub left_permuted : Permᴰ s.left P

-- every run with room for k more is right
abbrev pub Right : ℕ → Type 0
Right k = (R P : List Point) (W : Lifted) → Feasible P R W → Different R → length R + k ≡ 3 → RunCorrect k R P (run_with k R P)

-- a point outside is none of R
outside_new : {P R : List Point} {F : Lifted} {p : Point} → Below P R F → pos 0 <ℤ value F p → In p R → ⊥
outside_new {p} h out m = <-≤_clash out (≤_of_eq (h.on_boundary_is p m))

module _ (k : ℕ) (R Q : List Point) (p : Point) (s : LiftedState) (W : Lifted)
    (right : Right k) (size : length R + suc k ≡ 3) (d : Different R) (f : Feasible (Q ++ (p ∷ [])) R W) (r : RunCorrect (suc k) R Q s) where
  same_last : Same (p ∷ Q) (Q ++ (p ∷ []))
  same_last = same_sym (perm_same (last_first Q p))

  -- p is held
  turn_held : value s.disk p ≤ℤ pos 0 → (again : LiftedState) → RunCorrect (suc k) R (Q ++ (p ∷ [])) (lifted_tested false s p again)
  unfolding lifted_tested
  turn_held h again = record {
    disk_found = found (strong_same same_last (found_held r.disk_found h));
    left_permuted = Permᴰ.append_right (p ∷ []) r.left_permuted;
  }

  -- p is liftedOutside: what the inner liftedRun asks
  pub inner_feasible : pos 0 <ℤ value s.disk p → Feasible s.left (p ∷ R) (through_point s.disk p W)
  inner_feasible out = feasible_same (same_sym (perm_same r.left_permuted))
      (to_boundary (found_below r.disk_found) out (feasible_same (same_sym same_last) f))

  pub inner_different : pos 0 <ℤ value s.disk p → Different (p ∷ R)
  inner_different out = ((λ m. outside_new (found_below r.disk_found) out m), d)

  inner-ran : pos 0 <ℤ value s.disk p → RunCorrect k (p ∷ R) s.left (run_with k (p ∷ R) s.left)
  inner-ran out = right (p ∷ R) s.left (through_point s.disk p W) (inner_feasible out) (inner_different out) (omega arith)

  inner_strong : RunCorrect k (p ∷ R) s.left (run_with k (p ∷ R) s.left) → StronglyMinimal s.left (p ∷ R) (run_with k (p ∷ R) s.left).disk
  inner_strong i = go i.disk_found
    where
      go : {F : Lifted} {l : List Point} → MinimalSoFar l (p ∷ R) F → StronglyMinimal l (p ∷ R) F
      go (found h) = h

  turn_outside : pos 0 <ℤ value s.disk p → RunCorrect (suc k) R (Q ++ (p ∷ [])) (lifted_tested true s p (run_with k (p ∷ R) s.left))
  unfolding lifted_tested
  turn_outside out = let i = inner-ran out in record {
    disk_found = found (strong_same same_last (step_strong (found_below r.disk_found) out (strong_same (perm_same r.left_permuted) (inner_strong i))));
    left_permuted = Permᴰ.trans (Permᴰ.cons refl (Permᴰ.trans i.left_permuted r.left_permuted)) (Permᴰ.symm (last_first Q p));
  }

  pub turn_ran : RunCorrect (suc k) R (Q ++ (p ∷ [])) (turn_at (run_with k) R s p)
  unfolding turn_at lifted_outside
  turn_ran = go (lt_z (pos 0) (value s.disk p)) (λ t. record { lt = t }) (λ t. lt_z_no t)
    where
      go : (b : Bool) → (T b → pos 0 <ℤ value s.disk p) → (T (not b) → value s.disk p ≤ℤ pos 0)
          → RunCorrect (suc k) R (Q ++ (p ∷ [])) (lifted_tested b s p (run_with k (p ∷ R) s.left))
      go true out in' = turn_outside (out tt)
      go false out in' = turn_held (in' tt) (run_with k (p ∷ R) s.left)

-- a part of what is held is held
pub feasible_front : (Q S : List Point) {R : List Point} {W : Lifted} → Feasible (Q ++ S) R W → Feasible Q R W
feasible_front Q S f = record { proper = f.proper; holds = λ q m. f.holds q (Memᴰ.append_left S m); on_boundary_is = f.on_boundary_is }

pub next : (Q ps : List Point) (p : Point) → (Q ++ (p ∷ [])) ++ ps ≡ Q ++ (p ∷ ps)
next Q ps p = append_assoc Q (p ∷ []) ps

one_by_one-ran : (k : ℕ) (R Q ps : List Point) (s : LiftedState) (W : Lifted) → Right k → length R + suc k ≡ 3 → Different R → Feasible (Q ++ ps) R W
    → RunCorrect (suc k) R Q s
    → RunCorrect (suc k) R (Q ++ ps) (one_by_one (turn_at (run_with k) R) s ps)
unfolding one_by_one
one_by_one-ran k R Q [] s W right size d f r = record {
  disk_found = subst (λ (P : List Point). MinimalSoFar P R s.disk) (sym (append-nil Q)) r.disk_found;
  left_permuted = subst (λ (P : List Point). Permᴰ s.left P) (sym (append-nil Q)) r.left_permuted;
}
one_by_one-ran k R Q (p ∷ ps) s W right size d f r = subst
    (λ (P : List Point). RunCorrect (suc k) R P (one_by_one (turn_at (run_with k) R) (turn_at (run_with k) R s p) ps)) (next Q ps p)
    (one_by_one-ran k R (Q ++ (p ∷ [])) ps (turn_at (run_with k) R s p) W right size d (at_next f)
    (turn_ran k R Q p s W right size d (feasible_front (Q ++ (p ∷ [])) ps (at_next f)) r))
  where
    at_next : Feasible (Q ++ (p ∷ ps)) R W → Feasible ((Q ++ (p ∷ [])) ++ ps) R W
    at_next h = subst (λ (P : List Point). Feasible P R W) (sym (next Q ps p)) h

-- the general theorem
pub run_ran : (k : ℕ) → Right k
unfolding run_with
run_ran zero R P W f d size = record { disk_found = found (full_found R (omega arith) f d); left_permuted = Permᴰ.refl P }
run_ran (suc k) R P W f d size = one_by_one-ran k R [] P (lifted_start R []) W (run_ran k) size d f
    (record { disk_found = base_found R (omega arith); left_permuted = Permᴰ.nil })

-- the same, of `lifted_run`
pub run_right : (R P : List Point) (W : Lifted) → length R ≤ 3 → Different R → Feasible P R W → RunCorrect (3 - length R) R P (lifted_run R P)
run_right R P W h d f = run_ran (3 - length R) R P W f d (omega arith)

pub run_strong : (R P : List Point) (W : Lifted) → length R ≤ 3 → 1 ≤ length P + length R → Different R → Feasible P R W
    → StronglyMinimal P R (lifted_run R P).disk
run_strong R P W h some d f = found_strong (run_right R P W h d f).disk_found some

-- ---- from no point fixed: a large disk is a witness

abbrev reach : List Point → ℤ
reach [] = pos 0
reach (p ∷ P) = (p.x *ℤ p.x +ℤ p.y *ℤ p.y) +ℤ reach P

reach_nn : (P : List Point) → pos 0 ≤ℤ reach P
reach_nn [] = nn 0
reach_nn (p ∷ P) = sq p.x ⊞ sq p.y ⊞ reach_nn P

more_left : (a b : ℤ) → pos 0 ≤ℤ b → a ≤ℤ (a +ℤ b)
more_left a b h = nonneg (a ∷ b ∷ []) h (search poly depth 30) tt

more_right : (a b : ℤ) → pos 0 ≤ℤ a → b ≤ℤ (a +ℤ b)
more_right a b h = nonneg (a ∷ b ∷ []) h (search poly depth 30) tt

reach_in : (P : List Point) (p : Point) → In p P → (p.x *ℤ p.x +ℤ p.y *ℤ p.y) ≤ℤ reach P
reach_in [] p m = absurd (Memᴰ.not-nil m)
reach_in (q ∷ P) p m = go (λ k. reach_in P p k) (Memᴰ.cases_cons m)
  where
    go : (In p P → (p.x *ℤ p.x +ℤ p.y *ℤ p.y) ≤ℤ reach P) → (p ≡ q) ⊎ In p P → (p.x *ℤ p.x +ℤ p.y *ℤ p.y) ≤ℤ reach (q ∷ P)
    go ih (inl e) = subst (λ (r : Point). (r.x *ℤ r.x +ℤ r.y *ℤ r.y) ≤ℤ reach (q ∷ P)) (sym e)
        (more_left (q.x *ℤ q.x +ℤ q.y *ℤ q.y) (reach P) (reach_nn P))
    go ih (inr k) = ≤_trans (ih k) (more_right (q.x *ℤ q.x +ℤ q.y *ℤ q.y) (reach P) (sq q.x ⊞ sq q.y))

abbrev large : List Point → Lifted
large P = record { e = pos 1; cx = pos 0; cy = pos 0; k = neg_ℤ (reach P) }

large_value : (a b r : ℤ) → (a *ℤ a +ℤ b *ℤ b) ≤ℤ r → (pos 1 *ℤ (a *ℤ a +ℤ b *ℤ b) -ℤ pos 2 *ℤ (pos 0 *ℤ a +ℤ pos 0 *ℤ b) +ℤ neg_ℤ r) ≤ℤ pos 0
large_value a b r h = nonneg (a ∷ b ∷ r ∷ []) (le h) (search poly depth 30) tt

pub large_feasible : (P : List Point) → Feasible P [] (large P)
large_feasible P = record {
  proper = positive_one;
  holds = λ p m. large_value p.x p.y (reach P) (reach_in P p m);
  on_boundary_is = λ q m. absurd
      (Memᴰ.not-nil m);
}

pub mtf-ran : (P : List Point) → RunCorrect 3 [] P (lifted_mtf P)
mtf-ran P = run_ran 3 [] P (large P) (large_feasible P) tt refl

-- the disk of a list of at least one point
pub mtf_strong : (p : Point) (P : List Point) → StronglyMinimal (p ∷ P) [] (lifted_mtf (p ∷ P)).disk
mtf_strong p P = found_strong (mtf-ran (p ∷ P)).disk_found (omega arith)
