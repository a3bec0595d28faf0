-- The procedure of specs/Procedure.antt keeps the text's rule (specs/Runs.antt).
--
--   boundary_through  : `boundary_disk R` is the smallest disk with R on its boundary, if there is any
--   through_boundary  : and no other is
--   runs-through      : a state that the text leads to has R on its boundary
--   outside_different : so a point outside is none of R
--   runs-mtf          : it is the function's
--   by_last           : what holds of no point, and of one point more behind a list, holds of every list
--   run_by_text       : a run for which some disk is feasible is a run by the text's rule
--   by_text           : ByText
use mathlib.Core.Path.{◌≡◌, refl, sym, ◌∙◌, ap, subst}
use mathlib.Core.Logic.{inl, inr}
use mathlib.Core.Bool.{Bool, true, false, not, true≢false}
use mathlib.Core.List.Memᴰ
use mathlib.Core.List.{List, [], ◌∷◌, ◌++◌, append_assoc, append-nil}
use Prim.Native.Nat.{ℕ, zero, suc, ◌+◌, ◌-◌, ◌≤◌}
use native.Mathlib.Omega.{arith}
use lib.ListN.{length}
use lib.IntN.{pos}
use lib.Signed.{◌<ℤ◌}
use Rattle.integers.proofs.Bounds.{lt_true}
use Rattle.integers.proofs.Order.{≤_of_eq}
use Rattle.integers.proofs.Tests.{test_true}
use Rattle.geometry.specs.declared.Point.{Point}
use Rattle.geometry.specs.Plane.{Disk, holds, on_boundary}
use Rattle.point_lists.specs.Sets.{In, Different}
use Rattle.point_lists.proofs.Sets.{same_refl}
use Rattle.disks.specs.Procedure.{Cover, disk, outside, State, boundary_disk, tested, run, run_empty, run_full, run_last, mtf_empty}
use Rattle.disks.specs.Runs.{SmallestThrough, none, some, Runs, at_once, stays, moves, ByText}
use Rattle.disks.proofs.Lifted.{Lifted, value}
use Rattle.disks.proofs.Minimal.{Feasible}
use Rattle.disks.proofs.LiftedProcedure.{LiftedState, lifted_outside, run_with}
use Rattle.disks.proofs.Correct.{RunCorrect, inner_feasible, inner_different, feasible_front, run_ran, large_feasible}
use Rattle.disks.proofs.Bridge.{Agree, outside_cover, run_agree}
use Rattle.disks.proofs.StrongSmallest.{lift, lift_feasible}
use Rattle.disks.proofs.OneWriting.{rational, fits_own}
use Rattle.disks.proofs.Welzl.{feasible_disk, feasible_smallest}
use Rattle.disks.proofs.OneResult.{through_same, runs_same}

-- ---- the disks with R on the boundary

pub boundary_through : (R : List Point) (W : Lifted) → length R ≤ 3 → Different R → Feasible [] R W → SmallestThrough R (boundary_disk R)
unfolding boundary_disk
boundary_through [] W h d f = none
boundary_through (a ∷ R) W h d f =
    subst (SmallestThrough (a ∷ R))
    (sym (feasible_disk (a ∷ R) [] h d (omega arith) W f) ∙ ap (λ (s : State). s.cover) (mtf_empty (a ∷ R)))
    (some (omega arith) (feasible_smallest (a ∷ R) [] h d (omega arith) W f))

through_boundary : {R : List Point} {c : Cover} → length R ≤ 3 → Different R → SmallestThrough R c → c ≡ boundary_disk R
unfolding boundary_disk
through_boundary h d none = refl
through_boundary {R} h d (some {d = k} n m) = through_same (some n m)
    (boundary_through R (lift (rational k m.proper)) h d
    (lift_feasible {c = rational k m.proper} (fits_own (same_refl []) (same_refl R) m))) refl

-- ---- the boundary of a state that the text leads to

on_held : (d : Disk) (q : Point) → on_boundary d q → outside (disk d) q ≡ false
unfolding outside holds
on_held d q e = ap not (test_true (holds d q) (≤_of_eq e).le)

through_held : {R : List Point} {c : Cover} → SmallestThrough R c → (q : Point) → In q R → outside c q ≡ false
through_held none q m = absurd (Memᴰ.not-nil m)
through_held (some {d = d} h m) q i = on_held d q (m.through_all q i)

runs-through : {R P : List Point} {s : State} → Runs R P s → (q : Point) → In q R → outside s.cover q ≡ false
runs-through (at_once h b) q m = through_held b q m
runs-through (stays p h r o) q m = runs-through r q m
runs-through (moves p h r o a) q m = runs-through a q (Memᴰ.tail m)

pub outside_different : {R P : List Point} {s : State} {p : Point} → Runs R P s → outside s.cover p ≡ true → Different R → Different (p ∷ R)
outside_different {p} r o d = ((λ m. true≢false (sym o ∙ runs-through r p m)), d)

-- ---- the state is the function's

-- one more point: its test against s, and the state with p added to R, are those of the run
same_last : (k : ℕ) (R P : List Point) (p : Point) (b : Bool) (s again : State) → s ≡ run (suc k) R P → outside s.cover p ≡ b
    → again ≡ run k (p ∷ R) s.left → tested b s p again ≡ run (suc k) R (P ++ (p ∷ []))
same_last k R P p b s again e o f =
    ap (tested b s p) f
    ∙ ap (λ (t : Bool). tested t s p (run k (p ∷ R) s.left)) (sym o)
    ∙ ap (λ (u : State). tested (outside u.cover p) u p (run k (p ∷ R) u.left)) e
    ∙ sym (run_last k R P p)

runs-mtf : {R P : List Point} {s : State} (k : ℕ) → length R + k ≡ 3 → Different R → Runs R P s → s ≡ run k R P
unfolding tested
runs-mtf {R} k size d (at_once (inl e) b) =
    (λ i. record { cover = through_boundary (omega arith) d b i; tests = 0; left = e i }) ∙ sym (run_empty k R) ∙ ap (run k R) (sym e)
runs-mtf {R} {P} zero size d (at_once (inr e) b) =
    (λ i. record { cover = through_boundary (omega arith) d b i; tests = 0; left = P }) ∙ sym (run_full R P)
runs-mtf (suc k) size d (at_once (inr e) b) = absurd (omega arith)
runs-mtf zero size d (stays p h r o) = absurd (omega arith)
runs-mtf {R} (suc k) size d (stays {P = P} {s = s} p h r o) =
    same_last k R P p false s (run k (p ∷ R) s.left) (runs-mtf (suc k) size d r) o refl
runs-mtf zero size d (moves p h r o a) = absurd (omega arith)
runs-mtf {R} (suc k) size d (moves {P = P} {s = s} {again = again} p h r o a) =
    same_last k R P p true s again (runs-mtf (suc k) size d r) o (runs-mtf k (omega arith) (outside_different r o d) a)

-- ---- the function's run is the text's

pub by_last : (Z : List Point → Type 0) → Z [] → ((P : List Point) (p : Point) → Z P → Z (P ++ (p ∷ []))) → (P : List Point) → Z P
by_last Z z f P = go [] P z
  where
    go : (Q ps : List Point) → Z Q → Z (Q ++ ps)
    go Q [] h = subst Z (sym (append-nil Q)) h
    go Q (p ∷ ps) h = subst Z (append_assoc Q (p ∷ []) ps) (go (Q ++ (p ∷ [])) ps (f Q p h))

abbrev RunsByText : ℕ → Type 0
RunsByText k = (R P : List Point) (W : Lifted) → Feasible P R W → Different R → length R + k ≡ 3 → Runs R P (run k R P)

module _ (k : ℕ) (R : List Point) (W : Lifted) (inner : RunsByText k) (d : Different R) (size : length R + suc k ≡ 3) where
  -- the run on P, and on P with p behind
  module _ (P : List Point) (p : Point) (f : Feasible (P ++ (p ∷ [])) R W) where
    abbrev s : State
    s = run (suc k) R P

    abbrev t : LiftedState
    t = run_with (suc k) R P

    agree : Agree s t
    agree = run_agree (suc k) R P W (feasible_front P (p ∷ []) f) d size

    ran : RunCorrect (suc k) R P t
    ran = run_ran (suc k) R P W (feasible_front P (p ∷ []) f) d size

    beyond : outside s.cover p ≡ true → pos 0 <ℤ value t.disk p
    unfolding lifted_outside
    beyond o = lt_true (pos 0) (value t.disk p)
        (sym (ap (λ (c : Cover). outside c p) agree.cover_is ∙ outside_cover ran.disk_found p) ∙ o)

    again : outside s.cover p ≡ true → Runs (p ∷ R) s.left (run k (p ∷ R) s.left)
    again o = subst (λ (l : List Point). Runs (p ∷ R) l (run k (p ∷ R) l)) (sym agree.left_is)
        (inner (p ∷ R) t.left _ (inner_feasible k R P p t W (run_ran k) size d f ran (beyond o))
        (inner_different k R P p t W (run_ran k) size d f ran (beyond o)) (omega arith))

    last : Runs R P s → Runs R (P ++ (p ∷ [])) (run (suc k) R (P ++ (p ∷ [])))
    unfolding tested
    last r = subst (Runs R (P ++ (p ∷ []))) (sym (run_last k R P p)) (go (outside s.cover p) refl)
      where
        go : (b : Bool) → outside s.cover p ≡ b → Runs R (P ++ (p ∷ [])) (tested b s p (run k (p ∷ R) s.left))
        go true o = moves {R = R} p (omega arith) r o (again o)
        go false o = stays {R = R} p (omega arith) r o

  listed : (P : List Point) → Feasible P R W → Runs R P (run (suc k) R P)
  listed = by_last (λ P. Feasible P R W → Runs R P (run (suc k) R P))
      (λ f. subst (Runs R []) (sym (run_empty (suc k) R)) (at_once (inl refl) (boundary_through R W (omega arith) d f)))
      (λ P p h f. last P p f (h (feasible_front P (p ∷ []) f)))

run_by_text : (k : ℕ) → RunsByText k
unfolding run
run_by_text zero R P W f d size = at_once {R = R} (inr (omega arith)) (boundary_through R W (omega arith) d (feasible_front [] P f))
run_by_text (suc k) R P W f d size = listed k R W (run_by_text k) d size P f

-- ---- what specs/ states

pub by_text : ByText
by_text = record {
  runs = λ P. run_by_text 3 [] P _ (large_feasible P) tt refl;
  runs_with = λ R P h d c f. run_by_text (3 - length R) R P (lift c) (lift_feasible f) d (omega arith);
  one_result = λ R P s t r q. runs_same r q refl refl;
  complete = λ R P s h d r. runs-mtf (3 - length R) (omega arith) d r;
}
