-- The level with two points fixed keeps its promise by itself (specs/InnerLevel.antt).
--
--   runs_proper   : where the text's words lead to a state from a set that is not empty, its disk has an E of at least 1
--   all_once      : with two points fixed each point is tested once
--   inner_level   : InnerLevel
use mathlib.Core.Path.{◌≡◌, refl, sym, ◌∙◌, subst}
use mathlib.Core.Bool.{Bool, true, false}
use mathlib.Core.Logic.{◌⊎◌, inl, inr}
use mathlib.Core.List.Memᴰ
use mathlib.Core.List.{List, [], ◌∷◌, Permᴰ}
use Prim.Native.Nat.{ℕ, ◌+◌, ◌≤◌}
use native.Mathlib.Omega.{arith}
use lib.IntN.{ℤ, pos}
use lib.Signed.{◌<ℤ◌}
use lib.ListN.{length}
use Rattle.geometry.specs.declared.Point.{Point}
use Rattle.geometry.specs.Points.{first_points}
use Rattle.geometry.proofs.PointLists.{length-first_points}
use Rattle.point_lists.specs.Sets.{Different}
use Rattle.disks.specs.Smallest.{RationalDisk, Fits, SmallestWith}
use Rattle.disks.specs.Procedure.{Cover, State, outside, tested, step, through, run, start, mtf, disk_in}
use Rattle.disks.specs.Runs.{SmallestThrough, none, some, Runs, at_once, stays, moves}
use Rattle.disks.proofs.EveryRun.{run_permuted}
use Rattle.disks.proofs.Welzl.{mtf_smallest}
use Rattle.disks.proofs.ByText.{by_text}
use Rattle.relative_disks.specs.declared.RelativeDisk.{RelativeDisk}
use Rattle.relative_disks.proofs.RelativeLaws.{weight_in, Proper, stands_proper, stands_weight}
use Rattle.fixed_points.specs.declared.Boundary.TheVariants.{Two}
use Rattle.inner_level.specs.Ran.{Given, Ran}
use Rattle.inner_level.proofs.RanLaws.{ran_left, ran_rest}
use Rattle.requests.specs.InnerLevel.{end_state, ByItself, InnerLevel}
use Rattle.requests.proofs.TextLeads.{InARow, text_or-row}

through_proper : {R : List Point} {c : Cover} → SmallestThrough R c → 1 ≤ length R → 1 ≤ weight_in c
through_proper none h = absurd (omega arith)
through_proper (some l s) h = s.proper

runs_proper : {R P : List Point} {s : State} → Runs R P s → 1 ≤ length R → 1 ≤ weight_in s.cover
runs_proper (at_once e t) h = through_proper t h
runs_proper (stays p l r o) h = runs_proper r h
runs_proper (moves p l r o again) h = runs_proper again (omega arith)

module _ (a b : Point) where
  abbrev R : List Point
  R = a ∷ b ∷ []

  -- ---- the count

  one_more : (t : Bool) (s : State) (p : Point) → (tested t s p (run 0 (p ∷ R) s.left)).tests ≡ s.tests + 1
  unfolding tested run
  one_more true s p = omega arith
  one_more false s p = refl

  each_once : (s : State) (P : List Point) → (through (step (run 0) R) s P).tests ≡ s.tests + length P
  unfolding through step
  each_once s [] = omega arith
  each_once s (p ∷ P) = omega (arith, each_once (step (run 0) R s p) P, one_more (outside s.cover p) s p)

  all_once : (P : List Point) → (mtf R P).tests ≡ length P
  unfolding run
  all_once P = omega (arith, each_once (start R []) P)

  -- ---- the promise

  module _ (differ : a ≡ b → ⊥) (n : ℕ) (before after : List ℤ) (d : RelativeDisk) (tests : ℕ) (given : Given (Two a b) n before)
      (ran : Ran (Two a b) n before after d tests) where
    abbrev P : List Point
    P = first_points n before

    different : Different R
    different = ((λ m. differ (Memᴰ.eq_of_singleton m)), ((λ m. Memᴰ.not-nil m), tt))

    order : first_points n after ≡ (mtf R P).left
    order = ran_left (Two a b) n before after d tests given.fits ran

    -- where the function's disk has an E of at least 1
    ended : 1 ≤ weight_in (mtf R P).cover → Proper d (mtf R P).cover
    ended h = stands_proper ran.disk_is.stands h

    state_is : Proper d (mtf R P).cover → mtf R P ≡ end_state n after d tests
    state_is w = λ i. record { cover = w.written i; tests = sym ran.tests_is i; left = sym order i }

    led : (s : State) → Runs R P s → Proper d (mtf R P).cover
    led s r = ended (subst (λ (t : State). 1 ≤ weight_in t.cover) (by_text.complete R P s (omega arith) different r) (runs_proper r (omega arith)))

    leads : pos 0 <ℤ d.e → Runs R P (end_state n after d tests)
    leads h = go (text_or-row a b different P)
      where
        go : Runs R P (mtf R P) ⊎ InARow (mtf R P).cover → Runs R P (end_state n after d tests)
        go (inl r) = subst (Runs R P) (state_is (led (mtf R P) r)) r
        go (inr row) = absurd (stands_weight ran.disk_is.stands h row.weightless)

    module _ (c : RationalDisk) (fits : Fits c P R) where
      runs : Runs R P (mtf R P)
      runs = by_text.runs_with R P (omega arith) different c fits

      smallest : SmallestWith P R (disk_in (end_state n after d tests).cover)
      smallest =
          subst (λ (s : State). SmallestWith P R (disk_in s.cover)) (state_is (led (mtf R P) runs))
          (mtf_smallest R P (omega arith) different (omega arith) c fits)

    by_itself : ByItself a b n before after d tests
    by_itself = record {
      smallest = smallest;
      by_text = λ s. (
        (λ r. ((led s r).positive_e, by_text.complete R P s (omega arith) different r ∙ state_is (led s r))),
        (λ h. subst (Runs R P) (sym h.1) (leads h.0)),
      );
      disk_there = λ c fits. (led (mtf R P) (runs c fits)).positive_e;
      tests_are = ran.tests_is;
      order_is = order;
      tested_once = ran.tests_is ∙ all_once P ∙ length-first_points n before given.fits;
      permuted = subst (λ (Q : List Point). Permᴰ Q P) (sym order) (run_permuted 1 R P);
      behind = ran_rest (Two a b) n before after d tests given.fits ran;
    }

pub inner_level : InnerLevel
inner_level = by_itself
