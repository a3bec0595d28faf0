-- Where the text's words lead with two different points fixed: to the function's state, or to three points in a row.
--
--   InARow c       == c has E = 0, and no point is outside it
--   text_or-row    : with two different points fixed the text's words lead to the function's state, or its disk is that of three points in a row
use mathlib.Core.Path.{◌≡◌, refl, sym, ap, ◌∙◌, subst}
use mathlib.Core.Bool.{Bool, true, false, not, true≢false}
use mathlib.Core.Logic.{◌⊎◌, inl, inr, ◌≢◌}
use mathlib.Core.List.{List, [], ◌∷◌, ◌++◌}
use native.Mathlib.Omega.{arith}
use lib.IntN.{ℤ, pos, ◌*ℤ◌}
use Rattle.integers.proofs.Order.{≤_of_eq, <-≤_clash, Compared, less, same, more, compared}
use Rattle.geometry.specs.declared.Point.{Point}
use Rattle.geometry.specs.Plane.{Disk}
use Rattle.point_lists.specs.Sets.{Different}
use Rattle.disks.specs.Procedure.{Cover, disk, outside, circle, boundary_disk, State, tested, run, run_empty, run_last, mtf}
use Rattle.disks.specs.Runs.{Runs, at_once, stays, moves}
use Rattle.disks.proofs.Base.{pair_form, pair_strong, positive_not_zero}
use Rattle.disks.proofs.Triple.{turn, gx, gy, triple_form, triple_through}
use Rattle.disks.proofs.Tests.{row_weight, row-holds}
use Rattle.disks.proofs.ByText.{boundary_through, outside_different, by_last}
use Rattle.relative_disks.proofs.RelativeLaws.{weight_in}
use Rattle.fixed_points.proofs.KeptDisks.{row-circle}

-- ---- three points in a row

pub record InARow (c : Cover) : Type 0 where
  pub weightless : weight_in c ≡ 0
  pub all_held : (q : Point) → outside c q ≡ false

row_cover : (a b c : Point) → turn a b c ≡ pos 0 → InARow (disk (circle a b c))
unfolding outside
row_cover a b c h = subst (λ (k : Disk). InARow (disk k)) (sym (row-circle a b c (ap (λ (z : ℤ). pos 2 *ℤ z) h))) (record {
  weightless = row_weight (gx a b c) (gy a b c);
  all_held = λ q. ap not (row-holds (gx a b c) (gy a b c) q);
})

-- ---- the state, or such a disk

module _ (a b : Point) (different : Different (a ∷ b ∷ [])) where
  abbrev R : List Point
  R = a ∷ b ∷ []

  -- of the state t for the list P
  abbrev Leads : List Point → State → Type 0
  Leads P t = Runs R P t ⊎ InARow t.cover

  none_leads : Leads [] (mtf R [])
  none_leads = inl (subst (Runs R []) (sym (run_empty 1 R)) (at_once (inl refl) (boundary_through R (pair_form a b) (omega arith) different (pair_strong a b).feasible)))

  module _ (P : List Point) (p : Point) where
    abbrev s : State
    s = mtf R P

    abbrev again : State
    again = run 0 (p ∷ R) s.left

    -- p is outside: with it the set has three points
    moved : Runs R P s → outside s.cover p ≡ true → Leads (P ++ (p ∷ [])) (tested true s p again)
    unfolding tested boundary_disk run
    moved r o = by (compared (turn p a b) (pos 0))
      where
        apart : turn p a b ≢ pos 0 → Leads (P ++ (p ∷ [])) (tested true s p again)
        apart n = inl (moves {R = R} p (omega arith) r o
            (at_once (inr refl) (boundary_through (p ∷ R) (triple_form p a b) (omega arith) (outside_different r o different) (triple_through p a b n))))

        by : Compared (turn p a b) (pos 0) → Leads (P ++ (p ∷ [])) (tested true s p again)
        by (less h) = apart (λ e. <-≤_clash h (≤_of_eq (sym e)))
        by (same h) = inr (row_cover p a b h)
        by (more h) = apart (positive_not_zero h)

    last_leads : Leads P s → Leads (P ++ (p ∷ [])) (mtf R (P ++ (p ∷ [])))
    unfolding tested
    last_leads l = subst (Leads (P ++ (p ∷ []))) (sym (run_last 0 R P p)) (by (outside s.cover p) refl l)
      where
        by : (t : Bool) → outside s.cover p ≡ t → Leads P s → Leads (P ++ (p ∷ [])) (tested t s p again)
        by false o (inl r) = inl (stays {R = R} p (omega arith) r o)
        by false o (inr h) = inr h
        by true o (inl r) = moved r o
        by true o (inr h) = absurd (true≢false (sym o ∙ h.all_held p))

  pub text_or-row : (P : List Point) → Leads P (mtf R P)
  text_or-row = by_last (λ P. Leads P (mtf R P)) none_leads last_leads
