-- The chosen points, and the row of checks.
--
--   fixed_some, fixed_most, fixed_different : the set to fix has a point, not more than three, and none twice
--   fixed_same                   : it has the points that were chosen
--   through_refused, by_chosen, through_absent, through_present : the answer by the first check that refuses
--   chosen-boxed                 : chosen points of the list lie in the em box
use mathlib.Core.Path.{◌≡◌, refl, sym, ap, ◌∙◌}
use mathlib.Core.Bool.{Bool, true, false, not, true≢false}
use mathlib.Core.List.Memᴰ
use mathlib.Core.List.{List, [], ◌∷◌}
use Prim.Native.Nat.{ℕ, ◌≤◌}
use native.Mathlib.Omega.{arith}
use lib.IntN.{ℤ}
use lib.ListN.{length}
use Rattle.answers.specs.Outcome.{Outcome, given, refused, refuse_if, and_then}
use Rattle.geometry.specs.declared.Point.{Point}
use Rattle.geometry.specs.Plane.{Disk}
use Rattle.geometry.specs.EmBox.{all_in_em_box}
use Rattle.geometry.specs.Points.{points}
use Rattle.point_lists.specs.Sets.{In, Same, Different, same, has, all_of}
use Rattle.point_lists.proofs.Sets.{none_of, also, same_refl}
use Rattle.point_lists.proofs.SamePoint as one
use Rattle.point_lists.proofs.SetTests.{has_in, all_in}
use Rattle.fixed_points.specs.Boundary.{Boxed}
use Rattle.inner_level.proofs.RanLaws.{all_boxed}
use Rattle.engine.specs.Engine.{Enclosure, enclose_of}
use Rattle.fitting.specs.Fitting.{fitting_disk}
use Rattle.chosen_points.specs.declared.Chosen.{Chosen}
use Rattle.chosen_points.specs.declared.Chosen.TheVariants.{One, Two}
use Rattle.chosen_points.specs.Chosen.{chosen, once, fixed, through_of}

-- ---- the set to fix

once_some : (t : Bool) (p q : Point) → 1 ≤ length (once t p q)
once_some true p q = omega arith
once_some false p q = omega arith

pub fixed_some : (c : Chosen) → 1 ≤ length (fixed c)
fixed_some (One p) = omega arith
fixed_some (Two p q) = once_some (same p q) p q

once_most : (t : Bool) (p q : Point) → length (once t p q) ≤ 3
once_most true p q = omega arith
once_most false p q = omega arith

pub fixed_most : (c : Chosen) → length (fixed c) ≤ 3
fixed_most (One p) = omega arith
fixed_most (Two p q) = once_most (same p q) p q

equal : (p q : Point) → p ≡ q → same p q ≡ true
equal p q e = rw (← e) (one.same_refl p)

once_different : (t : Bool) (p q : Point) → same p q ≡ t → Different (once t p q)
once_different true p q e = ((λ m. Memᴰ.not-nil m), tt)
once_different false p q e = ((λ m. true≢false (sym (equal p q (Memᴰ.eq_of_singleton m)) ∙ e)), ((λ m. Memᴰ.not-nil m), tt))

pub fixed_different : (c : Chosen) → Different (fixed c)
fixed_different (One p) = ((λ m. Memᴰ.not-nil m), tt)
fixed_different (Two p q) = once_different (same p q) p q refl

once_same : (t : Bool) (p q : Point) → same p q ≡ t → Same (once t p q) (p ∷ q ∷ [])
once_same true p q e = record {
  to = λ r m. Memᴰ.head (Memᴰ.eq_of_singleton m);
  from = also On (Memᴰ.head refl) (also On (Memᴰ.head (sym (one.same_eq p q e))) (none_of On));
}
  where
    On : Point → Type 0
    On r = In r (p ∷ [])
once_same false p q e = same_refl (p ∷ q ∷ [])

pub fixed_same : (c : Chosen) → Same (fixed c) (chosen c)
fixed_same (One p) = same_refl (p ∷ [])
fixed_same (Two p q) = once_same (same p q) p q refl

-- ---- the checks

module _ (l : List ℤ) (c : Chosen) where
  abbrev then : Outcome Enclosure → Outcome Disk
  then o = and_then o (λ e. refuse_if (not (all_of (has (points l)) (chosen c))) 12 (fitting_disk (points l) (fixed c)))

  pub through_refused : {n : ℕ} → enclose_of l ≡ refused n → through_of l c ≡ refused n
  unfolding through_of
  through_refused e = ap then e

  module _ {e : Enclosure} (accepted : enclose_of l ≡ given e) where
    pub by_chosen : through_of l c ≡ refuse_if (not (all_of (has (points l)) (chosen c))) 12 (fitting_disk (points l) (fixed c))
    unfolding through_of
    by_chosen = ap then accepted

    by_test : (b : Bool) → all_of (has (points l)) (chosen c) ≡ b → through_of l c ≡ refuse_if (not b) 12 (fitting_disk (points l) (fixed c))
    by_test b h = by_chosen ∙ ap (λ (t : Bool). refuse_if (not t) 12 (fitting_disk (points l) (fixed c))) h

    pub through_absent : all_of (has (points l)) (chosen c) ≡ false → through_of l c ≡ refused 12
    through_absent h = by_test false h

    pub through_present : all_of (has (points l)) (chosen c) ≡ true → through_of l c ≡ fitting_disk (points l) (fixed c)
    through_present h = by_test true h

  pub chosen-boxed : all_in_em_box (points l) ≡ true → all_of (has (points l)) (chosen c) ≡ true → Boxed (fixed c)
  chosen-boxed box h = record {
    in_box = λ p m. (all_boxed (points l) box).in_box p (has_in (points l) p (all_in (has (points l)) (chosen c) h p ((fixed_same c).to p m)));
  }
