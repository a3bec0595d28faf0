-- What the disk that the procedure ends on for some of the points says of them, and of all.
--
--   members_most            : R has at most three points
--   flat_none, outside_none : where it has no positive e, or a point is outside, no disk fits
--   held_found              : else it is the smallest disk that fits
--   found_held              : and none of the points is outside
--   found_more, none_more   : a disk that is the smallest for some of the points and holds all is the smallest for all; where none fits some, none fits all
use mathlib.Core.Path.{◌≡◌, refl, sym, ◌∙◌, ap, subst}
use mathlib.Core.Bool.{true, false, not, true≢false}
use mathlib.Core.List.{List}
use Prim.Native.Nat.{ℕ, zero, suc, ◌-◌, ◌≤◌}
use native.Mathlib.Omega.{arith}
use borrow.Author.Tests.{not-false}
use lib.Dec.{T}
use lib.IntN.{pos}
use lib.ListN.{length}
use lib.Signed.{◌≤ℤ◌, ◌<ℤ◌}
use Rattle.integers.proofs.Tests.{test_true, true_test}
use Rattle.integers.proofs.Order.{<-≤_clash}
use Rattle.geometry.specs.declared.Point.{Point}
use Rattle.geometry.specs.Plane.{Disk, holds, on_boundary}
use Rattle.point_lists.specs.Sets.{In, Different}
use Rattle.disks.specs.Smallest.{RationalDisk, Fits, SmallestWith}
use Rattle.disks.specs.Procedure.{Cover, disk, outside, mtf, disk_in}
use Rattle.disks.proofs.OneWriting.{rational, rational_fits}
use Rattle.disks.proofs.Welzl.{mtf-disk, mtf_smallest}
use Rattle.relative_disks.specs.declared.RelativeDisk.{RelativeDisk}
use Rattle.relative_disks.specs.Relative.{is_outside, in_lowest_terms, proper, Keeps}
use Rattle.relative_disks.proofs.RelativeLaws.{outside_kept, weight_in, Proper, stands_proper, stands_weight}
use Rattle.fixed_points.specs.declared.Boundary.{Boundary}
use Rattle.fixed_points.specs.declared.Boundary.TheVariants.{None, One, Two, Three}
use Rattle.fixed_points.specs.Boundary.{members, Boxed}
use Rattle.fitting.specs.Decides.{Found, NoneFits}
use Rattle.fixed_points.proofs.OnBoundary.{run_on}

pub members_most : (R : Boundary) → length (members R) ≤ 3
members_most None = omega arith
members_most (One a) = omega arith
members_most (Two a b) = omega arith
members_most (Three a b c) = omega arith

not_zero : (n : ℕ) → (n ≡ 0 → ⊥) → 1 ≤ n
not_zero zero h = absurd (h refl)
not_zero (suc n) h = omega arith

-- ---- outside, by the text's disk

module _ {d : RelativeDisk} {k : Disk} (keeps : Keeps d (disk k)) (p : Point) {P : List Point} (boxed : Boxed P) (i : In p P) where
  held_not_outside : T (holds k p) → is_outside d p ≡ false
  unfolding outside
  held_not_outside h = sym (outside_kept keeps p (boxed.in_box p i)) ∙ ap not (test_true (holds k p) h)

  not_outside_held : is_outside d p ≡ false → T (holds k p)
  unfolding outside
  not_outside_held h = true_test (not-false (holds k p) (outside_kept keeps p (boxed.in_box p i) ∙ h))

-- ---- some of the points

module _ (R Q : List Point) (most : length R ≤ 3) (some : 1 ≤ length R) (different : Different R) (boxed : Boxed Q) (d : RelativeDisk)
    (keeps : Keeps d (mtf R Q).cover) where
  keeps_disk : {k : Disk} → (mtf R Q).cover ≡ disk k → Keeps d (disk k)
  keeps_disk is = subst (Keeps d) is keeps

  module _ (c : RationalDisk) (f : Fits c Q R) where
    smallest : SmallestWith Q R (disk_in (mtf R Q).cover)
    smallest = mtf_smallest R Q most different (omega arith) c f

    is : (mtf R Q).cover ≡ disk (disk_in (mtf R Q).cover)
    is = mtf-disk R Q most different (omega arith) c f

    has_weight : pos 0 <ℤ d.e
    has_weight = (stands_proper keeps.stands (subst (λ (x : Cover). 1 ≤ weight_in x) (sym is) smallest.proper)).positive_e

    none_outside : (p : Point) → In p Q → is_outside d p ≡ false
    none_outside p i = held_not_outside (keeps_disk is) p boxed i (smallest.holds_all p i)

  pub flat_none : d.e ≤ℤ pos 0 → NoneFits R Q
  flat_none h c f = <-≤_clash (has_weight c f) h

  pub outside_none : (p : Point) → In p Q → is_outside d p ≡ true → NoneFits R Q
  outside_none p i h c f = true≢false (sym h ∙ none_outside c f p i)

  module _ (h : pos 0 <ℤ d.e) (held : (p : Point) → In p Q → is_outside d p ≡ false) where
    written : Proper d (mtf R Q).cover
    written = stands_proper keeps.stands (not_zero (weight_in (mtf R Q).cover) (stands_weight keeps.stands h))

    abbrev D : Disk
    D = in_lowest_terms d

    some_weight : 1 ≤ D.e
    some_weight = subst (λ (x : Cover). 1 ≤ weight_in x) written.written (not_zero (weight_in (mtf R Q).cover) (stands_weight keeps.stands h))

    on : (q : Point) → In q R → on_boundary D q
    on q i = run_on (3 - length R) R Q (omega arith) q i D written.written some_weight

    fits : Fits (rational D some_weight) Q R
    fits = rational_fits D some_weight (λ p i. not_outside_held (keeps_disk written.written) p boxed i (held p i)) on

    pub held_found : Found R Q d
    held_found = record {
      small = keeps.small;
      proper = h;
      smallest = subst (SmallestWith Q R) (ap disk_in written.written) (smallest (rational D some_weight) fits);
    }

-- ---- and all

module _ {R Q : List Point} {d : RelativeDisk} (f : Found R Q d) where
  keeps_found : Keeps d (disk (in_lowest_terms d))
  keeps_found = record { small = f.small; stands = proper f.proper refl }

  pub found_held : Boxed Q → (p : Point) → In p Q → is_outside d p ≡ false
  found_held boxed p i = held_not_outside keeps_found p boxed i (f.smallest.holds_all p i)

  pub found_more : {P : List Point} → ((p : Point) → In p Q → In p P) → Boxed P → ((p : Point) → In p P → is_outside d p ≡ false) → Found R P d
  found_more {P} among boxed held = record {
    small = f.small;
    proper = f.proper;
    smallest = record {
      proper = f.smallest.proper;
      lowest = f.smallest.lowest;
      holds_all = λ p i. not_outside_held keeps_found p boxed i (held p i);
      through_all = f.smallest.through_all;
      least = λ c k. f.smallest.least c (fewer c k);
      only = λ c k. f.smallest.only c (fewer c k);
    };
  }
    where
      fewer : (c : RationalDisk) → Fits c P R → Fits c Q R
      fewer c k = record { holds_all = λ p i. k.holds_all p (among p i); through_all = k.through_all }

pub none_more : {R Q P : List Point} → ((p : Point) → In p Q → In p P) → NoneFits R Q → NoneFits R P
none_more among n c k = n c (record { holds_all = λ p i. k.holds_all p (among p i); through_all = k.through_all })
