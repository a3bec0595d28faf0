-- Whether some disk holds P with R on its boundary: the disk of the procedure tells. R has one to three points, none twice.
--
--   rational_by        : a disk that passes the test `fits`, among the rational disks
--   some_passes        : where some disk fits, the procedure's passes the test
--   smallest_given     : the smallest disk is the one of the definition
--   none_refused       : where no disk fits, the definition refuses
--   given_smallest, refused_none : and only then
--   weight_most        : E is at most the em's largest, of points of the em box
use mathlib.Core.Path.{◌≡◌, refl, sym, ◌∙◌, ap, subst}
use mathlib.Core.Bool.{Bool, true, false, not, true≢false}
use mathlib.Core.List.{List}
use Prim.Native.Nat.{◌-◌, ◌≤◌}
use native.Mathlib.Omega.{arith}
use borrow.Author.Tests.{ltb-true, lt-ltb}
use lib.Dec.{T, ltb}
use lib.IntN.{ℤ, pos}
use lib.ListN.{length}
use lib.Signed.{◌≤ℤ◌}
use Rattle.integers.proofs.Tests.{first, rest, both, test_true, true_test}
use Rattle.integers.proofs.Order.{eq_z_eq, eq_eq_z, le_pos}
use Rattle.answers.specs.Outcome.{given, refused, refuse_if}
use Rattle.answers.proofs.OutcomeLaws.{not_given, given_same}
use Rattle.geometry.specs.declared.Point.{Point}
use Rattle.geometry.specs.EmBox.{em, in_em_box}
use Rattle.geometry.specs.Plane.{Disk, distance, holds, on_boundary}
use Rattle.point_lists.specs.Sets.{In, Different, all_of}
use Rattle.point_lists.proofs.Sets.{same_refl}
use Rattle.point_lists.proofs.SetTests.{all_in, in_all}
use Rattle.disks.specs.Smallest.{RationalDisk, Fits, SmallestWith}
use Rattle.disks.specs.Procedure.{Cover, empty, disk, mtf, disk_in}
use Rattle.disks.proofs.Lifted.{Lifted}
use Rattle.disks.proofs.LiftedProcedure.{lifted_run}
use Rattle.disks.proofs.LowestTerms.{lowered}
use Rattle.disks.proofs.StrongSmallest.{lift, lift_feasible, some_positive}
use Rattle.disks.proofs.Bridge.{strong_written}
use Rattle.disks.proofs.RunWeight.{run_weight}
use Rattle.disks.proofs.Answer.{side, em_square, in_square, no_more}
use Rattle.disks.proofs.OneWriting.{rational, rational_fits, fits_own, smallest_same}
use Rattle.disks.proofs.Welzl.{strong, cover_is, mtf-disk, mtf_smallest}
use Rattle.fitting.specs.Fitting.{is_on, fits, fitting_disk}
use Rattle.fitting.specs.Decides.{NoneFits}

-- ---- the test as facts

on_true : (d : Disk) (q : Point) → is_on d q ≡ true → on_boundary d q
unfolding is_on
on_true d q h = eq_z_eq (distance d q) (pos d.s) (true_test h)

true_on : (d : Disk) (q : Point) → on_boundary d q → is_on d q ≡ true
unfolding is_on
true_on d q h = test_true (is_on d q) (eq_eq_z (distance d q) (pos d.s) h)

smallest_fits : {P R : List Point} {d : Disk} → SmallestWith P R d → fits (disk d) P R ≡ true
unfolding fits
smallest_fits {P} {R} {d} m =
    both (lt-ltb 0 d.e m.proper)
    (both (in_all (holds d) P (λ p i. test_true (holds d p) (m.holds_all p i))) (in_all (is_on d) R (λ q i. true_on d q (m.through_all q i))))

pub rational_by : (c : Cover) (P R : List Point) → fits c P R ≡ true → (k : RationalDisk) × Fits k P R
unfolding fits
rational_by empty P R h = absurd (true≢false (sym h))
rational_by (disk d) P R h =
    let tests = rest (ltb 0 d.e) _ h in
    let proper = ltb-true 0 d.e (first (ltb 0 d.e) _ h) in (
      rational d proper,
      rational_fits d proper (λ p i. true_test (all_in (holds d) P (first (all_of (holds d) P) (all_of (is_on d) R) tests) p i))
          (λ q i. on_true d q (all_in (is_on d) R (rest (all_of (holds d) P) (all_of (is_on d) R) tests) q i)),
    )

-- ---- the definition

module _ (R P : List Point) (most : length R ≤ 3) (some : 1 ≤ length R) (different : Different R) where
  abbrev c : Cover
  c = (mtf R P).cover

  by_test : (b : Bool) → fits c P R ≡ b → fitting_disk P R ≡ refuse_if (not b) 13 (given (disk_in c))
  unfolding fitting_disk
  by_test b h = ap (λ (t : Bool). refuse_if (not t) 13 (given (disk_in c))) h

  module _ (k : RationalDisk) (f : Fits k P R) where
    smallest_here : SmallestWith P R (disk_in c)
    smallest_here = mtf_smallest R P most different (omega arith) k f

    pub some_passes : fits c P R ≡ true
    some_passes = ap (λ (x : Cover). fits x P R) (mtf-disk R P most different (omega arith) k f) ∙ smallest_fits smallest_here

    gives : fitting_disk P R ≡ given (disk_in c)
    gives = by_test true some_passes

    pub weight_most : ((p : Point) → In p R → T (in_em_box p)) → ((p : Point) → In p P → T (in_em_box p)) → (disk_in c).e ≤ em.scale
    weight_most r b =
        let F : Lifted = (lifted_run R P).disk in
        let w = strong_written (strong R P most different (omega arith) (lift k) (lift_feasible f)) in
        let heavy = (run_weight em.left em.foot (side em) em_square.some (3 - length R) R P (λ p i. in_square em em_square p (r p i))
        (λ p i. in_square em em_square p (b p i))).weight in
        subst (λ (d : Disk). d.e ≤ em.scale) (ap disk_in (sym (cover_is R P most different (omega arith) (lift k) (lift_feasible f))))
        (le_pos (no_more (pos em.scale) (pos w.g) F.e (lowered F).e (some_positive w.g_some) w.e_is
        (subst (λ (z : ℤ). F.e ≤ℤ z) em_square.scale_is heavy)))

  pub smallest_given : {d : Disk} → SmallestWith P R d → fitting_disk P R ≡ given d
  smallest_given {d} m =
      let f = fits_own (same_refl P) (same_refl R) m in
      gives (rational d m.proper) f ∙ ap given (smallest_same (same_refl P) (same_refl R) (smallest_here (rational d m.proper) f) m)

  some_here : fits c P R ≡ true → (k : RationalDisk) × Fits k P R
  some_here = rational_by c P R

  pub none_refused : NoneFits R P → fitting_disk P R ≡ refused 13
  none_refused none = go (fits c P R) refl
    where
      go : (b : Bool) → fits c P R ≡ b → fitting_disk P R ≡ refused 13
      go true h = let (k, f) = some_here h in absurd (none k f)
      go false h = by_test false h

  pub refused_none : fitting_disk P R ≡ refused 13 → NoneFits R P
  refused_none h k f = not_given (sym h ∙ gives k f)

  pub given_smallest : {d : Disk} → fitting_disk P R ≡ given d → (k : RationalDisk) × Fits k P R × (disk_in c ≡ d) × SmallestWith P R d
  given_smallest {d} h = go (fits c P R) refl
    where
      go : (b : Bool) → fits c P R ≡ b → (k : RationalDisk) × Fits k P R × (disk_in c ≡ d) × SmallestWith P R d
      go true e =
          let (k, f) = some_here e in
          let is : disk_in c ≡ d = given_same (sym (by_test true e) ∙ h) in
          (k, f, is, subst (SmallestWith P R) is (smallest_here k f))
      go false e = absurd (not_given (sym (by_test false e) ∙ h))
