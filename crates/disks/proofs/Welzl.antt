-- Welzl's theorem: what the procedure of specs/ gives (000; demands 2 and 3).
--
--   mtf-disk, mtf_smallest : with R fixed, at most three points and all different, and some rational disk that fits (P, R), the procedure
--                            ends on a disk, the smallest for (P, R)
--   feasible_disk, feasible_smallest : the same where some lifted disk is feasible; strong, cover-is : it is the lifted run's, strongly minimal
--   mtf-ends               : from no point fixed, for every list of at least one point, it ends on a disk
--   smallest               : and that is the smallest
--   disk_same              : lists with the same points have the same disk
--   tests_most             : the tests are at most (n³ + 5n)/6
--   order_permuted         : the list left has the same points, each as often as before
use mathlib.Core.Path.{◌≡◌, refl, sym, ◌∙◌, ap, subst}
use mathlib.Core.List.Memᴰ
use mathlib.Core.List.{List, [], ◌∷◌, Permᴰ}
use Prim.Native.Nat.{◌+◌, ◌-◌, ◌*◌, ◌≤◌}
use native.Mathlib.Omega.{arith}
use lib.ListN.{length}
use Rattle.geometry.specs.declared.Point.{Point}
use Rattle.point_lists.specs.Sets.{Same, Different}
use Rattle.point_lists.proofs.Sets.{same_refl}
use Rattle.disks.specs.Smallest.{RationalDisk, Fits, SmallestWith, Smallest}
use Rattle.disks.specs.Procedure.{Cover, disk, mtf, disk_in, disk_of, tests_of, order_of}
use Rattle.disks.proofs.Lifted.{Lifted}
use Rattle.disks.proofs.Minimal.{Feasible, StronglyMinimal}
use Rattle.disks.proofs.LiftedProcedure.{lifted_run}
use Rattle.disks.proofs.Correct.{run_strong, mtf_strong}
use Rattle.disks.proofs.EveryRun.{run_permuted, run_tests, most_three}
use Rattle.disks.proofs.LowestTerms.{lowered}
use Rattle.disks.proofs.Bridge.{cover_disk, strong_written, run_agree, mtf_cover, disk_of_lowered}
use Rattle.disks.proofs.StrongSmallest.{lift, lift_feasible, strong_smallest}
use Rattle.disks.proofs.OneWriting.{smallest_same}

module _ (R P : List Point) (most : length R ≤ 3) (different : Different R) (some : 1 ≤ length P + length R) (W : Lifted) (f : Feasible P R W) where
  pub strong : StronglyMinimal P R (lifted_run R P).disk
  strong = run_strong R P W most some different f

  pub cover_is : (mtf R P).cover ≡ disk (lowered (lifted_run R P).disk)
  cover_is = (run_agree (3 - length R) R P W f different (omega arith)).cover_is ∙ cover_disk (lifted_run R P).disk strong.feasible.proper

  pub feasible_disk : (mtf R P).cover ≡ disk (disk_in (mtf R P).cover)
  feasible_disk = cover_is ∙ ap (λ (k : Cover). disk (disk_in k)) (sym cover_is)

  pub feasible_smallest : SmallestWith P R (disk_in (mtf R P).cover)
  feasible_smallest = subst (λ (k : Cover). SmallestWith P R (disk_in k)) (sym cover_is) (strong_smallest strong (strong_written strong))

module _ (R P : List Point) (most : length R ≤ 3) (different : Different R) (some : 1 ≤ length P + length R) (c : RationalDisk) (fits : Fits c P R) where
  pub mtf-disk : (mtf R P).cover ≡ disk (disk_in (mtf R P).cover)
  mtf-disk = feasible_disk R P most different some (lift c) (lift_feasible fits)

  pub mtf_smallest : SmallestWith P R (disk_in (mtf R P).cover)
  mtf_smallest = feasible_smallest R P most different some (lift c) (lift_feasible fits)

-- ---- from no point fixed

pub mtf-ends : (p : Point) (P : List Point) → (mtf [] (p ∷ P)).cover ≡ disk (disk_of (p ∷ P))
mtf-ends p P = mtf_cover p P ∙ ap (λ (c : Cover). disk (disk_in c)) (sym (mtf_cover p P))

pub smallest : (p : Point) (P : List Point) → Smallest (p ∷ P) (disk_of (p ∷ P))
smallest p P = subst (Smallest (p ∷ P)) (sym (disk_of_lowered p P)) (strong_smallest (mtf_strong p P) (strong_written (mtf_strong p P)))

pub disk_same : (P Q : List Point) → Same P Q → disk_of P ≡ disk_of Q
disk_same [] [] s = refl
disk_same [] (q ∷ Q) s = absurd (Memᴰ.not-nil (s.from q (Memᴰ.head refl)))
disk_same (p ∷ P) [] s = absurd (Memᴰ.not-nil (s.to p (Memᴰ.head refl)))
disk_same (p ∷ P) (q ∷ Q) s = smallest_same s (same_refl []) (smallest p P) (smallest q Q)

pub tests_most : (P : List Point) → 6 * tests_of P ≤ length P * length P * length P + 5 * length P
tests_most P = omega (arith, most_three (length P), run_tests 3 [] P)

pub order_permuted : (P : List Point) → Permᴰ (order_of P) P
order_permuted P = run_permuted 3 [] P
