-- The disk on which a run of the procedure ends has R on its boundary, whether or not any disk fits; and from no point fixed, the point that it leaves in front.
--
--   On c q        == the cover c has q on its boundary, if it is a disk with E at least 1; three points in a row have E = 0
--   boundary_on   : the smallest disk with R on its boundary, R of at most three points, whatever they are
--   run_on        : the disk of every run
--   front_on      : the smallest disk of a list has the first point of the list, as the procedure leaves it, on its boundary
use mathlib.Core.Path.{◌≡◌, refl, sym, ap, ◌∙◌, subst}
use mathlib.Core.Bool.{Bool, true, false, true≢false}
use mathlib.Core.List.Memᴰ
use mathlib.Core.List.{List, [], ◌∷◌, ◌++◌}
use mathlib.Core.Logic.{◌≢◌}
use Prim.Native.Nat.{ℕ, zero, suc, ◌+◌, ◌≤◌}
use native.Mathlib.Omega.{arith}
use lib.IntN.{ℤ, pos, ◌*ℤ◌}
use lib.ListN.{length}
use Rattle.integers.proofs.Order.{≤_of_eq, <-≤_clash, Compared, less, same, more, compared}
use Rattle.geometry.specs.declared.Point.{Point}
use Rattle.geometry.specs.Plane.{Disk, on_boundary}
use Rattle.point_lists.specs.Sets.{In}
use Rattle.point_lists.proofs.Sets.{none_of}
use Rattle.disks.specs.Procedure.{Cover, empty, disk, outside, circle, boundary_disk, State, tested, step, through, start, run, disk_in, disk_of, order_of}
use Rattle.disks.proofs.Lifted.{Lifted}
use Rattle.disks.proofs.Minimal.{Feasible}
use Rattle.disks.proofs.Base.{point_strong, pair_strong, positive_not_zero}
use Rattle.disks.proofs.Triple.{turn, gx, gy, triple_through}
use Rattle.disks.proofs.LowestTerms.{lowered, lowered_written}
use Rattle.disks.proofs.StrongSmallest.{written_on}
use Rattle.disks.proofs.Bridge.{point_lowered, diameter_lowered, circle_lowered}
use Rattle.disks.proofs.Tests.{row_weight}
use Rattle.disks.proofs.Welzl.{mtf-ends, smallest}
use Rattle.fixed_points.proofs.KeptDisks.{row-circle}

abbrev pub On : Cover → Point → Type 0
On c q = (d : Disk) → c ≡ disk d → 1 ≤ d.e → on_boundary d q

-- ---- the disks of none to three points

lowered_on : {R : List Point} {F : Lifted} {k : Disk} → Feasible [] R F → k ≡ lowered F → (q : Point) → In q R → On (disk k) q
lowered_on {F} f is q i d e h =
    subst (λ (x : Disk). on_boundary x q) (sym is ∙ ap disk_in e)
    (written_on f.proper (lowered_written F f.proper q (f.on_boundary_is q i)) q (f.on_boundary_is q i))

row_on : (a b c q : Point) → turn a b c ≡ pos 0 → On (disk (circle a b c)) q
row_on a b c q row d e h =
    let flat = row-circle a b c (ap (λ (z : ℤ). pos 2 *ℤ z) row) in
    absurd (omega (arith, h, ap (λ (x : Disk). x.e) (sym (ap disk_in e) ∙ flat) ∙ row_weight (gx a b c) (gy a b c)))

circle_on : (a b c q : Point) → In q (a ∷ b ∷ c ∷ []) → On (disk (circle a b c)) q
circle_on a b c q i = go (compared (turn a b c) (pos 0))
  where
    apart : turn a b c ≢ pos 0 → On (disk (circle a b c)) q
    apart n = lowered_on (triple_through a b c n) (circle_lowered a b c) q i

    go : Compared (turn a b c) (pos 0) → On (disk (circle a b c)) q
    go (less h) = apart (λ e. <-≤_clash h (≤_of_eq (sym e)))
    go (same h) = row_on a b c q h
    go (more h) = apart (positive_not_zero h)

pub boundary_on : (R : List Point) → length R ≤ 3 → (q : Point) → In q R → On (boundary_disk R) q
unfolding boundary_disk
boundary_on [] h = none_of (On (boundary_disk []))
boundary_on (a ∷ []) h = lowered_on (point_strong a).feasible (point_lowered a)
boundary_on (a ∷ b ∷ []) h = lowered_on (pair_strong a b).feasible (diameter_lowered a b)
boundary_on (a ∷ b ∷ c ∷ []) h = circle_on a b c
boundary_on (a ∷ b ∷ c ∷ d ∷ R) h = absurd (omega arith)

-- ---- the run

abbrev RunsOn : ℕ → Type 0
RunsOn k = (R P : List Point) → length R + k ≤ 3 → (q : Point) → In q R → On (run k R P).cover q

module _ (k : ℕ) (R : List Point) (inner : RunsOn k) (size : length R + suc k ≤ 3) (q : Point) (i : In q R) where
  tested_on : (b : Bool) (s : State) (p : Point) → On s.cover q → On (tested b s p (run k (p ∷ R) s.left)).cover q
  unfolding tested
  tested_on true s p h = inner (p ∷ R) s.left (omega arith) q (Memᴰ.tail i)
  tested_on false s p h = h

  all_on : (s : State) (P : List Point) → On s.cover q → On (through (step (run k) R) s P).cover q
  unfolding through step
  all_on s [] h = h
  all_on s (p ∷ P) h = all_on (step (run k) R s p) P (tested_on (outside s.cover p) s p h)

pub run_on : (k : ℕ) → RunsOn k
unfolding run
run_on zero R P h q i = boundary_on R (omega arith) q i
run_on (suc k) R P h q i = all_on k R (run_on k) h q i (start R []) P (boundary_on R (omega arith) q i)

-- ---- the point left in front

-- what is left has a point of the cover's boundary in front; where nothing is left, the cover is empty
abbrev InFront : Cover → List Point → Type 0
InFront c [] = c ≡ empty
InFront c (q ∷ L) = On c q

held_behind : (c : Cover) (L : List Point) (p : Point) → outside c p ≡ false → InFront c L → InFront c (L ++ (p ∷ []))
unfolding outside
held_behind c [] p t h = absurd (true≢false (ap (λ (k : Cover). outside k p) (sym h) ∙ t))
held_behind c (q ∷ L) p t h = h

tested_front : (b : Bool) (s : State) (p : Point) → outside s.cover p ≡ b → InFront s.cover s.left
    → let t = tested b s p (run 2 (p ∷ []) s.left) in InFront t.cover t.left
unfolding tested
tested_front true s p e h = run_on 2 (p ∷ []) s.left (omega arith) p (Memᴰ.head refl)
tested_front false s p e h = held_behind s.cover s.left p e h

all_front : (s : State) (P : List Point) → InFront s.cover s.left → let t = through (step (run 2) []) s P in InFront t.cover t.left
unfolding through step
all_front s [] h = h
all_front s (p ∷ P) h = all_front (step (run 2) [] s p) P (tested_front (outside s.cover p) s p refl h)

in_front : (P : List Point) → InFront (run 3 [] P).cover (order_of P)
unfolding run boundary_disk
in_front P = all_front (start [] []) P refl

pub front_on : (p : Point) (P : List Point) (q : Point) (L : List Point) → order_of (p ∷ P) ≡ q ∷ L → on_boundary (disk_of (p ∷ P)) q
front_on p P q L e = subst (InFront (run 3 [] (p ∷ P)).cover) e (in_front (p ∷ P)) (disk_of (p ∷ P)) (mtf-ends p P) (smallest p P).proper
