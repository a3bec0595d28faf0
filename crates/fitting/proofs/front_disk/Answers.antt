-- `fitting::front_disk` meets its contract: the procedure's disk for the first k points, and the two tests of it.
use mathlib.Core.Path.{◌≡◌, sym, ap, ◌∙◌, subst}
use mathlib.Core.Bool.{true, false}
use mathlib.Core.List.Permᴰ
use mathlib.Core.List.{List, [], ◌∷◌}
use Prim.Native.Nat.{ℕ, ◌*◌, ◌≤◌, ◌<◌}
use native.Mathlib.Omega.{arith}
use lib.IntN.{ℤ, pos}
use lib.ListN.{length}
use lib.Signed.{◌≤ℤ◌, ◌<ℤ◌, lt_z}
use mir.Syntax.{w64}
use mir.Val.{to_z, of_z}
use Rattle.integers.proofs.Bounds.{lt_true, lt_false, leaf_back}
use Rattle.integers.proofs.Order.{nonneg, positive, le, lt}
use Rattle.integers.proofs.Ring.{poly}
use Rattle.geometry.specs.EmBox.{em}
use Rattle.geometry.specs.declared.Point.{Point}
use Rattle.geometry.specs.Points.{point_at, first_points}
use Rattle.geometry.proofs.PointLists.{point_at-first_points}
use Rattle.point_lists.specs.Sets.{In}
use Rattle.disks.proofs.Lists.{perm_in}
use Rattle.disks.specs.Procedure.{mtf}
use Rattle.relative_disks.specs.declared.RelativeDisk.{RelativeDisk}
use Rattle.relative_disks.specs.Relative.{is_outside}
use Rattle.fixed_points.specs.declared.Boundary.{Boundary}
use Rattle.fixed_points.specs.Boundary.{members}
use Rattle.inner_level.specs.Ran.{Given, Ran}
use Rattle.inner_level.proofs.RunLaws.{run_permuted}
use Rattle.inner_level.proofs.RanLaws.{ran_left}
use Rattle.fitting.specs.Decides.{Found, NoneFits, Permuted}
use Rattle.fitting.proofs.FrontDisks.{members_most, flat_none, outside_none, held_found}
use Rattle.fitting.proofs.Fronts.{front_run, permuted_boxed, each_first}
use Rattle.fitting.proofs.front_disk.Goals as goal
use Rattle.fitting.proofs.front_disk.Goals.{After-mtf-run, Start}

-- what the call of the procedure says of the first k points
module _ (c : After-mtf-run) where
  abbrev start : Start
  start = c.before.before

  abbrev l : List ℤ
  l = start.args.list.now

  abbrev k : ℕ
  k = start.args.k

  abbrev R : Boundary
  R = start.args.fixed

  abbrev Q : List Point
  Q = first_points k l

  abbrev d : RelativeDisk
  d = c.mtf-run.result.disk

  abbrev after : List ℤ
  after = c.mtf-run.new.list

  asked : Given R k l
  asked = start.requires.given

  ran : Ran R k l after d c.mtf-run.result.tests
  ran = c.mtf-run.ensures

  order : Permuted l after
  order = front_run k l after (mtf (members R) Q).left asked.fits (run_permuted R Q) ran.left_is

  left : first_points k after ≡ (mtf (members R) Q).left
  left = ran_left R k l after d c.mtf-run.result.tests asked.fits ran

  fits : 2 * k ≤ length after
  fits = omega (arith, asked.fits, order.same_length)

  to_left : (p : Point) → In p Q → In p (first_points k after)
  to_left p i = subst (In p) (sym left) (perm_in (Permᴰ.symm (run_permuted R Q)) i)

  from_left : (p : Point) → In p (first_points k after) → In p Q
  from_left p i = perm_in (run_permuted R Q) (subst (In p) left i)

  flat : d.e ≤ℤ pos 0 → NoneFits (members R) Q
  flat = flat_none (members R) Q (members_most R) start.requires.fixes.some start.requires.fixes.different asked.list_boxed d ran.disk_is

  outside : (i : ℕ) → i < k → is_outside d (point_at after i) ≡ true → NoneFits (members R) Q
  outside i h = outside_none (members R) Q (members_most R) start.requires.fixes.some start.requires.fixes.different asked.list_boxed d ran.disk_is
      (point_at after i) (from_left (point_at after i) (point_at-first_points i k after h fits))

  held : pos 0 <ℤ d.e → ((i : ℕ) → i < k → is_outside d (point_at after i) ≡ false) → Found (members R) Q d
  held h all = held_found (members R) Q (members_most R) start.requires.fixes.some start.requires.fixes.different asked.list_boxed d ran.disk_is h
      (λ p i. each_first (λ (q : Point). is_outside d q ≡ false) k after fits all p (to_left p i))

-- e as the machine reads it
weight : (c : After-mtf-run) → to_z w64 (of_z w64 (d c).e) ≡ (d c).e
weight c = leaf_back w64 (d c).e em.scale (ran c).disk_is.small.e_small tt

below_one : {z : ℤ} → z <ℤ pos 1 → z ≤ℤ pos 0
below_one {z} h = nonneg (z ∷ []) (lt h) (search poly depth 30) tt

from_one : {z : ℤ} → pos 1 ≤ℤ z → pos 0 <ℤ z
from_one {z} h = positive (z ∷ []) (le h) (search poly depth 30) tt

pub returns-then-d-lt1-clause-fit : goal.returns-then-d-lt1-clause-fit
returns-then-d-lt1-clause-fit c =
    let s = (goal.at.returns-then-d-lt1-clause-fit c).After-mtf-run in
    flat s (below_one (lt_true (d s).e (pos 1) (ap (λ (z : ℤ). lt_z z (pos 1)) (sym (weight s)) ∙ c.if-d-lt1.true)))

pub returns-then-d-lt1-clause-order : goal.returns-then-d-lt1-clause-order
returns-then-d-lt1-clause-order c = order (goal.at.returns-then-d-lt1-clause-order c).After-mtf-run

pub first_outside-requires-clause-places : goal.first_outside-requires-clause-places
first_outside-requires-clause-places c = (omega arith, fits (goal.at.first_outside-requires-clause-places c).After-mtf-run)

pub first_outside-requires-clause-small : goal.first_outside-requires-clause-small
first_outside-requires-clause-small c = (ran (goal.at.first_outside-requires-clause-small c).After-mtf-run).disk_is.small

pub first_outside-requires-clause-boxed : goal.first_outside-requires-clause-boxed
first_outside-requires-clause-boxed c = permuted_boxed (order (goal.at.first_outside-requires-clause-boxed c).After-mtf-run) c.requires.boxed

pub returns-in-Some-clause-fit : goal.returns-in-Some-clause-fit
returns-in-Some-clause-fit c =
    outside (goal.at.returns-in-Some-clause-fit c).After-mtf-run c.in-Some.field-0 c.in-Some.ensures.high c.in-Some.ensures.outside_there

pub returns-in-Some-clause-order : goal.returns-in-Some-clause-order
returns-in-Some-clause-order c = order (goal.at.returns-in-Some-clause-order c).After-mtf-run

pub returns-in-None-clause-fit : goal.returns-in-None-clause-fit
returns-in-None-clause-fit c =
    let s = (goal.at.returns-in-None-clause-fit c).After-mtf-run in
    let some = from_one (lt_false (d s).e (pos 1) (ap (λ (z : ℤ). lt_z z (pos 1)) (sym (weight s)) ∙ c.if-d-lt1.false)) in
    held s some (λ i h. c.in-None.ensures i (omega arith) h)

pub returns-in-None-clause-order : goal.returns-in-None-clause-order
returns-in-None-clause-order c = order (goal.at.returns-in-None-clause-order c).After-mtf-run
