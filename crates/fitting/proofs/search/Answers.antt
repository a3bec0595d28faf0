-- `fitting::search` meets its contract. With all points in front none is outside, so that k does not pass n.
use mathlib.Core.Path.{◌≡◌, refl, sym, ap, subst, ◌∙◌}
use mathlib.Core.Bool.{true, false, true≢false}
use mathlib.Core.List.{List}
use Prim.Native.Nat.{ℕ, ◌*◌, ◌/◌, ◌≤◌, ◌<◌}
use native.Mathlib.Omega.{arith}
use lib.IntN.{ℤ}
use lib.ListN.{length}
use Rattle.geometry.specs.declared.Point.{Point}
use Rattle.geometry.specs.Points.{points, point_at, first_points}
use Rattle.geometry.proofs.PointLists.{first_points_all}
use Rattle.geometry.proofs.PointRows.{point_at_in}
use Rattle.point_lists.specs.Sets.{In}
use Rattle.disks.proofs.Lists.{perm_in}
use Rattle.relative_disks.specs.declared.RelativeDisk.{RelativeDisk}
use Rattle.relative_disks.specs.Relative.{is_outside}
use Rattle.fixed_points.specs.Boundary.{Boxed}
use Rattle.inner_level.proofs.RanLaws.{all_boxed}
use Rattle.fitting.specs.Decides.{Found, Held, Permuted}
use Rattle.fitting.proofs.FrontDisks.{found_held, found_more, none_more}
use Rattle.fitting.proofs.Fronts.{permuted_trans, permuted_boxed, first_in, each_first, by_place, permuted_refl, to_front_lem}
use Rattle.welzl.specs.WholeList.{AllGiven}
use mathlib.Core.List.Permᴰ
use Rattle.fitting.proofs.search.Goals as goal

-- the list that came, and as a turn finds it
module _ {came list : List ℤ} {n : ℕ} (is : n ≡ length came / 2) (order : Permuted came list) (all : AllGiven came) where
  boxed : Boxed (points came)
  boxed = all_boxed (points came) all.boxed

  whole : length list ≡ 2 * n
  whole = omega (arith, is, order.same_length, all.even)

  half : length list / 2 ≡ n
  half = ap (λ (m : ℕ). m / 2) order.same_length ∙ sym is

  module _ (k : ℕ) (most : k ≤ n) where
    boxed_front : Boxed (first_points k list)
    boxed_front = record { in_box = λ p i. (permuted_boxed order boxed).in_box p (first_in k list (omega (arith, whole, most)) p i) }

    among : (p : Point) → In p (first_points k list) → In p (points came)
    among p i = perm_in order.permuted (first_in k list (omega (arith, whole, most)) p i)

-- the list as the procedure leaves it, and the disk that it found for the first k points
module _ {came list left : List ℤ} {n : ℕ} (is : n ≡ length came / 2) (order : Permuted came list) (all : AllGiven came) (run : Permuted list left)
    {R : List Point} {k : ℕ} (most : k ≤ n) {d : RelativeDisk} (found : Found R (first_points k list) d) where
  after : Permuted came left
  after = permuted_trans order run

  -- no point of the list left is outside
  all_held : Held left d 0 (length left / 2) → Found R (points came) d
  all_held none = found_more found (among is order all k most) (boxed is order all) (λ p i. each_first (λ (q : Point). is_outside d q ≡ false) n left
      (omega (arith, whole is after all)) (λ j h. none j (omega arith) (omega (arith, h, half is after all))) p (in_left p i))
    where
      in_left : (p : Point) → In p (points came) → In p (first_points n left)
      in_left p i = subst (In p) (sym (first_points_all n left (whole is after all))) (perm_in (Permᴰ.symm after.permuted) i)

  -- a point outside is not one of those in front
  more : (i : ℕ) → i < n → is_outside d (point_at left i) ≡ true → k < n
  more i h out = by_place k n (λ b. b)
      (λ b. absurd (true≢false (sym out ∙ found_held found (boxed_front is order all k most) (point_at left i) (in_front b))))
    where
      in_front : n ≤ k → In (point_at left i) (first_points k list)
      in_front b =
          let ends : length list ≡ 2 * k = omega (arith, b, most, whole is order all) in
          subst (In (point_at left i)) (sym (first_points_all k list ends))
          (perm_in run.permuted (point_at_in i left (omega (arith, h, whole is after all))))

pub loop-k-init : goal.loop-k-init
loop-k-init c = (omega arith, permuted_refl c.args.list.now)

pub front_disk-requires-clause-given : goal.front_disk-requires-clause-given
front_disk-requires-clause-given c =
    let order = c.loop-k.invariant.1 in record {
      few = omega (arith, c.loop-k-test.true, c.requires.given.few);
      fits = omega (arith, c.loop-k-test.true, order.same_length);
      fixed_boxed = c.requires.fixes.boxed;
      list_boxed = boxed_front refl order c.requires.given c.loop-k.k c.loop-k-test.true;
    }

pub front_disk-requires-clause-boxed : goal.front_disk-requires-clause-boxed
front_disk-requires-clause-boxed c = permuted_boxed c.loop-k.invariant.1 (boxed refl c.loop-k.invariant.1 c.requires.given)

pub returns-in_err-d : goal.returns-in_err-d
returns-in_err-d c =
    rw c.from_residual.ensures
    (none_more (among refl c.loop-k.invariant.1 c.requires.given c.loop-k.k c.loop-k-test.true) c.in_err-d.ensures.fit)

pub next_outside-requires-clause-place : goal.next_outside-requires-clause-place
next_outside-requires-clause-place c = omega (arith, c.loop-k.invariant.0, half refl (permuted_trans c.loop-k.invariant.1 c.in_ok-d.ensures.order) c.requires.given)

pub next_outside-requires-clause-small : goal.next_outside-requires-clause-small
next_outside-requires-clause-small c = c.in_ok-d.ensures.fit.small

pub next_outside-requires-clause-boxed : goal.next_outside-requires-clause-boxed
next_outside-requires-clause-boxed c =
    permuted_boxed (permuted_trans c.loop-k.invariant.1 c.in_ok-d.ensures.order) (boxed refl c.loop-k.invariant.1 c.requires.given)

pub returns-in_default : goal.returns-in_default
returns-in_default c =
    let a = c.in_ok-d.ensures in
    all_held refl c.loop-k.invariant.1 c.requires.given a.order c.loop-k-test.true a.fit c.in_default.ensures

pub loop-k-preserved : goal.loop-k-preserved
loop-k-preserved c =
    let l = c.front_disk.new.list in
    let order = permuted_trans c.loop-k.invariant.1 c.in_ok-d.ensures.order in
    let i = c.in-Some.i in
    let inside = c.in-Some.ensures.0 in (
      omega (arith, inside, half refl order c.requires.given),
      permuted_trans order (subst (Permuted l) (sym c.move_to_front.ensures) (to_front_lem l i (omega (arith, inside, whole refl order c.requires.given, half refl order c.requires.given)))),
    )

pub returns-in-Some : goal.returns-in-Some
returns-in-Some c =
    let a = c.in_ok-d.ensures in
    let order = permuted_trans c.loop-k.invariant.1 a.order in
    let n = length c.args.list.now / 2 in
    let inside : c.in-Some.i < n = omega (arith, c.in-Some.ensures.0, half refl order c.requires.given) in
    let fewer : c.loop-k.k < n =
    more refl c.loop-k.invariant.1 c.requires.given a.order c.loop-k-test.true a.fit c.in-Some.i inside c.in-Some.ensures.1 in
    absurd (omega (arith, fewer))
