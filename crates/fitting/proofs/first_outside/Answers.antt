use mathlib.Core.Path.{◌≡◌, sym, ◌∙◌, ap, subst}
use mathlib.Core.Bool.{false}
use Prim.Native.Nat.{ℕ, ◌+◌, ◌*◌, ◌≤◌, ◌<◌}
use native.Mathlib.Nat.{le_antisymm}
use native.Mathlib.Omega.{arith}
use lib.ListN.{length}
use Rattle.geometry.specs.Points.{point_at}
use Rattle.geometry.proofs.PointRows.{point_at_in}
use Rattle.relative_disks.specs.Relative.{is_outside}
use Rattle.relative_disks.proofs.RelativeLaws.{near_box}
use Rattle.fitting.proofs.Fronts.{by_place}
use Rattle.fitting.proofs.first_outside.Goals as goal

-- what holds below i and at i holds below i + 1
up_to : (Z : ℕ → Type 0) (j i : ℕ) → (j < i → Z j) → Z i → j < i + 1 → Z j
up_to Z j i below here h = by_place j i below (λ k. subst Z (le_antisymm k (omega arith)) here)

pub loop-i-init : goal.loop-i-init
loop-i-init c = λ j low high. absurd (omega arith)

pub is_outside-requires-clause-near : goal.is_outside-requires-clause-near
is_outside-requires-clause-near c =
    let i = c.loop-i.i in
    let fits : 2 * i + 2 ≤ length c.args.list.now = omega (arith, c.requires.places.1, c.loop-i-test.true) in
    rw c.point_at.ensures (near_box _ (c.requires.boxed.in_box _ (point_at_in i c.args.list.now fits)))

pub returns-then-is_outside : goal.returns-then-is_outside
returns-then-is_outside c =
    record {
      low = c.loop-i.auto.i;
      high = c.loop-i-test.true;
      held_before = c.loop-i.invariant;
      outside_there = sym (c.is_outside.ensures ∙ ap (is_outside c.args.d) c.point_at.ensures) ∙ c.if-is_outside.true;
    }

pub loop-i-preserved : goal.loop-i-preserved
loop-i-preserved c =
    let l = c.args.list.now in
    let d = c.args.d in
    let i = c.loop-i.i in
    let here : is_outside d (point_at l i) ≡ false =
    sym (c.is_outside.ensures ∙ ap (is_outside d) c.point_at.ensures) ∙ c.if-is_outside.false in
    λ j low high. up_to (λ (n : ℕ). is_outside d (point_at l n) ≡ false) j i (c.loop-i.invariant j low) here high

pub returns : goal.returns
returns c = λ j low high. c.loop-i.invariant j low (omega (arith, high, c.loop-i-test.false))
