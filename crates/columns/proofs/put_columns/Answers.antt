use mathlib.Core.Path.{◌≡◌, sym, ap, ◌∙◌}
use mathlib.Core.Bool.{false, true≢false}
use Prim.Native.Nat.{ℕ, ◌+◌, ◌*◌, ◌/◌, ◌≤◌, ◌<◌}
use native.Mathlib.Omega.{arith}
use lib.ListN.{get_or}
use Rattle.columns.specs.Columns.{Written, group_count}
use Rattle.columns.proofs.Writing.{written_none, moved, gap}
use Rattle.columns.proofs.put_columns.Goals as goal
use Rattle.columns.proofs.put_columns.Goals.{then-seen, else-seen}

pub loop-g-init : goal.loop-g-init
loop-g-init c = (
  omega arith,
  omega arith,
  written_none (c.args.low.now) (c.args.high.now) c.args.lows.now c.args.highs.now c.requires.size.3 c.requires.size.4,
)

group : {g j : ℕ} → 16 * g ≤ j → j < 16 * (g + 1) → g ≡ j / 16
group h k = omega arith

pub loop-g-preserved : goal.loop-g-preserved
loop-g-preserved c =
    let l = c.loop-g in
    let low = c.args.low.now in
    let high = c.args.high.now in
    let more : l.g < group_count = omega (arith, c.loop-g-test.true, c.requires.size.2) in
    let step : (c.if-seen.m ≤ 16 * (l.g + 1)) × Written (16 * (l.g + 1)) c.if-seen.m low high c.if-seen.lows c.if-seen.highs =
    elim c.if-seen.branch [
      | then-seen w ↦ (omega (arith, w.m-is, w.put_group-m.ensures.0), moved w.lows-is w.highs-is w.m-is w.put_group-m.ensures.1)
      | else-seen w ↦ (
        omega (arith, w.m-is, l.invariant.1),
        moved w.lows-is w.highs-is w.m-is
            (gap (omega arith)
            (λ j u v. c.requires.unseen j (omega (arith, v, more))
            (λ e. true≢false (sym e ∙ sym (ap (λ (k : ℕ). get_or c.args.seen.now k false) (group u v)) ∙ w.if-seen.false))) l.invariant.2),
      )
    ] in
    (omega (arith, more), step.0, step.1)
