-- `farthest_points::better_of` meets its contract: by the squares, and where these are equal by the order of the points.
use mathlib.Core.Path.{◌≡◌, sym, ap, ◌∙◌}
use borrow.Author.Tests.{ltb-false}
use native.Mathlib.Omega.{arith}
use Rattle.stretches.specs.declared.Stretch.{Stretch}
use Rattle.stretches.specs.Widest.{ordered, ahead, better_of}
use Rattle.stretches.proofs.Better.{better_narrower, better_wider, better-ahead, better_behind}
use Rattle.stretches.proofs.Found.{ordered_w}
use Rattle.farthest_points.proofs.better_of.Goals as goal
use Rattle.farthest_points.proofs.better_of.Goals.{After-from-w, then-s-w, else-s-w}

-- the stretch between p and q, and its square
module _ (c : After-from-w) where
  abbrev s : Stretch
  s = c.args.s

  abbrev t : Stretch
  t = ordered c.args.p c.args.q

  width : t.w ≡ c.from-w.result
  width = ordered_w c.args.p c.args.q ∙ sym (c.from-w.ensures ∙ c.squared_distance.ensures)

pub returns-then-w-s : goal.returns-then-w-s
returns-then-w-s c =
    let here = (goal.at.returns-then-w-s c).After-from-w in
    sym (better_narrower (s here) (t here) (omega (arith, width here, c.if-w-s.true)))

pub returns-then-is_ahead : goal.returns-then-is_ahead
returns-then-is_ahead c =
    let here = (goal.at.returns-then-is_ahead c).After-from-w in
    let is = c.stretch_between-t.ensures in
    let better : better_of (s here) (t here) ≡ t here =
    elim c.if-s-w.branch [
      | then-s-w w ↦ better_wider (s here) (t here) (omega (arith, width here, w.if-s-w.true))
      | else-s-w w ↦ better-ahead (s here) (t here) (omega (arith, width here, c.if-w-s.false, w.if-s-w.false))
          (ap (λ (r : Stretch). ahead r (s here)) (sym is) ∙ sym w.is_ahead.ensures ∙ sym w.value-is ∙ c.if-is_ahead.true)
    ] in
    is ∙ sym better

pub returns-else-is_ahead : goal.returns-else-is_ahead
returns-else-is_ahead c =
    let here = (goal.at.returns-else-is_ahead c).After-from-w in
    let is = c.stretch_between-t.ensures in
    let better : better_of (s here) (t here) ≡ s here =
    elim c.if-s-w.branch [
      | then-s-w w ↦ absurd (omega (arith, w.if-s-w.true, ltb-false c.args.s.w c.from-w.result (sym w.value-is ∙ c.if-is_ahead.false)))
      | else-s-w w ↦ better_behind (s here) (t here) (omega (arith, width here, c.if-w-s.false, w.if-s-w.false))
          (ap (λ (r : Stretch). ahead r (s here)) (sym is) ∙ sym w.is_ahead.ensures ∙ sym w.value-is ∙ c.if-is_ahead.false)
    ] in
    sym better
