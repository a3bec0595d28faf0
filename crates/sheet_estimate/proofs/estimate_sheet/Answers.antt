-- `sheet_estimate::estimate_sheet` meets its contract: the tests that led to each `return` say to which end the row of checks comes.
use mathlib.Core.Path.{sym, ◌∙◌}
use Rattle.answers.specs.Outcome.{given, refused}
use Rattle.sheet_estimate.specs.Estimating.{estimated}
use Rattle.sheet_estimate.proofs.Rows.{estimate_no_room, estimate_given, estimate_told}
use Rattle.sheet_estimate.proofs.estimate_sheet.Goals as goal

pub returns-then-points-count : goal.returns-then-points-count
returns-then-points-count c =
    let due = estimate_told _ _ _ (refused 8) (estimate_no_room _ _ _ _ (sym c.in_ok-count.ensures) c.then-points-count.either) in
    record { result_value = due.0; points_after = due.1.0; refusals_after = due.1.1 }

pub returns : goal.returns
returns c =
    let counts = sym c.in_ok-count.ensures in
    let due = estimate_told _ _ _ (given (estimated _ _)) (estimate_given _ _ _ _ counts c.if-points-count.false c.if-refusals-count.false) in
    let left = c.estimate_glyphs.ensures in
    record {
      result_value = left.result_value ∙ due.0;
      points_after = left.points_after ∙ due.1.0;
      refusals_after = left.refusals_after ∙ due.1.1;
    }
