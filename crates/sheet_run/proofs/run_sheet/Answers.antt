-- `sheet_run::run_sheet` meets its contract: the tests that led to each `return` say to which end the row of checks comes.
use mathlib.Core.Path.{sym, ◌∙◌}
use Rattle.answers.specs.Outcome.{given, refused}
use Rattle.sheet_run.specs.Running.{ran}
use Rattle.sheet_run.proofs.Rows.{run_no_room_for, run_too_much, run_given, run_told}
use Rattle.sheet_run.proofs.run_sheet.Goals as goal

pub returns-then-buffer-count : goal.returns-then-buffer-count
returns-then-buffer-count c =
    let due = run_told _ _ _ _ (refused 8) (run_no_room_for _ _ _ _ _ (sym c.in_ok-count.ensures) c.then-buffer-count.either) in
    record { result_value = due.0; buffer_after = due.1.0; numbers_after = due.1.1 }

pub returns-then-allowance-ge-TOO_MUCH : goal.returns-then-allowance-ge-TOO_MUCH
returns-then-allowance-ge-TOO_MUCH c =
    let counts = sym c.in_ok-count.ensures in
    let due =
    run_told _ _ _ _ (refused 17)
    (run_too_much _ _ _ _ _ counts c.if-buffer-count.false c.if-numbers-count.false c.if-allowance-ge-TOO_MUCH.true) in
    record { result_value = due.0; buffer_after = due.1.0; numbers_after = due.1.1 }

pub returns : goal.returns
returns c =
    let counts = sym c.in_ok-count.ensures in
    let due =
    run_told _ _ _ _ (given (ran _ _))
    (run_given _ _ _ _ _ counts c.if-buffer-count.false c.if-numbers-count.false c.if-allowance-ge-TOO_MUCH.false) in
    let left = c.run_glyphs.ensures in
    record {
      result_value = left.result_value ∙ due.0;
      buffer_after = left.buffer_after ∙ due.1.0;
      numbers_after = left.numbers_after ∙ due.1.1;
    }
