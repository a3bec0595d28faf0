use mathlib.Core.Path.{sym, ap}
use Prim.Native.Nat.{◌≤◌, ◌<◌}
use native.Mathlib.Omega.{arith}
use borrow.Author.Rules.{rules}
use lib.Seq.{length-take-le}
use Rattle.answers.specs.Outcome.{given}
use Rattle.letter.specs.Letter.{letter_of}
use Rattle.run_steps.specs.Steps.{State}
use Rattle.run_steps.proofs.StepLaws.{stepped_letter}
use Rattle.sheet_run.proofs.Reached.{reached_next, reached_end, reached_buffer, reached_numbers}
use Rattle.sheet_run.proofs.run_glyphs.Goals as goal

pub loop-i-preserved : goal.loop-i-preserved
loop-i-preserved c =
    let p = c.requires in
    let z = c.loop-i.invariant in
    let below : c.loop-i.i < c.args.count = omega (arith, c.loop-i-test.true, length-take-le _ _ p.places) in
    reached_next z _ c.step-answer.new.self c.step-answer.result c.number_for.result below p.room (search rules)
    (stepped_letter (sym (ap letter_of c.part_at-text.ensures)) c.step-answer.ensures) c.number_for.ensures

pub returns : goal.returns
returns c =
    let z = c.loop-i.invariant in
    let p = c.requires in
    let over : c.args.count ≤ c.loop-i.i = omega (arith, c.loop-i-test.false, length-take-le _ _ p.places) in
    record {
      result_value = ap (λ (s : State). given (s.worked, s.left)) (reached_end z over p.all);
      buffer_after = reached_buffer z over p.all p.room;
      numbers_after = reached_numbers z over p.all c.args.numbers.now;
    }
