-- `Standing::step` meets its contract: each end of the row is one of those that a glyph can come to.
use mathlib.Core.Path.{◌≡◌, sym, ◌∙◌}
use Prim.Native.Nat.{◌-◌, ◌*◌, ◌≤◌, ◌<◌}
use borrow.Author.Rules.{rules}
use Rattle.answers.specs.Outcome.{refused, number_of, outcome}
use Rattle.answers.proofs.OutcomeLaws.{not_given}
use Rattle.description.specs.Description.{room}
use Rattle.record_writer.specs.Layout.{record_length}
use Rattle.letter.proofs.Whole.{letter_loaded, letter_unloaded, letter-enclosed, letter_unenclosed, enclosure_checked}
use Rattle.run_steps.proofs.Placing.{write_due, put_record}
use Rattle.run_steps.proofs.StepLaws.{stepped_letter, stepped_worked, stepped_over, stepped_behind, stepped_faulty}
use Rattle.run_steps.proofs.Standing.step.Goals as goal

pub returns-in_err-load_into : goal.returns-in_err-load_into
returns-in_err-load_into c =
    let a = c.args in
    let k = number_of c.in_err-load_into.field-0.0 in
    let same : outcome c.from_residual.result ≡ refused k = search rules in
    let none = letter_unloaded a.text.now a.list.now c.requires.list_long k (sym c.in_err-load_into.ensures.result_value) in
    stepped_letter none (stepped_faulty k a.self.now a.buffer.now _ same)

pub returns-then-not-self : goal.returns-then-not-self
returns-then-not-self c =
    let a = c.args in
    stepped_letter (letter_loaded a.text.now a.list.now c.requires.list_long _ (sym c.in_ok-load_into.ensures.result_value))
    (stepped_behind _ a.self.now a.buffer.now c.if-not-self.true)

pub returns-in_err-enclosed : goal.returns-in_err-enclosed
returns-in_err-enclosed c =
    let a = c.args in
    let k = number_of c.in_err-enclosed.field-0.0 in
    let same : outcome c.from_residual-in_err-enclosed.result ≡ refused k = search rules in
    stepped_letter (letter_unenclosed a.text.now k (sym c.in_err-enclosed.ensures)) (stepped_faulty k a.self.now a.buffer.now _ same)

pub returns-in_default : goal.returns-in_default
returns-in_default c =
    let a = c.args in
    let more : a.self.now.left < c.in_ok-enclosed.enclosed.tests = search rules in
    stepped_letter (letter-enclosed a.text.now _ (sym c.in_ok-enclosed.ensures)) (stepped_over _ a.self.now a.buffer.now c.if-not-self.false more)

-- the writer has no refusal for what the engine gives
pub returns-in_err-write_record : goal.returns-in_err-write_record
returns-in_err-write_record c =
    let xs = c.args.buffer.now in
    let checked = enclosure_checked c.args.text.now room _ (sym c.in_ok-enclosed.ensures) in
    absurd
    (not_given
    (c.in_err-write_record.ensures.result_value ∙ write_due _ _ xs (record_length * c.args.self.now.worked) c.requires.room checked))

pub returns : goal.returns
returns c =
    let a = c.args in
    let enclosed = sym c.in_ok-enclosed.ensures in
    let checked = enclosure_checked a.text.now room _ enclosed in
    let enough : c.in_ok-enclosed.enclosed.tests ≤ a.self.now.left = search rules in
    let left : c.in-Some.left ≡ a.self.now.left - c.in_ok-enclosed.enclosed.tests = search rules in
    let written = put_record _ _ a.buffer.now (record_length * a.self.now.worked) c.requires.room checked _ c.write_record.ensures.buf_after in
    stepped_letter (letter-enclosed a.text.now _ enclosed) (stepped_worked _ a.self.now a.buffer.now _ _ c.if-not-self.false enough left written)
