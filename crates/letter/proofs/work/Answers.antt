-- `letter::work` meets its contract: a short buffer is refused first; then each case of the enclosure leads where `letter_in` says.
use mathlib.Core.Path.{◌≡◌, sym, ap, ◌∙◌}
use mathlib.Core.List.{List}
use Prim.Native.Nat.{ℕ}
use Rattle.answers.specs.Outcome.{Outcome}
use Rattle.answers.proofs.OutcomeLaws.{not_given}
use Rattle.letter.specs.Letter.{Letter, tests_in, letter_in, buffer_after}
use Rattle.letter.proofs.Whole.{letter_given, letter_written, write_due}
use Rattle.letter.proofs.work.Goals as goal

-- what is answered and left, by the letter due
due : (text buf : List ℕ) {o : Outcome Letter} → letter_in text buf ≡ o
    → (tests_in o ≡ tests_in (letter_in text buf)) × (buffer_after o buf ≡ buffer_after (letter_in text buf) buf)
due text buf e = (sym (ap tests_in e), sym (ap (λ (o : Outcome Letter). buffer_after o buf) e))

pub returns : goal.returns
returns c =
    let text = c.args.text.now in
    let buf = c.args.buf.now in
    let enclosed = sym c.in_ok-enclosed.ensures in
    let left = due text buf (letter_given text buf c.if-buf-lt-RECORD_LENGTH.false _ enclosed) in
    record { result_value = left.0; buf_after = c.write_record.ensures.buf_after ∙ letter_written text buf c.if-buf-lt-RECORD_LENGTH.false _ enclosed ∙ left.1 }

-- the writer has no refusal for what the engine gives
pub returns-in_err-write_record : goal.returns-in_err-write_record
returns-in_err-write_record c =
    let due = write_due c.args.text.now c.args.buf.now c.if-buf-lt-RECORD_LENGTH.false _ (sym c.in_ok-enclosed.ensures) in
    absurd (not_given (c.in_err-write_record.ensures.result_value ∙ due))
