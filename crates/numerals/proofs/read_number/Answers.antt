-- `numerals::read_number` meets its contract: the digits behind the sign, and the sign, make the number.
use Rattle.std.proofs.Common.{◌≡◌, Bool, ℕ, List, sym, ap, ◌∙◌, subst}
use mathlib.Core.Option.{Option, none, some, map}
use mir.Syntax.{w16}
use mir.Facts.{to_z-of_z}
use Rattle.std.specs.Option.{MatchOption}
use Rattle.integers.specs.Order.{signed}
use Rattle.numerals.specs.Numeral.{digits, numeral}
use Rattle.numerals.specs.Places.{is_byte, starts, after_sign, word, after_word}
use Rattle.numerals.proofs.Digits.{numeral-signed, sign_ahead}
use Rattle.numerals.proofs.read_number.Goals as goal

-- the word's number, by what its digits are
by_digits : (text ds : List ℕ) → ds ≡ after_sign text → {o : Option ℕ} → digits (word ds) ≡ o
    → numeral (word text) ≡ map (signed (starts (is_byte 45) text)) o
by_digits text ds e h = numeral-signed text ∙ ap (map (signed (starts (is_byte 45) text))) (ap (λ (l : List ℕ). digits (word l)) (sym e) ∙ h)

pub returns-in_err-v : goal.returns-in_err-v
returns-in_err-v c =
    let text = c.args.text.now in
    subst (λ r. MatchOption r (numeral (word text) ≡ none) (λ r. (numeral (word text) ≡ some r.0) × (r.1.now ≡ after_word text))) (sym c.from_residual.ensures)
    (by_digits text _ c.past_sign.ensures c.in_err-v.ensures)

pub returns : goal.returns
returns c =
    let text = c.args.text.now in
    let read = c.in_ok-v.ensures in
    let signs = ap (λ (minus : Bool). signed minus c.in_ok-v.v) c.has_minus.ensures in (
      by_digits text _ c.past_sign.ensures read.0 ∙ ap some (sym (to_z-of_z {w = w16} (record { sfits = c.with_sign.type_inv }) ∙ c.with_sign.ensures ∙ signs)),
      read.1 ∙ ap after_word c.past_sign.ensures ∙ sign_ahead text,
    )
