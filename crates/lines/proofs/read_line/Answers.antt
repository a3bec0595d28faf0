-- `lines::read_line` meets its contract: each call finds the next part of the line, and the laws of `Lines` put them together.
use Rattle.std.proofs.Common.{◌≡◌, true, false, ℕ, ℤ, List, drop, refl, sym, ap, ap₂, ◌∙◌, subst, rules}
use Rattle.std.specs.Borrow.{Bor}
use mathlib.Core.Option.{none, some}
use Rattle.std.specs.Prelude.{Result, Option, Err, MatchResult}
use Rattle.answers.specs.declared.Refusal.{Refusal}
use Rattle.geometry.specs.declared.Point.{Point}
use Rattle.answers.specs.declared.Refusal.TheVariants.{BadLine}
use Rattle.numerals.specs.Numeral.{numeral}
use Rattle.numerals.specs.Places.{is_feed, ends, word, after_word}
use Rattle.lines.specs.Line.{fault, line_of, point}
use Rattle.lines.specs.LineAt.{first_line, after_line, after_spaces, line_naming}
use Rattle.lines.proofs.Lines.{Spaced, Numbered, line_blank, fault_first, fault_second, fault_third, line_point}
use Rattle.lines.proofs.read_line.Goals as goal

spaced : {bs cs : List ℕ} → cs ≡ after_spaces bs → Spaced bs cs
spaced e = record { is = e }

-- a number, and the spaces behind it
numbered : (cs behind ds : List ℕ) {z : ℤ} → (numeral (word cs) ≡ some z) × (behind ≡ after_word cs) → ds ≡ after_spaces behind → Numbered cs ds z
numbered cs behind ds n s = record { value = n.0; is = s ∙ ap after_spaces n.1 }

pub returns-in-Some : goal.returns-in-Some
returns-in-Some c =
    let e = c.in-Some.ensures in
    let l = line_blank (spaced c.skip_spaces-first.ensures) e.0 in
    (l.0, e.1 ∙ l.1)

module _ (text : List ℕ) where
  abbrev Answer : Result (Option Point × Bor (List ℕ)) Refusal → Type 0
  Answer r =
      MatchResult r (λ r. (line_of (first_line text) ≡ line_naming r.0) × (r.1.now ≡ after_line text))
      (λ e. (line_of (first_line text) ≡ fault) × (e ≡ BadLine))

  refusal : {r : Result (Option Point × Bor (List ℕ)) Refusal} → r ≡ Err BadLine → line_of (first_line text) ≡ fault → Answer r
  refusal same h = subst Answer (sym same) (h, refl)

pub returns-in_err-x : goal.returns-in_err-x
returns-in_err-x c =
    let none_read : numeral (word c.skip_spaces-first.result.now) ≡ none = search rules in
    refusal c.args.text.now (search rules) (fault_first (spaced c.skip_spaces-first.ensures) c.in_default.ensures none_read)

pub returns-in_err-y : goal.returns-in_err-y
returns-in_err-y c =
    let first = c.skip_spaces-first.result.now in
    let second = c.skip_spaces-second.result.now in
    let x : (numeral (word first) ≡ some c.in_ok-x.x) × (c.in_ok-x.behind.now ≡ after_word first) = search rules in
    let none_read : numeral (word second) ≡ none = search rules in
    refusal c.args.text.now (search rules)
    (fault_second (spaced c.skip_spaces-first.ensures) (numbered first _ second x c.skip_spaces-second.ensures) none_read)

pub returns-in_err-rest : goal.returns-in_err-rest
returns-in_err-rest c =
    let first = c.skip_spaces-first.result.now in
    let second = c.skip_spaces-second.result.now in
    let last = c.skip_spaces-last.result.now in
    let x : (numeral (word first) ≡ some c.in_ok-x.x) × (c.in_ok-x.behind.now ≡ after_word first) = search rules in
    let y : (numeral (word second) ≡ some c.in_ok-y.y) × (c.in_ok-y.after.now ≡ after_word second) = search rules in
    let no_end : ends is_feed last ≡ false = search rules in
    refusal c.args.text.now (search rules)
    (fault_third (spaced c.skip_spaces-first.ensures) (numbered first _ second x c.skip_spaces-second.ensures)
    (numbered second _ last y c.skip_spaces-last.ensures) no_end)

pub returns : goal.returns
returns c =
    let first = c.skip_spaces-first.result.now in
    let second = c.skip_spaces-second.result.now in
    let last = c.skip_spaces-last.result.now in
    let x : (numeral (word first) ≡ some c.in_ok-x.x) × (c.in_ok-x.behind.now ≡ after_word first) = search rules in
    let y : (numeral (word second) ≡ some c.in_ok-y.y) × (c.in_ok-y.after.now ≡ after_word second) = search rules in
    let end : (ends is_feed last ≡ true) × (c.in_ok-rest.rest.now ≡ drop 1 last) = search rules in
    let l =
    line_point (spaced c.skip_spaces-first.ensures) (numbered first _ second x c.skip_spaces-second.ensures)
    (numbered second _ last y c.skip_spaces-last.ensures) end.0 in
    (l.0 ∙ ap₂ (λ (x y : ℤ). point (record { x = x; y = y })) (search rules) (search rules), end.1 ∙ l.1)
