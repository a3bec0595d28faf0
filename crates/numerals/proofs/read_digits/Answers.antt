use Prim.Native.Nat.{◌<◌, ◌≤◌}
use mathlib.Core.Path.{◌≡◌, sym, ◌∙◌}
use borrow.Author.Rules.{rules}
use lib.ListN.{get_or}
use Rattle.numerals.proofs.Digits.{many, reading_next, digits_over, low_byte, high_byte, none_read, unended, all_read}
use Rattle.numerals.proofs.read_digits.Goals as goal
use Rattle.numerals.proofs.read_digits.Goals.{then-rest-text-via-then-rest-text, then-rest-text-via-else-rest-text+then-not-word_ends}

pub loop-rest-preserved : goal.loop-rest-preserved
loop-rest-preserved c =
    let l = c.loop-rest in
    let low : 48 ≤ get_or l.rest.now 0 0 = search rules in
    let high : get_or l.rest.now 0 0 < 58 = search rules in
    reading_next c.args.text.now l.rest.now l.v c.from.result c.in-48-to-57.len_at_least low high c.from.ensures c.if-text-rest-eq-MOST.false l.invariant

pub returns-then-rest-text : goal.returns-then-rest-text
returns-then-rest-text c =
    let l = c.loop-rest in
    let over : many l.rest.now ≡ 0 = search (rules, digits_over, low_byte, high_byte) in
    elim c.then-rest-text.branch [
      | then-rest-text-via-then-rest-text w ↦ none_read l.invariant over w.if-rest-text.true
      | then-rest-text-via-else-rest-text+then-not-word_ends w ↦ unended l.invariant over (sym w.word_ends.ensures ∙ w.if-not-word_ends.true)
    ]

pub returns : goal.returns
returns c =
    let l = c.loop-rest in
    let over : many l.rest.now ≡ 0 = search (rules, digits_over, low_byte, high_byte) in
    all_read l.invariant over c.if-rest-text.false (sym c.word_ends.ensures ∙ c.if-not-word_ends.false)
