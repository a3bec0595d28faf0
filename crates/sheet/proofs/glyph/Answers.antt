-- `sheet::glyph` meets its contract: the count, then the check of k.
use Rattle.std.proofs.Common.{rules, ◌≡◌, sym, ap, ◌∙◌}
use borrow.Author.Tests.{le-leb}
use Rattle.answers.specs.Outcome.{given, refused, number_of, outcome}
use Rattle.sheet.proofs.Parts.{by_count, glyph_given}
use Rattle.sheet.proofs.glyph.Goals as goal

pub returns-in_err-count : goal.returns-in_err-count
returns-in_err-count c =
    let same : outcome c.from_residual.result ≡ refused (number_of c.in_err-count.field-0.0) = search rules in
    same ∙ sym (by_count c.args.sheet.now c.args.k (sym c.in_err-count.ensures))

pub returns-then-count-k : goal.returns-then-count-k
returns-then-count-k c =
    sym (by_count c.args.sheet.now c.args.k (sym c.in_ok-count.ensures) ∙ rw (le-leb c.in_ok-count.count c.args.k c.if-count-k.true))

pub returns : goal.returns
returns c =
    ap given c.place_at-place.ensures.0 ∙ sym (glyph_given c.args.sheet.now c.args.k c.in_ok-count.count (sym c.in_ok-count.ensures) c.if-count-k.false)
