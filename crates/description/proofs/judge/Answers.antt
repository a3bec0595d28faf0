use Prim.Native.Nat.{◌+◌, ◌≤◌}
use mathlib.Core.Path.{◌≡◌, sym, ◌∙◌, ap, subst}
use mathlib.Core.List.{List}
use mathlib.Core.Bool.{Bool}
use borrow.Author.Rules.{rules}
use borrow.Author.Tests.{eq-eqb, ne_eqb}
use lib.IntN.{ℤ}
use lib.ListN.{length}
use Rattle.answers.specs.Outcome.{given, refused, refuse_if, outcome}
use Rattle.lines.specs.LineAt.{line_naming}
use Rattle.description.proofs.Judging.{Judging, next_shorter, judge_fault, judge_outside, judge_many, judging_blank, judging_point, judging_over, judging_kept}
use Rattle.description.proofs.judge.Goals as goal

pub returns-in_err-named-clause-result_value : goal.returns-in_err-named-clause-result_value
returns-in_err-named-clause-result_value c =
    let l = c.loop-rest in
    let some_left : 1 ≤ length l.rest.now = search rules in
    let same : outcome c.from_residual.result ≡ refused 2 = search rules in
    same ∙ sym (judge_fault l.rest.now some_left l.n c.in_err-named.ensures.0) ∙ l.invariant.verdict

pub returns-then-not-in_em_box-clause-result_value : goal.returns-then-not-in_em_box-clause-result_value
returns-then-not-in_em_box-clause-result_value c =
    let l = c.loop-rest in
    let some_left : 1 ≤ length l.rest.now = search rules in
    let names = c.in_ok-named.ensures.0 ∙ ap line_naming c.in-Some.is in
    sym (judge_outside l.rest.now some_left l.n c.in-Some.p names (sym c.in_em_box.ensures ∙ c.if-not-in_em_box.true)) ∙ l.invariant.verdict

pub returns-then-n-ge-POINTS-clause-result_value : goal.returns-then-n-ge-POINTS-clause-result_value
returns-then-n-ge-POINTS-clause-result_value c =
    let l = c.loop-rest in
    let some_left : 1 ≤ length l.rest.now = search rules in
    let names = c.in_ok-named.ensures.0 ∙ ap line_naming c.in-Some.is in
    sym (judge_many l.rest.now some_left l.n c.in-Some.p names (sym c.in_em_box.ensures ∙ c.if-not-in_em_box.false) c.if-n-ge-POINTS.true)
    ∙ l.invariant.verdict

pub loop-rest-smaller-else-n-ge-POINTS : goal.loop-rest-smaller-else-n-ge-POINTS
loop-rest-smaller-else-n-ge-POINTS c =
    let some_left : 1 ≤ length c.loop-rest.rest.now = search rules in
    next_shorter c.loop-rest.rest.now some_left c.in_ok-named.next.now c.in_ok-named.ensures.1

pub loop-rest-preserved-else-n-ge-POINTS : goal.loop-rest-preserved-else-n-ge-POINTS
loop-rest-preserved-else-n-ge-POINTS c =
    let l = c.loop-rest in
    let text = c.args.text.now in
    let found = c.args.found.now in
    let next = c.in_ok-named.next.now in
    let some_left : 1 ≤ length l.rest.now = search rules in
    let names = c.in_ok-named.ensures.0 ∙ ap line_naming c.in-Some.is in
    subst (λ (f : List ℤ). Judging text found f next (l.n + 1)) (sym c.put_point.ensures)
    (judging_point text found l.found l.rest.now l.n l.invariant some_left next c.in_ok-named.ensures.1 c.in-Some.p names
    (sym c.in_em_box.ensures ∙ c.if-not-in_em_box.false) c.if-n-ge-POINTS.false c.requires)

pub loop-rest-smaller : goal.loop-rest-smaller
loop-rest-smaller c =
    let some_left : 1 ≤ length c.loop-rest.rest.now = search rules in
    next_shorter c.loop-rest.rest.now some_left c.in_ok-named.next.now c.in_ok-named.ensures.1

pub loop-rest-preserved : goal.loop-rest-preserved
loop-rest-preserved c =
    let l = c.loop-rest in
    let some_left : 1 ≤ length l.rest.now = search rules in
    judging_blank c.args.text.now c.args.found.now l.found l.rest.now l.n l.invariant some_left c.in_ok-named.next.now c.in_ok-named.ensures.1
    (c.in_ok-named.ensures.0 ∙ ap line_naming c.in_default.is)

pub returns-then-n-eq0-clause-result_value : goal.returns-then-n-eq0-clause-result_value
returns-then-n-eq0-clause-result_value c =
    let l = c.loop-rest in
    let over : length l.rest.now ≡ 0 = search rules in
    sym (ap (λ (b : Bool). refuse_if b 5 (given l.n)) (eq-eqb l.n 0 c.if-n-eq0.true))
    ∙ sym (judging_over c.args.text.now c.args.found.now l.found l.rest.now l.n l.invariant over)

pub returns : goal.returns
returns c =
    let l = c.loop-rest in
    let over : length l.rest.now ≡ 0 = search rules in
    record {
      result_value =
          sym (ap (λ (b : Bool). refuse_if b 5 (given l.n)) (ne_eqb l.n 0 c.if-n-eq0.false))
          ∙ sym (judging_over c.args.text.now c.args.found.now l.found l.rest.now l.n l.invariant over);
      kept = (judging_kept c.args.text.now c.args.found.now l.found l.rest.now l.n l.invariant over, l.invariant.few);
    }
