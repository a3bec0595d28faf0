-- `drawn_points::append_point` meets its contract: the checks come in the order of `taken_of`, and a point that is taken is put where the list holds its n-th.
use mathlib.Core.Path.{◌≡◌, sym, ap, ◌∙◌}
use native.Mathlib.Numerals.{add-one}
use borrow.Author.Rules.{rules}
use Rattle.answers.specs.Outcome.{given, refused, number_of, outcome}
use Rattle.drawn_points.proofs.Behind.{taken_short, taken_refused, taken_full, taken_given, refused_after, given_after, has_room, put_behind_lem}
use Rattle.drawn_points.proofs.append_point.Goals as goal

pub returns-then-list-lt-NUMBERS : goal.returns-then-list-lt-NUMBERS
returns-then-list-lt-NUMBERS c =
    let a = c.args in
    let left = refused_after a.p a.list.now a.n (taken_short a.p a.list.now a.n c.if-list-lt-NUMBERS.true) in
    record { result_value = left.0; list_after = left.1 }

pub returns-in_err-q : goal.returns-in_err-q
returns-in_err-q c =
    let a = c.args in
    let same : outcome c.from_residual.result ≡ refused (number_of c.in_err-q.field-0.0) = search rules in
    let left = refused_after a.p a.list.now a.n (taken_refused a.p a.list.now a.n c.if-list-lt-NUMBERS.false (sym c.in_err-q.ensures)) in
    record { result_value = same ∙ left.0; list_after = left.1 }

pub returns-then-n-ge-POINTS : goal.returns-then-n-ge-POINTS
returns-then-n-ge-POINTS c =
    let a = c.args in
    let full = taken_full a.p a.list.now a.n c.if-list-lt-NUMBERS.false c.in_ok-q.q (sym c.in_ok-q.ensures) c.if-n-ge-POINTS.true in
    let left = refused_after a.p a.list.now a.n full in
    record { result_value = left.0; list_after = left.1 }

pub returns : goal.returns
returns c =
    let a = c.args in
    let q = c.in_ok-q.q in
    let taken = taken_given a.p a.list.now a.n c.if-list-lt-NUMBERS.false q (sym c.in_ok-q.ensures) c.if-n-ge-POINTS.false in
    let left = given_after a.p a.list.now a.n q taken in
    record {
      result_value = ap given (add-one a.n) ∙ left.0;
      list_after = c.put_point.ensures ∙ put_behind_lem a.list.now a.n q (has_room c.if-list-lt-NUMBERS.false c.if-n-ge-POINTS.false) ∙ left.1;
    }
