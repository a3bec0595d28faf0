-- `chosen_points::smallest_disk_through` meets its contract: each end is one of the row of checks, and the last two are what the search decides.
use borrow.Author.Rules.{rules}
use mathlib.Core.Path.{◌≡◌, sym, ap, subst, ◌∙◌}
use mathlib.Core.Bool.{true}
use mathlib.Core.List.{List}
use native.Mathlib.Omega.{arith}
use Rattle.answers.specs.Outcome.{given}
use Rattle.geometry.specs.declared.Point.{Point}
use Rattle.geometry.specs.Points.{points}
use Rattle.point_lists.specs.Sets.{has, all_of}
use Rattle.engine.proofs.Accepted.{accepted_list}
use Rattle.engine.proofs.Checks.{even_length, some_length}
use Rattle.fitting.specs.Decides.{Found, NoneFits}
use Rattle.fitting.proofs.Decided.{smallest_given, none_refused}
use Rattle.chosen_points.specs.Chosen.{chosen, fixed}
use Rattle.chosen_points.proofs.Choice.{fixed_some, fixed_most, fixed_different, through_refused, through_absent, through_present, chosen-boxed}
use Rattle.chosen_points.proofs.smallest_disk_through.Goals as goal

pub returns-in_err-check : goal.returns-in_err-check
returns-in_err-check c =
    let e = sym (through_refused c.args.list.now c.args.choice c.in_err-check.ensures) in
    search (rules, e)

pub returns-then-not-has_chosen : goal.returns-then-not-has_chosen
returns-then-not-has_chosen c = record {
  answer = sym (through_absent c.args.list.now c.args.choice c.in_ok-check.ensures (sym c.has_chosen.ensures ∙ c.if-not-has_chosen.true));
}

pub smallest_fit-requires : goal.smallest_fit-requires
smallest_fit-requires c =
    let l = c.args.list.now in
    let picked = c.args.choice in
    let r = accepted_list l _ c.in_ok-check.ensures in
    let is = c.boundary_of-fixed.ensures in
    let present : all_of (has (points l)) (chosen picked) ≡ true = sym c.has_chosen.ensures ∙ c.if-not-has_chosen.false in (
      record { some = rw is (fixed_some picked); different = rw is (fixed_different picked); boxed = rw is (chosen-boxed l picked r.boxed present) },
      record {
        even = even_length l r.even;
        some = some_length l r.some;
        few = omega (arith, r.few, even_length l r.even);
        boxed = r.boxed;
      },
    )

pub returns-in_default : goal.returns-in_default
returns-in_default c =
    let l = c.args.list.now in
    let picked = c.args.choice in
    let none : NoneFits (fixed picked) (points l) = subst (λ (R : List Point). NoneFits R (points l)) c.boundary_of-fixed.ensures c.in_default.ensures in
    let due = none_refused (fixed picked) (points l) (fixed_most picked) (fixed_some picked) (fixed_different picked) none in
    let present = sym c.has_chosen.ensures ∙ c.if-not-has_chosen.false in
    record { answer = sym (through_present l picked c.in_ok-check.ensures present ∙ due) }

pub written-requires : goal.written-requires
written-requires c = record { proper = c.in-Some.ensures.proper; small = c.in-Some.ensures.small }

pub returns : goal.returns
returns c =
    let l = c.args.list.now in
    let picked = c.args.choice in
    let found : Found (fixed picked) (points l) c.in-Some.d =
    subst (λ (R : List Point). Found R (points l) c.in-Some.d) c.boundary_of-fixed.ensures c.in-Some.ensures in
    let due = smallest_given (fixed picked) (points l) (fixed_most picked) (fixed_some picked) (fixed_different picked) found.smallest in
    let present = sym c.has_chosen.ensures ∙ c.if-not-has_chosen.false in
    record { answer = sym (through_present l picked c.in_ok-check.ensures present ∙ due ∙ ap given (sym c.written.ensures)) }
