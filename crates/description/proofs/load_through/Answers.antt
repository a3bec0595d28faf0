-- `description::load_through` meets its contract: the answer is that for the list that is read into; the points are copied where nothing is refused.
use Prim.Native.Nat.{ℕ, ◌*◌, ◌≤◌}
use mathlib.Core.Path.{◌≡◌, sym, ◌∙◌}
use mathlib.Core.List.{List}
use native.Mathlib.Omega.{arith}
use borrow.Author.Rules.{rules}
use lib.IntN.{ℤ}
use lib.ListN.{length}
use Rattle.answers.specs.Outcome.{Outcome, given, refused, number_of, outcome}
use Rattle.description.specs.Description.{named, load_of}
use Rattle.description.proofs.Loading.{after_refused, after_given, front_pasted}
use Rattle.description.proofs.AcceptedTexts.{load_same}
use Rattle.description.proofs.load_through.Goals as goal

-- the answer is the same whichever list is lent
judged : (text : List ℕ) (found list : List ℤ) {o : Outcome ℕ} → (8192 ≤ length found) × (8192 ≤ length list)
    → o ≡ load_of text found → o ≡ load_of text list
judged text found list r e = e ∙ load_same text found list r.0 r.1

pub returns-in_err-n : goal.returns-in_err-n
returns-in_err-n c =
    let text = c.args.text.now in
    let list = c.args.list.now in
    let k = number_of c.in_err-n.field-0.0 in
    let same : outcome c.from_residual.result ≡ refused k = search rules in
    let e : refused k ≡ load_of text list = judged text c.args.found.now list c.requires c.in_err-n.ensures.result_value in
    record { result_value = same ∙ e; list_after = sym (after_refused text list k (sym e)) }

pub returns : goal.returns
returns c =
    let text = c.args.text.now in
    let list = c.args.list.now in
    let n = c.in_ok-n.n in
    let e : given n ≡ load_of text list = judged text c.args.found.now list c.requires c.in_ok-n.ensures.result_value in
    let kept = c.in_ok-n.ensures.kept in
    let fits : 2 * n ≤ length c.load_into.new.list = omega (arith, kept.1) in
    record {
      result_value = e;
      list_after =
          c.copy_front.ensures
          ∙ front_pasted list c.load_into.new.list (named text) (2 * n) fits kept.0
          ∙ sym (after_given text list n (sym e));
    }
