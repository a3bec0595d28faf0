use mathlib.Core.Path.{◌≡◌, sym, ap, ◌∙◌}
use mathlib.Core.List.{List}
use Prim.Native.Nat.{ℕ, ◌≤◌}
use lib.IntN.{ℤ}
use lib.ListN.{length}
use borrow.Author.Rules.{rules}
use Rattle.answers.specs.Outcome.{Outcome, number_of}
use Rattle.description.specs.Description.{load_of, room}
use Rattle.description.proofs.AcceptedTexts.{room_long, load_same}
use Rattle.sheet.specs.Sheet.{part_at}
use Rattle.sheet_estimate.proofs.Told.{load_at, told_taken, told_faulty, told_answer, told_points, told_refusals}
use Rattle.sheet_estimate.proofs.estimate_glyphs.Goals as goal
use Rattle.sheet_estimate.proofs.estimate_glyphs.Goals.{in-Ok, in-Err}

-- what the loader answers does not depend on the list
loaded : (s : List ℕ) (i : ℕ) (text : List ℕ) (list : List ℤ) {o : Outcome ℕ} → text ≡ part_at s i → 8192 ≤ length list → o ≡ load_of text list → load_at s i ≡ o
loaded s i text list part long e = ap (λ (t : List ℕ). load_of t room) (sym part) ∙ sym (load_same text list room long room_long) ∙ sym e

pub loop-i-preserved : goal.loop-i-preserved
loop-i-preserved c =
    let z = c.loop-i.invariant in
    let p = c.requires in
    let long : 8192 ≤ length c.loop-i.list = search rules in
    elim c.match-load_into.branch [
      | in-Ok w ↦
          rw (w.points-is, w.refusals-is, w.total-is, w.most_tests.ensures)
          (told_taken z _ c.loop-i-test.true p.points_room p.refusals_room (loaded _ _ _ _ c.part_at-text.ensures long w.in-Ok.ensures.result_value))
      | in-Err w ↦
          let number : w.from-in-Err.result ≡ number_of w.in-Err.r = search rules in
          rw (w.points-is, w.refusals-is, w.total-is, number)
          (told_faulty z _ c.loop-i-test.true p.points_room p.refusals_room (loaded _ _ _ _ c.part_at-text.ensures long w.in-Err.ensures.result_value))
    ]

pub returns : goal.returns
returns c =
    let z = c.loop-i.invariant in
    let p = c.requires in
    let over = c.loop-i-test.false in
    record { result_value = told_answer z over; points_after = told_points z over p.points_room; refusals_after = told_refusals z over p.refusals_room }
