-- `drawn_points::judge_floats` meets its contract: each float is read first, and what both are read as decides as `judged` has it.
use mathlib.Core.Path.{◌≡◌, sym, ◌∙◌, ap}
use borrow.Author.Rules.{rules}
use mir.Syntax.{w64}
use mir.Val.{to_z, of_z}
use Rattle.point_lists.proofs.Sets.{point_path}
use Rattle.whole_floats.specs.Near.{whole_or_11}
use Rattle.drawn_points.specs.Judging.{boxed}
use Rattle.drawn_points.proofs.Boxes.{floats-judged}
use Rattle.drawn_points.proofs.judge_floats.Goals as goal

pub returns : goal.returns
returns c =
    let a = c.in_ok-a.a in
    let b = c.in_ok-b.b in
    let a_back : to_z w64 (of_z w64 a) ≡ a = search rules in
    let b_back : to_z w64 (of_z w64 b) ≡ b = search rules in
    c.point_in_box.ensures
    ∙ ap boxed (point_path a_back b_back)
    ∙ floats-judged c.args.x c.args.y a b (sym (ap whole_or_11 c.in_ok-a.ensures.ok_part) ∙ c.whole_number.ensures)
    (sym (ap whole_or_11 c.in_ok-b.ensures.ok_part) ∙ c.whole_number-2.ensures)
