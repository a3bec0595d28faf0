use Rattle.std.proofs.Common.{rules, ◌≡◌, ◌+◌, ◌-◌, ◌*◌, get_or, set, ℤ, pos, to_z, of_z, ap, ◌∙◌, List}
use mir.Syntax.{w16}
use Rattle.point_moves.proofs.Shift.{shift_more}
use Rattle.point_moves.proofs.move_to_front.Goals as goal

pub loop-k-preserved : goal.loop-k-preserved
loop-k-preserved c =
    let l : List ℤ = c.loop-k.list in
    let k = c.loop-k.k in
    let v : ℤ = get_or l (k - 1) (pos 0) in
    let read : to_z w16 (of_z w16 v) ≡ v = search rules in
    ap (set l (k - 1 + 2)) read
    ∙ ap (λ m. set m (k - 1 + 2) (get_or m (k - 1) (pos 0))) c.loop-k.invariant
    ∙ shift_more (pos 0) c.args.list.now (2 * c.args.i) c.requires k c.loop-k-test.true c.loop-k.auto.k
