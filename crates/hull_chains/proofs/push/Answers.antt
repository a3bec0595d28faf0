-- `hull_chains::push` meets its contract.
use mathlib.Core.Path.{◌≡◌, sym, ap, ◌∙◌}
use mathlib.Core.List.{List, ◌∷◌}
use Prim.Native.Nat.{ℕ, ◌+◌, ◌-◌, ◌*◌, ◌≤◌}
use native.Mathlib.Omega.{arith}
use lib.IntN.{ℤ}
use lib.ListN.{drop, length, length-drop, length-take}
use lib.Seq.{drop-drop}
use Rattle.geometry.specs.declared.Point.{Point}
use Rattle.geometry.specs.Points.{points}
use Rattle.hull.specs.Chains as Chains
use Rattle.hull_chains.proofs.Spanning.{put-points, points_tail}
use Rattle.hull_chains.proofs.push.Goals as goal
use Rattle.hull_chains.proofs.push.Goals.{After-kept_from}

room : (c : After-kept_from) → 2 * (c.args.m + c.kept_from.result) ≤ length c.args.list.now
room c =
    let size = length-take (length c.args.list.now - 2 * c.args.m) (drop (2 * c.args.m) c.args.list.now) in
    omega (arith, c.kept_from.ensures.0, size, length-drop (2 * c.args.m) c.args.list.now, c.requires)

pub overflow_add-k : goal.overflow_add-k
overflow_add-k c = omega (arith, room (goal.at.overflow_add-k c).After-kept_from)

pub put_point-requires : goal.put_point-requires
put_point-requires c = omega (arith, room (goal.at.put_point-requires c).After-kept_from, c.requires)

pub returns-clause-room : goal.returns-clause-room
returns-clause-room c =
    (omega (arith, c.requires), omega (arith, room (goal.at.returns-clause-room c).After-kept_from, c.requires))

pub returns-clause-left : goal.returns-clause-left
returns-clause-left c =
    let l = c.args.list.now in
    let m = c.args.m in
    let k = c.kept_from.result in
    let p = c.args.p in
    let next : m + k - 1 + 1 ≡ m + k = omega (arith, c.requires) in
    let fits = room (goal.at.returns-clause-left c).After-kept_from in
    ap (λ (r : List ℤ). drop (m + k - 1) (points r)) c.put_point.ensures
    ∙ put-points (m + k - 1) p l (omega (arith, fits, c.requires))
    ∙ ap {B = List Point} (λ Q. p ∷ Q) (ap (λ (j : ℕ). drop j (points l)) next ∙ sym (drop-drop k m (points l)))
    ∙ ap {B = List Point} (λ Q. p ∷ drop k Q) (sym (points_tail m l))
    ∙ sym c.kept_from.ensures.1 ∙ ap (Chains.push p) (points_tail m l)
