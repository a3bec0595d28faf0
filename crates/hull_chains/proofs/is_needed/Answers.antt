-- `hull_chains::is_needed` meets its contract, in its two cases.
use mathlib.Core.Path.{sym, ap, ◌∙◌}
use native.Mathlib.Omega.{arith}
use Rattle.geometry.specs.Points.{points}
use Rattle.hull.specs.Skimmed.{is_needed}
use Rattle.hull.proofs.Skimmed.{needed_first, needed_is}
use lib.ListN.{drop}
use Rattle.hull_chains.proofs.Spanning.{points_from_back, points_none}
use Rattle.hull_chains.proofs.is_needed.Goals as goal

pub returns-then-chain-lt2 : goal.returns-then-chain-lt2
returns-then-chain-lt2 c =
    sym (ap (is_needed c.args.a c.args.p) (points_none c.args.chain.now (omega (arith, c.if-chain-lt2.true))) ∙ needed_first c.args.a c.args.p)

pub returns : goal.returns
returns c =
    let l = c.args.chain.now in
    let t = c.point_at.result in
    c.turns_left.ensures
    ∙ sym (ap (is_needed c.args.a c.args.p) (points_from_back 0 l t (omega (arith, c.if-chain-lt2.false)) c.point_at.ensures)
    ∙ needed_is c.args.a c.args.p t (drop 1 (points l)))
