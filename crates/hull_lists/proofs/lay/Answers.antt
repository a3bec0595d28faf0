-- `hull_lists::lay` meets its contract: what the two chains give is `enclosed`.
use mathlib.Core.Path.{◌≡◌, sym, ap, ap₂, subst, ◌∙◌}
use mathlib.Core.List.{List, ◌++◌}
use Prim.Native.Nat.{ℕ, ◌+◌, ◌-◌, ◌*◌, ◌≤◌}
use native.Mathlib.Omega.{arith}
use lib.ListN.{length}
use Rattle.geometry.specs.declared.Point.{Point}
use Rattle.geometry.specs.Points.{points, point_at}
use Rattle.hull.specs.Chains.{inner}
use Rattle.hull.specs.Skimmed.{skim_chain}
use Rattle.hull_chains.specs.Spans.{span}
use Rattle.columns.specs.Columns.{column_count}
use Rattle.hull_lists.specs.Enclosed.{closed, enclosed}
use Rattle.joined_chains.specs.Laid.{laid, joined}
use Rattle.hull_chains.proofs.Spanning.{span-step, points-span}
use Rattle.hull_lists.proofs.Closing.{enclosed_is}
use Rattle.hull_lists.proofs.lay.Goals as goal
use Rattle.hull_lists.proofs.lay.Goals.{After-chain_of-upper}

-- the points of the two chains
module _ (c : After-chain_of-upper) where
  abbrev m : ℕ
  m = c.args.m

  abbrev A : List Point
  A = span 0 m c.args.lows.now

  abbrev B : List Point
  B = span (column_count - m) column_count c.args.highs.now

  lower_is : points c.chain_of-lower.result.now ≡ skim_chain (closed A (point_at c.args.highs.now (column_count - m)))
  lower_is = c.chain_of-lower.ensures.points
      ∙ ap skim_chain (c.close-n.ensures.left 0 (omega (arith, c.requires.le_m.0)) ∙ ap (closed A) c.point_at-z.ensures)

  upper_is : points c.chain_of-upper.result.now ≡ skim_chain (closed B (point_at c.args.lows.now 0))
  upper_is = c.chain_of-upper.ensures.points
      ∙ ap skim_chain (points-span (column_count - m) c.close-v.result c.close-v.new.list
      ∙ c.close-v.ensures.left (column_count - m) (omega (arith, c.requires.le_m.0)) ∙ ap (closed B) c.point_at-a.ensures)

  hull_is : joined c.chain_of-lower.result.now c.chain_of-upper.result.now ≡ enclosed A B
  hull_is = ap₂ (λ (C D : List Point). C ++ inner D) lower_is upper_is
      ∙ sym (enclosed_is (point_at c.args.lows.now 0) (point_at c.args.highs.now (column_count - m)) A B (span 1 m c.args.lows.now)
      (span (column_count - m + 1) column_count c.args.highs.now)
      (span-step 0 m c.args.lows.now (omega (arith, c.requires.le_m.0)) (omega (arith, c.requires.le_m.1, c.requires.le_m.2)))
      (span-step (column_count - m) column_count c.args.highs.now (omega (arith, c.requires.le_m.0)) (omega (arith, c.requires.le_m.3))))

pub join-requires-clause-room : goal.join-requires-clause-room
join-requires-clause-room c =
    subst (λ (H : List Point). 2 * length H ≤ length c.args.list.now) (sym (hull_is (goal.at.join-requires-clause-room c).After-chain_of-upper))
    c.requires.highs_in_bounds

pub returns-clause-size : goal.returns-clause-size
returns-clause-size c = c.join.ensures.size ∙ ap length (hull_is (goal.at.returns-clause-size c).After-chain_of-upper)

pub returns-clause-left : goal.returns-clause-left
returns-clause-left c =
    c.join.ensures.left
    ∙ ap (λ (H : List Point). laid H (length c.args.list.now)) (hull_is (goal.at.returns-clause-left c).After-chain_of-upper)
