-- `hull_lists::reduce_columns` meets its contract: what the sides of the list enclose is its hull.
use mathlib.Core.Path.{◌≡◌, ap, ap₂, ◌∙◌}
use mathlib.Core.List.{List, reverse}
use Prim.Native.Nat.{ℕ, ◌-◌, ◌≤◌}
use native.Mathlib.Omega.{arith}
use lib.IntN.{ℤ, pos}
use lib.ListN.{length, length-replicate}
use Rattle.geometry.specs.declared.Point.{Point}
use Rattle.geometry.specs.Points.{points}
use Rattle.geometry.proofs.EmBox.{all_inside}
use Rattle.geometry.proofs.PointRows.{points_some}
use Rattle.hull.specs.Chains.{hull_of}
use Rattle.hull.proofs.Different.{hull_length}
use Rattle.hull_chains.specs.Spans.{span}
use Rattle.hull_lists.specs.Enclosed.{enclosed}
use Rattle.joined_chains.specs.Laid.{laid}
use Rattle.columns.specs.Columns.{side, column_count, side_length}
use Rattle.hull_chains.proofs.Spanning.{points_most}
use Rattle.columns.proofs.SideLaws.{sides_are, sides_some}
use Rattle.hull_lists.proofs.Enclosing.{enclosed_only}
use Rattle.hull_lists.proofs.reduce_columns.Goals as goal
use Rattle.hull_lists.proofs.reduce_columns.Goals.{After-put_columns-m}

-- the sides, and the hull
module _ (c : After-put_columns-m) where
  abbrev P : List Point
  P = points c.args.list.now

  abbrev low : List ℤ
  low = c.args.low.now

  abbrev high : List ℤ
  high = c.args.high.now

  abbrev m : ℕ
  m = c.put_columns-m.result

  hull_is : enclosed (span 0 m c.put_columns-m.new.lows) (span (column_count - m) column_count c.put_columns-m.new.highs) ≡ hull_of P
  hull_is = ap₂ enclosed c.put_columns-m.ensures.1.lowest c.put_columns-m.ensures.1.highest
      ∙ enclosed_only P (side column_count low high low) (reverse (side column_count low high high)) (sides_are c.requires.1 (all_inside P c.requires.0.boxed))

  some : 1 ≤ m
  some = omega
      (arith, c.put_columns-m.ensures.1.count, sides_some c.requires.1 (all_inside P c.requires.0.boxed) (points_some c.args.list.now c.requires.0.some))

pub lay-requires : goal.lay-requires
lay-requires c =
    let here = (goal.at.lay-requires c).After-put_columns-m in record {
      le_m = (
        some here,
        c.put_columns-m.ensures.0,
        c.put_columns-m.auto.lows ∙ length-replicate side_length (pos 0),
        c.put_columns-m.auto.highs ∙ length-replicate side_length (pos 0),
      );
      highs_in_bounds = omega (arith, ap length (hull_is here), hull_length (P here), points_most c.args.list.now);
    }

pub returns : goal.returns
returns c =
    let here = (goal.at.returns c).After-put_columns-m in
    let l = c.lay in record {
      size = l.ensures.size ∙ ap length (hull_is here);
      left = l.ensures.left ∙ ap (λ (H : List Point). laid H (length c.args.list.now)) (hull_is here);
    }
