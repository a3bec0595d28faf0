-- `traced_points::has_room` meets its contract: the ends, moved by a number of 16 bits, fit 64.
use mathlib.Core.Path.{◌∙◌}
use lib.IntN.{◌+ℤ◌, ◌-ℤ◌}
use mir.Syntax.{w64}
use mir.Val.{to_z, of_z}
use Rattle.integers.specs.Order.{between}
use Rattle.integers.proofs.Bounds.{Value, v_add, v_neg, v_back, v_leaf, v_eq, v_fits, reads_as}
use Rattle.geometry.proofs.Coordinates.{widened}
use Rattle.traced_points.proofs.has_room.Goals as goal
use Rattle.traced_points.proofs.has_room.Goals.{After-wide-w}

-- t, as `wide` gives it; and the two ends
abbrev t_value : (c : After-wide-w) → Value (to_z w64 (of_z w64 c.wide-w.result))
t_value c = v_back w64 (v_eq c.wide-w.ensures (v_fits c.ranges.t))

abbrev low_end : (c : After-wide-w) → Value (to_z w64 (of_z w64 c.args.low) +ℤ to_z w64 (of_z w64 c.wide-w.result))
low_end c = v_add (v_leaf w64 c.requires.0) (t_value c)

abbrev high_end : (c : After-wide-w) → Value (to_z w64 (of_z w64 c.args.high) -ℤ to_z w64 (of_z w64 c.wide-w.result))
high_end c = v_add (v_leaf w64 c.requires.1) (v_neg (t_value c))

pub returns : goal.returns
returns c =
    let s = (goal.at.returns c).After-wide-w in
    c.is_between.ensures
    ∙ (λ i. between (reads_as (v_back w64 (low_end s)) tt i) (widened c.args.z c.ranges.z c.wide.ensures i)
    (reads_as (v_back w64 (high_end s)) tt i))
