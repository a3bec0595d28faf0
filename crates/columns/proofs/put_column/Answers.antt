-- `columns::put_column` meets its contract, in its two cases.
use mathlib.Core.Path.{◌≡◌, refl, sym, ap, ap₂, ◌∙◌}
use Prim.Native.Nat.{ℕ, ◌-◌}
use native.Mathlib.Omega.{arith}
use lib.IntN.{ℤ, pos}
use lib.ListN.{get_or}
use lib.Signed.{lt_z}
use mir.Syntax.{w16}
use mir.Val.{to_z, of_z}
use Rattle.geometry.proofs.Coordinates.{stored}
use Rattle.point_lists.specs.Put.{put_at}
use Rattle.point_lists.proofs.Sets.{point_path}
use Rattle.columns.specs.Columns.{at, column_count}
use Rattle.columns.proofs.Writing.{moved, skipped, one_more}
use Rattle.columns.proofs.put_column.Goals as goal
use Rattle.columns.proofs.put_column.Goals.{After-highs-1}

-- what was written, and what the test says
module _ (c : After-highs-1) where
  abbrev x : ℕ
  x = c.args.x

  abbrev lo : ℤ
  lo = get_or c.args.low.now x (pos 0)

  abbrev hi : ℤ
  hi = get_or c.args.high.now x (pos 0)

  x_is : to_z w16 x ≡ pos x
  x_is = stored (pos x) (omega (arith, c.requires.0))

  lo_is : to_z w16 (of_z w16 lo) ≡ lo
  lo_is = stored lo c.lo-1.given

  hi_is : to_z w16 (of_z w16 hi) ≡ hi
  hi_is = stored hi c.hi-1.given

  lows_are : c.put_point.new.list ≡ put_at c.args.lows.now c.args.m (at x lo)
  lows_are = c.put_point.ensures ∙ ap (put_at c.args.lows.now c.args.m) (point_path x_is lo_is)

  highs_are : c.put_point-2.new.list ≡ put_at c.args.highs.now ((column_count - 1) - c.args.m) (at x hi)
  highs_are = c.put_point-2.ensures ∙ ap (put_at c.args.highs.now ((column_count - 1) - c.args.m)) (point_path x_is hi_is)

pub returns-then-hi-lo : goal.returns-then-hi-lo
returns-then-hi-lo c =
    let here = (goal.at.returns-then-hi-lo c).After-highs-1 in
    let t = c.requires in (
      omega (arith, t.1),
      moved (lows_are here) (highs_are here) refl (skipped t.1 t.0 t.4 (sym (ap₂ lt_z (hi_is here) (lo_is here)) ∙ c.if-hi-lo.true)),
    )

pub returns-else-hi-lo : goal.returns-else-hi-lo
returns-else-hi-lo c =
    let here = (goal.at.returns-else-hi-lo c).After-highs-1 in
    let t = c.requires in (
      omega (arith, t.1),
      moved (lows_are here) (highs_are here) refl (one_more t.1 t.0 t.4 (sym (ap₂ lt_z (hi_is here) (lo_is here)) ∙ c.if-hi-lo.false)),
    )
