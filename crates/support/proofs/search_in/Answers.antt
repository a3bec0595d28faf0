-- `support::search_in` meets its contract: among the points that `collect` gives to `search`, it finds the first support set.
use mathlib.Core.Path.{◌≡◌, sym, ap, subst, ◌∙◌}
use mathlib.Core.Bool.{true}
use mathlib.Core.List.{List}
use Prim.Native.Nat.{◌≤◌}
use lib.IntN.{ℤ, pos}
use lib.ListN.{length}
use mir.Syntax.{w64}
use mir.Facts.{to_z-of_z}
use Rattle.integers.specs.Order.{eq_z}
use Rattle.integers.proofs.Tests.{test_true}
use Rattle.integers.proofs.Order.{eq_eq_z}
use Rattle.geometry.specs.declared.Point.{Point}
use Rattle.geometry.specs.Plane.{Disk, numbers, distance, on_boundary}
use Rattle.geometry.specs.Points.{points, point_at}
use Rattle.geometry.proofs.PointRows.{points_some}
use Rattle.support_tests.specs.Tests.{on_boundary_test, SmallDisk}
use Rattle.support_tests.proofs.Numbers.{limits_small}
use Rattle.support.specs.Asked.{Asked}
use Rattle.support.proofs.SearchFinds.{support_some, within_limits}
use Rattle.support.proofs.search_in.Goals as goal

-- the disk's numbers are small
small : {l : List ℤ} {d : Disk} → Asked l d → SmallDisk d
small {l} {d} a = limits_small d (within_limits (points l) (points_some l a.some) d a.smallest a.boxed)

on_test : (d : Disk) (p : Point) → on_boundary d p → on_boundary_test d p ≡ true
unfolding on_boundary_test
on_test d p h = test_true (eq_z (distance d p) (pos d.s)) (eq_eq_z (distance d p) (pos d.s) h)

pub power-power-requires : goal.power-power-requires
power-power-requires c = small c.requires.0

pub collect-n-requires : goal.collect-n-requires
collect-n-requires c =
    let d = numbers c.args.disk in (
      c.requires.0,
      c.requires.1,
      record {
        point = c.point_at.result;
        on = ap (on_boundary_test d) c.point_at.ensures ∙ on_test d (point_at c.args.list.now 0) c.requires.0.front;
        power_is = to_z-of_z {w = w64} (record { sfits = c.power-power.type_inv }) ∙ c.power-power.ensures;
      },
    )

pub search-requires : goal.search-requires
search-requires c =
    let P = points c.args.list.now in (
      c.collect-n.ensures.room,
      small c.requires.0,
      subst (λ (S : List Point). 1 ≤ length S) (sym c.collect-n.ensures.left)
          (support_some P (points_some c.args.list.now c.requires.0.some) (numbers c.args.disk) c.requires.0.smallest),
    )
