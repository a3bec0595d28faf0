-- `inner_level::two_fixed` meets its contract. The loop's invariant is the promise itself, for the first i points, each of them tested once.
use Prim.Native.Nat.{◌-◌, ◌≤◌}
use Rattle.fixed_points.specs.declared.Boundary.TheVariants.{Two}
use Rattle.inner_level.specs.Ran.{Ran}
use Rattle.inner_level.proofs.two_fixed.Given as goal

abbrev pub invariant-loop-i : goal.invariant-loop-i
invariant-loop-i l = (l.i ≤ l.n) × Ran (Two l.a l.b) l.i l.initial.list l.list l.disk l.i

abbrev pub decreases-loop-i : goal.decreases-loop-i
decreases-loop-i l = l.n - l.i
