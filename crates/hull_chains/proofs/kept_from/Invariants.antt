-- `hull_chains::kept_from` meets its contract. The invariant: the points before point k − 1 are those that `push` takes off.
use mathlib.Core.Path.{◌≡◌}
use Prim.Native.Nat.{◌-◌, ◌≤◌, max}
use lib.ListN.{drop}
use Rattle.geometry.specs.Points.{points}
use Rattle.hull.specs.Chains.{push}
use Rattle.hull_chains.proofs.kept_from.Given as goal

abbrev pub invariant-loop-k : goal.invariant-loop-k
invariant-loop-k l = (l.k ≤ max 1 l.n) × (push l.p (points l.chain) ≡ push l.p (drop (l.k - 1) (points l.chain)))
