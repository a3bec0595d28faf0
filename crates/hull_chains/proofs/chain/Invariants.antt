-- `hull_chains::chain` meets its contract. The invariant: the points from m on are the chain of those that stood from i on, skimmed, and those before i stay.
use mathlib.Core.Path.{◌≡◌}
use Prim.Native.Nat.{ℕ, ◌*◌, ◌≤◌, ◌<◌}
use lib.ListN.{length, drop}
use Rattle.geometry.specs.Points.{points, point_at}
use Rattle.hull.specs.Chains as Chains
use Rattle.hull.specs.Skimmed.{skimmed}
use Rattle.hull_chains.proofs.chain.Given as goal

abbrev pub invariant-loop-i : goal.invariant-loop-i
invariant-loop-i l =
    (1 ≤ l.i) × (l.i ≤ l.m) × (2 * l.m ≤ length l.list) × (length l.list ≡ length l.initial.list)
    × (((j : ℕ) → j < l.i → point_at l.list j ≡ point_at l.initial.list j)
    × (drop l.m (points l.list) ≡ Chains.chain (skimmed l.a (drop l.i (points l.initial.list)))))
