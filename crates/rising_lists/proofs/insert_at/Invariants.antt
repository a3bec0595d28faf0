-- `rising_lists::insert_at` meets its contract. The invariant: the first i points are in place, `held` comes next, and the rest is as it was.
use mathlib.Core.Path.{◌≡◌}
use mathlib.Core.List.{◌∷◌, ◌++◌}
use Prim.Native.Nat.{◌-◌, ◌*◌, ◌≤◌}
use lib.ListN.{length, drop}
use Rattle.geometry.specs.Points.{first_points}
use Rattle.rising_lists.specs.Place.{inserted_at}
use Rattle.rising_lists.proofs.insert_at.Given as goal

abbrev pub invariant-loop-i : goal.invariant-loop-i
invariant-loop-i l =
    (l.k ≤ l.i) × (l.i ≤ l.n) × (length l.list ≡ length l.initial.list) × (drop (2 * l.i) l.list ≡ drop (2 * l.i) l.initial.list)
    × (first_points l.i l.list ++ (l.held ∷ drop l.i (first_points l.n l.initial.list)) ≡ inserted_at l.k l.initial.held (first_points l.n l.initial.list))

abbrev pub decreases-loop-i : goal.decreases-loop-i
decreases-loop-i l = l.n - l.i
