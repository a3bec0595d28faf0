-- `rising_lists::find_place` meets its contract. The invariant: what is left to look at gives the place.
use mathlib.Core.Path.{◌≡◌}
use Prim.Native.Nat.{◌≤◌}
use lib.ListN.{drop}
use Rattle.geometry.specs.Points.{first_points}
use Rattle.rising_lists.specs.Place.{place_of}
use Rattle.rising_lists.proofs.find_place.Given as goal

abbrev pub invariant-loop-k : goal.invariant-loop-k
invariant-loop-k l = (l.k ≤ l.n) × (place_of l.p (drop l.k (first_points l.n l.list)) l.k ≡ place_of l.p (first_points l.n l.list) 0)
