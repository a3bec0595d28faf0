-- `support_search::search` meets its contract. The invariant of each loop: what is left to look at gives the whole answer.
use mathlib.Core.Path.{◌≡◌}
use Prim.Native.Nat.{◌-◌, ◌≤◌}
use Rattle.geometry.specs.Points.{first_points}
use Rattle.support_tests.specs.Tests.{fits}
use Rattle.geometry.specs.Plane.{numbers}
use Rattle.support_search.specs.Search.{first_fit}
use Rattle.support_search.proofs.Left.{acute_set, pairs_from, pairs_with, triples_from, triples_with, triples_of}
use Rattle.support_search.proofs.search.Given as goal

abbrev pub invariant-loop-j : goal.invariant-loop-j
invariant-loop-j l =
    (l.j ≤ l.n) × (pairs_with (fits (numbers l.disk)) (first_points l.n l.list) l.p l.i l.j ≡ first_fit (numbers l.disk) (first_points l.n l.list))

abbrev pub decreases-loop-j : goal.decreases-loop-j
decreases-loop-j l = l.n - l.j

abbrev pub invariant-loop-i : goal.invariant-loop-i
invariant-loop-i l = (l.i ≤ l.n) × (pairs_from (fits (numbers l.disk)) (first_points l.n l.list) l.i ≡ first_fit (numbers l.disk) (first_points l.n l.list))

abbrev pub decreases-loop-i : goal.decreases-loop-i
decreases-loop-i l = l.n - l.i

abbrev pub invariant-loop-k : goal.invariant-loop-k
invariant-loop-k l = (l.k ≤ l.n) × (triples_of acute_set (first_points l.n l.list) l.p l.q l.i l.j l.k ≡ triples_from acute_set (first_points l.n l.list) 0)

abbrev pub decreases-loop-k : goal.decreases-loop-k
decreases-loop-k l = l.n - l.k

abbrev pub invariant-loop-j-2 : goal.invariant-loop-j-2
invariant-loop-j-2 l = (l.j ≤ l.n) × (triples_with acute_set (first_points l.n l.list) l.p l.i l.j ≡ triples_from acute_set (first_points l.n l.list) 0)

abbrev pub decreases-loop-j-2 : goal.decreases-loop-j-2
decreases-loop-j-2 l = l.n - l.j

abbrev pub invariant-loop-i-2 : goal.invariant-loop-i-2
invariant-loop-i-2 l = (l.i ≤ l.n) × (triples_from acute_set (first_points l.n l.list) l.i ≡ triples_from acute_set (first_points l.n l.list) 0)

abbrev pub decreases-loop-i-2 : goal.decreases-loop-i-2
decreases-loop-i-2 l = l.n - l.i

abbrev pub invariant-search : goal.invariant-search
invariant-search l = pairs_from (fits (numbers l.disk)) (first_points l.n l.list) 0 ≡ first_fit (numbers l.disk) (first_points l.n l.list)

abbrev pub decreases-search : goal.decreases-search
decreases-search l = 0
