-- A point put in its place in a rising list.
--
--   place_of p Q k      == where p goes in Q, whose first point has the number k; None where it is there
--   inserted_at k p Q   == Q with p in front of point k
use Rattle.std.specs.Prelude.{Bool, true, false, List, [], ◌∷◌, ◌++◌, ℕ, ◌+◌, take, drop, Option, Some, None}
use Rattle.geometry.specs.declared.Point.{Point}
use Rattle.geometry.specs.Order.{before}

unfoldable pub place_of : Point → List Point → ℕ → Option ℕ
place_of p [] k = Some k
place_of p (q ∷ Q) k = pick (before p q) (before q p) (place_of p Q (k + 1))
  where
    pick : Bool → Bool → Option ℕ → Option ℕ
    pick true b r = Some k
    pick false true r = r
    pick false false r = None

abbrev pub inserted_at : ℕ → Point → List Point → List Point
inserted_at k p Q = take k Q ++ (p ∷ drop k Q)
