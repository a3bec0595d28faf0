-- How far a list reaches from a point.
--
--   reach_from m p Q  == the greatest of m and the squared distances of the points of Q from p
use Rattle.std.specs.Prelude.{List, [], ◌∷◌, ℕ, max}
use Rattle.geometry.specs.declared.Point.{Point}
use Rattle.stretches.specs.Widest.{apart}

unfoldable pub reach_from : ℕ → Point → List Point → ℕ
reach_from m p [] = m
reach_from m p (q ∷ Q) = reach_from (max m (apart p q)) p Q
