-- The two points of a list that are farthest apart (02, item 11: "the two corners farthest apart .. and the squared distance W; among equals .. the least
-- pair, each written in rising order and compared corner by corner").
--
--   apart p q          == |q − p|², the squared distance of p and q
--   PairUpTo a b p q   == compared point by point, the pair a, b is the pair p, q or comes before it
--   Widest P s         == s is the widest stretch of P, by its property
--   ordered p q        == the stretch between p and q, written in rising order
--   ahead s t          == compared point by point, s comes before t
--   better s t         == s is wider than t, or as wide and ahead of it
--   better_of s t       == the better of the two
--   best_from s p Q     == the best of s and the stretches between p and each point of Q
--   best_of s Q         == the best of s and the stretches between each two points of Q, a point and itself too
--   widest_of P         == the widest stretch of P, computed; that it has the property: widest-of of proofs/Found.antt
use Rattle.std.specs.Prelude.{◌≡◌, ◌⊎◌, Bool, true, false, ◌&&◌, ◌||◌, List, [], ◌∷◌, ℕ, ◌≤◌, T, ltb, eqb, pos, nat_abs, ◌-ℤ◌}
use Rattle.geometry.specs.declared.Point.{Point}
use Rattle.geometry.specs.Order.{before}
use Rattle.point_lists.specs.Sets.{same, In}
use Rattle.disks.specs.Procedure.{norm}
use Rattle.hull.specs.Hull.{UpTo}
use Rattle.stretches.specs.declared.Stretch.{Stretch}

abbrev pub apart : Point → Point → ℕ
apart p q = nat_abs (norm (q.x -ℤ p.x) (q.y -ℤ p.y))

abbrev pub PairUpTo : Point → Point → Point → Point → Type 0
PairUpTo a b p q = T (before a p) ⊎ ((a ≡ p) × UpTo b q)

pub record Widest (P : List Point) (s : Stretch) : Type 0 where
  pub a_in : In s.a P
  pub b_in : In s.b P
  pub rises : UpTo s.a s.b
  pub w_is : s.w ≡ apart s.a s.b
  -- no two points of P are farther apart
  pub most : (p q : Point) → In p P → In q P → apart p q ≤ s.w
  -- of the pairs that are as far apart, each in rising order, this is the least
  pub least : (p q : Point) → In p P → In q P → UpTo p q → apart p q ≡ s.w → PairUpTo s.a s.b p q

-- ---- the same as a definition that computes

unfoldable pub ordered : Point → Point → Stretch
ordered p q = written (before q p)
  where
    written : Bool → Stretch
    written true = record { a = q; b = p; w = apart p q }
    written false = record { a = p; b = q; w = apart p q }

unfoldable pub ahead : Stretch → Stretch → Bool
ahead s t = before s.a t.a || (same s.a t.a && before s.b t.b)

unfoldable pub better : Stretch → Stretch → Bool
better s t = ltb t.w s.w || (eqb s.w t.w && ahead s t)

unfoldable pub better_of : Stretch → Stretch → Stretch
better_of s t = pick (better t s)
  where
    pick : Bool → Stretch
    pick true = t
    pick false = s

unfoldable pub best_from : Stretch → Point → List Point → Stretch
best_from s p [] = s
best_from s p (q ∷ Q) = best_from (better_of s (ordered p q)) p Q

unfoldable pub best_of : Stretch → List Point → Stretch
best_of s [] = s
best_of s (p ∷ Q) = best_of (best_from s p (p ∷ Q)) Q

-- no call asks for the widest stretch of no point
unfoldable pub widest_of : List Point → Stretch
widest_of [] = let o : Point = record { x = pos 0; y = pos 0 } in ordered o o
widest_of (p ∷ P) = best_of (ordered p p) (p ∷ P)
