-- Lists of points as sets.
--
--   same p q     == p and q are the same point, as a test
--   has P p      == p is one of P, as a test (proofs/SetTests.antt: it holds where and only where In p P)
--   all_of f P    == every point of P passes the test f
--   In p P       == p is one of P
--   Same P Q     == P and Q name the same set of points
--   Different R  == no point stands twice in R
use Rattle.std.specs.Prelude.{Bool, true, false, ◌&&◌, ◌||◌}
use mathlib.Core.List.{List, [], ◌∷◌, Memᴰ}
use Rattle.integers.specs.Order.{eq_z}
use Rattle.geometry.specs.declared.Point.{Point}

unfoldable pub same : Point → Point → Bool
same p q = eq_z p.x q.x && eq_z p.y q.y

unfoldable pub has : List Point → Point → Bool
has [] p = false
has (q ∷ P) p = same p q || has P p

unfoldable pub all_of : (Point → Bool) → List Point → Bool
all_of f [] = true
all_of f (p ∷ P) = f p && all_of f P

abbrev pub In : Point → List Point → Type 0
In p P = Memᴰ p P

pub record Same (P Q : List Point) : Type 0 where
  pub to : (p : Point) → In p P → In p Q
  pub from : (p : Point) → In p Q → In p P

abbrev pub Different : List Point → Type 0
Different [] = Unit {0}
Different (p ∷ R) = (In p R → ⊥) × Different R
