-- A list by threes as traced points.
--
--   traced_none, traced_next : a list of fewer than three numbers has no traced point; any other has its first, and those of the rest
--   length-traced   : a list by threes has a traced point for three numbers
use mathlib.Core.Path.{◌≡◌, refl}
use mathlib.Core.List.{List, [], ◌∷◌}
use Prim.Native.Nat.{◌*◌, ◌%◌, ◌≤◌, ◌<◌}
use native.Mathlib.Omega.{arith}
use lib.IntN.{ℤ, pos}
use lib.ListN.{length, get_or, drop}
use Rattle.tracings.specs.Squares.{traced}

pub traced_none : (l : List ℤ) → length l < 3 → traced l ≡ []
unfolding traced
traced_none [] h = refl
traced_none (x ∷ []) h = refl
traced_none (x ∷ y ∷ []) h = refl
traced_none (x ∷ y ∷ t ∷ l) h = absurd (omega arith)

pub traced_next : (l : List ℤ) → 3 ≤ length l → traced l ≡ record { x = get_or l 0 (pos 0); y = get_or l 1 (pos 0); t = get_or l 2 (pos 0) } ∷ traced (drop 3 l)
unfolding traced
traced_next [] h = absurd (omega arith)
traced_next (x ∷ []) h = absurd (omega arith)
traced_next (x ∷ y ∷ []) h = absurd (omega arith)
traced_next (x ∷ y ∷ t ∷ l) h = refl

pub length-traced : (l : List ℤ) → length l % 3 ≡ 0 → length l ≡ 3 * length (traced l)
unfolding traced
length-traced [] h = refl
length-traced (x ∷ []) h = absurd (omega arith)
length-traced (x ∷ y ∷ []) h = absurd (omega arith)
length-traced (x ∷ y ∷ t ∷ l) h = let k = length-traced l (omega arith) in omega (arith, k)
