-- Lists that have the same numbers from a point on.
--
--   drop_next     : lists with the same numbers from 2i on have the same from 2(i + 1) on
--   point_at-drop : and the same point i
use mathlib.Core.Path.{◌≡◌, sym, ap, ◌∙◌}
use mathlib.Core.List.{List}
use Prim.Native.Nat.{ℕ, ◌+◌, ◌*◌}
use native.Mathlib.Nat.{add-zero}
use native.Mathlib.Omega.{arith}
use lib.IntN.{ℤ, pos}
use lib.ListN.{get_or, drop}
use lib.Seq.{drop-drop, get_or-drop}
use Rattle.geometry.specs.Points.{point_at}

pub drop_next : (i : ℕ) (l m : List ℤ) → drop (2 * i) l ≡ drop (2 * i) m → drop (2 * (i + 1)) l ≡ drop (2 * (i + 1)) m
drop_next i l m e =
    let next : 2 * i + 2 ≡ 2 * (i + 1) = omega arith in
    let at : (r : List ℤ) → drop 2 (drop (2 * i) r) ≡ drop (2 * (i + 1)) r = λ r. drop-drop 2 (2 * i) r ∙ ap (λ (k : ℕ). drop k r) next in
    sym (at l) ∙ ap (drop 2) e ∙ at m

pub point_at-drop : (i : ℕ) (l m : List ℤ) → drop (2 * i) l ≡ drop (2 * i) m → point_at l i ≡ point_at m i
point_at-drop i l m e =
    let at : (k : ℕ) → get_or l (2 * i + k) (pos 0) ≡ get_or m (2 * i + k) (pos 0) =
    λ k. sym (get_or-drop (2 * i) l k (pos 0)) ∙ ap (λ (r : List ℤ). get_or r k (pos 0)) e ∙ get_or-drop (2 * i) m k (pos 0) in
    let x_is : get_or l (2 * i) (pos 0) ≡ get_or m (2 * i) (pos 0) = rw (add-zero (2 * i)) at (at 0) in
    λ j. record { x = x_is j; y = at 1 j }
