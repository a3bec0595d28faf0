-- The points of a list from one on: the best of them, and how far they reach.
--
--   inside_at              : where all points are in the em box, point i is
--   best_step, reach_step  : with one more point; best_end, reach_end: with none
--   of_step, of_end        : the same of the points from point i on
--   points_tail            : the points of the numbers from 2i on; tail_inside: they are in the em box
--   reach_most             : how far a list reaches is at least m
--   too_near               : a list that does not reach as far as s is wide leaves s the best
use mathlib.Core.Path.{◌≡◌, refl, sym, ap, subst, ◌∙◌}
use mathlib.Core.Bool.{true}
use mathlib.Core.List.Memᴰ
use mathlib.Core.List.{List, [], ◌∷◌, Memᴰ}
use Prim.Native.Nat.{ℕ, ◌+◌, ◌-◌, ◌*◌, ◌/◌, ◌≤◌, ◌<◌, max}
use native.Mathlib.Omega.{arith}
use lib.IntN.{ℤ}
use lib.ListN.{length, take, drop}
use Rattle.std.proofs.Common.{take-append-drop}
use Rattle.std.proofs.lemmas.Slice.{between_to_end}
use Rattle.geometry.specs.declared.Point.{Point}
use Rattle.geometry.specs.EmBox.{em, Inside, all_in_em_box}
use Rattle.geometry.specs.Points.{points, point_at}
use Rattle.geometry.proofs.EmBox.{all_inside, inside_all}
use Rattle.geometry.proofs.PointRows.{drop-points, points-from, points_end, point_at_in}
use Rattle.stretches.specs.declared.Stretch.{Stretch}
use Rattle.stretches.specs.Widest.{apart, ordered, better_of, best_from, best_of}
use Rattle.stretches.proofs.Better.{better_narrower}
use Rattle.stretches.proofs.Found.{ordered_w}
use Rattle.farthest_points.specs.Reach.{reach_from}

pub best_step : (s : Stretch) (p q : Point) (Q : List Point) → best_from s p (q ∷ Q) ≡ best_from (better_of s (ordered p q)) p Q
unfolding best_from
best_step s p q Q = refl

pub best_end : (s : Stretch) (p : Point) → best_from s p [] ≡ s
unfolding best_from
best_end s p = refl

pub reach_step : (m : ℕ) (p q : Point) (Q : List Point) → reach_from m p (q ∷ Q) ≡ reach_from (max m (apart p q)) p Q
unfolding reach_from
reach_step m p q Q = refl

pub reach_end : (m : ℕ) (p : Point) → reach_from m p [] ≡ m
unfolding reach_from
reach_end m p = refl

module _ (l : List ℤ) (i : ℕ) where
  pub inside_at : {p : Point} → p ≡ point_at l i → all_in_em_box (points l) ≡ true → 2 * i + 2 ≤ length l → Inside em p
  inside_at e b h = subst (Inside em) (sym e) (all_inside (points l) b (point_at l i) (point_at_in i l h))

  pub of_step : (s : Stretch) → 2 * i + 2 ≤ length l
      → best_of s (drop i (points l)) ≡ best_of (best_from s (point_at l i) (drop i (points l))) (drop (i + 1) (points l))
  unfolding best_of
  of_step s h = rw (points-from i l h)

  pub of_end : (s : Stretch) → length l / 2 ≤ i → best_of s (drop i (points l)) ≡ s
  unfolding best_of
  of_end s h = ap (best_of s) (points_end i l h)

-- the points of the numbers from 2i on
pub points_tail : (i : ℕ) (l : List ℤ) → points (take (length l - 2 * i) (drop (2 * i) l)) ≡ drop i (points l)
points_tail i l = ap points (between_to_end l (2 * i) (length l) (omega arith)) ∙ sym (drop-points i l)

-- these are in the em box, where all are
pub tail_inside : (i : ℕ) (l : List ℤ) → all_in_em_box (points l) ≡ true → all_in_em_box (drop i (points l)) ≡ true
tail_inside i l b = inside_all (drop i (points l)) (λ p m. all_inside (points l) b p (in_tail m))
  where
    in_tail : {p : Point} → Memᴰ p (drop i (points l)) → Memᴰ p (points l)
    in_tail {p} m = subst (Memᴰ p) (take-append-drop i (points l)) (Memᴰ.append_right (take i (points l)) m)

reach_most : (m : ℕ) (p : Point) (Q : List Point) → m ≤ reach_from m p Q
unfolding reach_from
reach_most m p [] = omega arith
reach_most m p (q ∷ Q) = omega (arith, reach_most (max m (apart p q)) p Q)

pub too_near : (m : ℕ) (s : Stretch) (p : Point) (Q : List Point) → reach_from m p Q < s.w → best_from s p Q ≡ s
unfolding reach_from best_from
too_near m s p [] h = refl
too_near m s p (q ∷ Q) h =
    let n = max m (apart p q) in
    ap (λ (t : Stretch). best_from t p Q) (better_narrower s (ordered p q) (omega (arith, h, reach_most n p Q, ordered_w p q))) ∙ too_near n s p Q h
