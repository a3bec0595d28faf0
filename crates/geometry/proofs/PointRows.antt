-- A list of numbers as a row of points: the points from one on.
--
--   drop-points           : the points from point i on are those of the numbers from number 2i on
--   points-from           : they are point i and the points behind it
--   points_some           : a list of two numbers or more has a point
--   point_at_in            : point i is one of the points
--   first_points-from, first_points_end : so of the first n points, up to the last
--   points_end            : behind the last point there is none
--   first_points-take      : the first k of the first n points
use mathlib.Core.Path.{◌≡◌, refl, sym, ap, subst, ◌∙◌}
use mathlib.Core.List.{List, [], ◌∷◌, Memᴰ}
use Prim.Native.Nat.{ℕ, zero, suc, ◌+◌, ◌*◌, ◌/◌, ◌≤◌, ◌<◌}
use native.Mathlib.Omega.{arith}
use lib.IntN.{ℤ, pos}
use lib.ListN.{length, get_or, take, drop, length-take, drop_of_length-le}
use lib.Seq.{get_or-take}
use Rattle.geometry.specs.declared.Point.{Point}
use Rattle.geometry.specs.Points.{points, point_at, first_points}
use Rattle.geometry.proofs.PointLists.{two-suc, two_dropped, first_points-whole, length-first_points, point_at-first_points}

pub drop-points : (i : ℕ) (l : List ℤ) → drop i (points l) ≡ points (drop (2 * i) l)
unfolding points
drop-points zero l = refl
drop-points (suc i) [] = rw (two-suc i)
drop-points (suc i) (x ∷ []) = rw (two-suc i)
drop-points (suc i) (x ∷ y ∷ l) = rw (two-suc i) (drop-points i l)

pub points-from : (i : ℕ) (l : List ℤ) → 2 * i + 2 ≤ length l → drop i (points l) ≡ point_at l i ∷ drop (i + 1) (points l)
unfolding points
points-from i l h =
    let next : 2 * (i + 1) ≡ 2 * i + 2 = omega arith in
    drop-points i l
    ∙ ap points (two_dropped l (2 * i) h)
    ∙ ap {B = List Point} (λ Q. point_at l i ∷ Q) (sym (drop-points (i + 1) l ∙ ap (λ (k : ℕ). points (drop k l)) next))

pub points_some : (l : List ℤ) → 2 ≤ length l → 1 ≤ length (points l)
unfolding points
points_some [] h = absurd (omega arith)
points_some (x ∷ []) h = absurd (omega arith)
points_some (x ∷ y ∷ l) h = omega arith

pub point_at_in : (i : ℕ) (l : List ℤ) → 2 * i + 2 ≤ length l → Memᴰ (point_at l i) (points l)
point_at_in i l h =
    let n = length l / 2 in
    subst (Memᴰ (point_at l i)) (first_points-whole n l (omega arith) (omega arith)) (point_at-first_points i n l (omega arith) (omega arith))

module _ (n i : ℕ) (l : List ℤ) (fits : 2 * n ≤ length l) where
  pub first_points-from : i < n → drop i (first_points n l) ≡ point_at l i ∷ drop (i + 1) (first_points n l)
  first_points-from h =
      let x_is : get_or (take (2 * n) l) (2 * i) (pos 0) ≡ get_or l (2 * i) (pos 0) = get_or-take (2 * n) l (2 * i) (pos 0) (omega arith) in
      let y_is : get_or (take (2 * n) l) (2 * i + 1) (pos 0) ≡ get_or l (2 * i + 1) (pos 0) = get_or-take (2 * n) l (2 * i + 1) (pos 0) (omega arith) in
      let same : point_at (take (2 * n) l) i ≡ point_at l i = λ j. record { x = x_is j; y = y_is j } in
      points-from i (take (2 * n) l) (simp length-take (omega arith)) ∙ ap {B = List Point} (λ p. p ∷ drop (i + 1) (first_points n l)) same

  pub first_points_end : n ≤ i → drop i (first_points n l) ≡ []
  first_points_end h = drop_of_length-le (first_points n l) {i = i} (omega (arith, length-first_points n l fits))

pub points_end : (i : ℕ) (l : List ℤ) → length l / 2 ≤ i → drop i (points l) ≡ []
points_end i l h =
    let n = length l / 2 in
    ap (drop i) (sym (first_points-whole n l (omega arith) (omega arith))) ∙ first_points_end n i l (omega arith) h

-- the first k of the first n points
pub first_points-take : (k n : ℕ) (l : List ℤ) → k ≤ n → 2 * n ≤ length l → take k (first_points n l) ≡ first_points k l
unfolding points
first_points-take zero n l h fits = refl
first_points-take (suc k) zero l h fits = absurd (omega arith)
first_points-take (suc k) (suc n) [] h fits = absurd (omega arith)
first_points-take (suc k) (suc n) (x ∷ []) h fits = absurd (omega arith)
first_points-take (suc k) (suc n) (x ∷ y ∷ l) h fits =
    rw (two-suc k, two-suc n) (ap {B = List Point} (λ Q. record { x = x; y = y } ∷ Q) (first_points-take k n l (omega arith) (omega arith)))
