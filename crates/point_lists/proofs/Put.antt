-- A point written into a list of numbers.
--
--   length-put, drop-put  : the length, and what is behind, stay
--   take_put              : with p written as point i, the numbers up to it are those before and p's
--   first_points-put       : and the first i + 1 points are the first i and p
use mathlib.Core.Path.{◌≡◌, ap, ◌∙◌}
use mathlib.Core.List.{List, [], ◌∷◌, ◌++◌, append_assoc}
use Prim.Native.Nat.{ℕ, suc, ◌+◌, ◌*◌, ◌≤◌, ◌<◌}
use native.Mathlib.Numerals.{add-one}
use native.Mathlib.Omega.{arith}
use lib.IntN.{ℤ, pos}
use lib.ListN.{length, get_or, set, take, drop, length-set}
use lib.Seq.{take-suc-set, take-set-le, drop-set-lt, get_or-set_same, get_or-set_other}
use Rattle.geometry.specs.declared.Point.{Point}
use Rattle.geometry.specs.Points.{points, point_at, first_points}
use Rattle.geometry.proofs.PointLists.{first_points_next}
use Rattle.point_lists.specs.Put.{put_at}

module _ (l : List ℤ) (i : ℕ) (p : Point) where
  pub length-put : length (put_at l i p) ≡ length l
  length-put = simp length-set

  pub drop-put : drop (2 * (i + 1)) (put_at l i p) ≡ drop (2 * (i + 1)) l
  drop-put = drop-set-lt (2 * (i + 1)) (set l (2 * i) p.x) (2 * i + 1) p.y (omega arith) ∙ drop-set-lt (2 * (i + 1)) l (2 * i) p.x (omega arith)

  pub take_put : 2 * i + 2 ≤ length l → take (2 * (i + 1)) (put_at l i p) ≡ take (2 * i) l ++ (p.x ∷ p.y ∷ [])
  take_put h =
      let more : 2 * (i + 1) ≡ suc (2 * i + 1) = omega arith in
      let room : 2 * i + 1 < length (set l (2 * i) p.x) = rw (length-set l (2 * i) p.x) (omega arith) in
      ap (λ (k : ℕ). take k (put_at l i p)) more
      ∙ take-suc-set (set l (2 * i) p.x) (2 * i + 1) p.y room
      ∙ ap (λ (m : List ℤ). m ++ (p.y ∷ [])) (ap (λ (k : ℕ). take k (set l (2 * i) p.x)) (add-one (2 * i)) ∙ take-suc-set l (2 * i) p.x (omega arith))
      ∙ append_assoc (take (2 * i) l) (p.x ∷ []) (p.y ∷ [])

  pub first_points-put : 2 * i + 2 ≤ length l → first_points (i + 1) (put_at l i p) ≡ first_points i l ++ (p ∷ [])
  first_points-put h =
      let x_is : get_or (put_at l i p) (2 * i) (pos 0) ≡ p.x =
      get_or-set_other (set l (2 * i) p.x) (2 * i + 1) (2 * i) p.y (pos 0) (omega arith) ∙ get_or-set_same l (2 * i) p.x (pos 0) (omega arith) in
      let y_is : get_or (put_at l i p) (2 * i + 1) (pos 0) ≡ p.y = get_or-set_same (set l (2 * i) p.x) (2 * i + 1) p.y (pos 0)
      (simp length-set (omega arith)) in
      let last : point_at (put_at l i p) i ≡ p = λ j. record { x = x_is j; y = y_is j } in
      let kept : take (2 * i) (put_at l i p) ≡ take (2 * i) l =
      take-set-le (2 * i) (set l (2 * i) p.x) (2 * i + 1) p.y (omega arith) ∙ take-set-le (2 * i) l (2 * i) p.x (omega arith) in
      first_points_next i (put_at l i p) (simp length-set (omega arith))
      ∙ ap (λ (q : Point). first_points i (put_at l i p) ++ (q ∷ [])) last
      ∙ ap (λ (r : List ℤ). points r ++ (p ∷ [])) kept
