-- Points of a list of numbers, from one on and before another.
--
--   span-step        : the points from k on are point k and those behind it; span_end: none
--   points_most      : a list has two numbers for each of its points; points-length: it has half as many points, rounded down; points_none: none
--   points_from_back : the points from point i on are p and those behind it, where p is point i
--   points_tail      : the points of the numbers from 2m on; points-span: and before 2e
--   span_same        : lists with the same points there
--   push_short       : a point is put in front of one point or none as it is
--   put_there, put_other : the points of a list with p written as point i
--   put-span, put-points : with p written as point i, the points from it on are p and those behind it
--   span_last, put_behind_lem : the points before one more, and with p written as that one
use mathlib.Core.Path.{◌≡◌, refl, sym, ap, ap₂, ◌∙◌}
use mathlib.Core.Logic.{◌≢◌}
use mathlib.Core.List.{List, [], ◌∷◌, ◌++◌}
use Prim.Native.Nat.{ℕ, zero, suc, ◌+◌, ◌*◌, ◌-◌, ◌/◌, ◌≤◌, ◌<◌}
use native.Mathlib.Omega.{arith}
use lib.IntN.{ℤ, pos}
use lib.ListN.{length, get_or, set, take, drop, length-set}
use Rattle.std.proofs.lemmas.Slice.{between_to_end, between_is}
use lib.Seq.{drop-set-lt, drop-append-le, get_or-set_same, get_or-set_other}
use Rattle.geometry.specs.declared.Point.{Point}
use Rattle.geometry.specs.Points.{points, point_at, first_points}
use Rattle.geometry.proofs.PointLists.{first_points_next, first_points-whole, length-first_points}
use Rattle.geometry.proofs.PointRows.{drop-points, points-from, first_points-from, first_points_end}
use Rattle.hull.specs.Chains.{push}
use Rattle.hull.proofs.Pushed.{push_none, push-one}
use Rattle.point_lists.specs.Put.{put_at}
use Rattle.point_lists.proofs.Put.{length-put, first_points-put}
use Rattle.hull_chains.specs.Spans.{span}

pub span-step : (k n : ℕ) (l : List ℤ) → k < n → 2 * n ≤ length l → span k n l ≡ point_at l k ∷ span (k + 1) n l
span-step k n l h f = first_points-from n k l f h

pub span_end : (k n : ℕ) (l : List ℤ) → n ≤ k → 2 * n ≤ length l → span k n l ≡ []
span_end k n l h f = first_points_end n k l f h

pub span_same : (d k n : ℕ) (l m : List ℤ) → n ≡ k + d → 2 * n ≤ length l → 2 * n ≤ length m
    → ((j : ℕ) → k ≤ j → j < n → point_at l j ≡ point_at m j)
    → span k n l ≡ span k n m
span_same zero k n l m e f g h = span_end k n l (omega arith) f ∙ sym (span_end k n m (omega arith) g)
span_same (suc d) k n l m e f g h =
    span-step k n l (omega arith) f
    ∙ ap₂ (λ (q : Point) (Q : List Point). q ∷ Q) (h k (omega arith) (omega arith))
    (span_same d (k + 1) n l m (omega arith) f g (λ j u v. h j (omega arith) v))
    ∙ sym (span-step k n m (omega arith) g)

pub points_most : (l : List ℤ) → 2 * length (points l) ≤ length l
unfolding points
points_most [] = omega arith
points_most (x ∷ []) = omega arith
points_most (x ∷ y ∷ l) = omega (arith, points_most l)

pub push_short : (p : Point) (L : List Point) → length L ≤ 1 → push p L ≡ p ∷ L
push_short p [] h = push_none p
push_short p (b ∷ []) h = push-one p b
push_short p (b ∷ c ∷ L) h = absurd (omega arith)

module _ (l : List ℤ) (i : ℕ) (p : Point) where
  pub put_there : 2 * i + 2 ≤ length l → point_at (put_at l i p) i ≡ p
  put_there h =
      let x_is : get_or (put_at l i p) (2 * i) (pos 0) ≡ p.x =
      get_or-set_other (set l (2 * i) p.x) (2 * i + 1) (2 * i) p.y (pos 0) (omega arith) ∙ get_or-set_same l (2 * i) p.x (pos 0) (omega arith) in
      let y_is : get_or (put_at l i p) (2 * i + 1) (pos 0) ≡ p.y = get_or-set_same (set l (2 * i) p.x) (2 * i + 1) p.y (pos 0)
      (simp length-set (omega arith)) in
      λ j. record { x = x_is j; y = y_is j }

  pub put_other : (j : ℕ) → j ≢ i → point_at (put_at l i p) j ≡ point_at l j
  put_other j n =
      let x_is : get_or (put_at l i p) (2 * j) (pos 0) ≡ get_or l (2 * j) (pos 0) =
      get_or-set_other (set l (2 * i) p.x) (2 * i + 1) (2 * j) p.y (pos 0) (λ e. absurd (omega (arith, e)))
      ∙ get_or-set_other l (2 * i) (2 * j) p.x (pos 0) (λ e. n (omega (arith, e))) in
      let y_is : get_or (put_at l i p) (2 * j + 1) (pos 0) ≡ get_or l (2 * j + 1) (pos 0) =
      get_or-set_other (set l (2 * i) p.x) (2 * i + 1) (2 * j + 1) p.y (pos 0) (λ e. n (omega (arith, e)))
      ∙ get_or-set_other l (2 * i) (2 * j + 1) p.x (pos 0) (λ e. absurd (omega (arith, e))) in
      λ k. record { x = x_is k; y = y_is k }

  pub put-span : (n : ℕ) → i < n → 2 * n ≤ length l → span i n (put_at l i p) ≡ p ∷ span (i + 1) n l
  put-span n h f =
      let fits : 2 * n ≤ length (put_at l i p) = rw (length-put l i p) f in
      span-step i n (put_at l i p) h fits
      ∙ ap₂ (λ (q : Point) (Q : List Point). q ∷ Q) (put_there (omega arith))
      (span_same (n - (i + 1)) (i + 1) n (put_at l i p) l (omega arith) fits f (λ j u v. put_other j (λ e. absurd (omega (arith, e, u)))))

  pub put_behind_lem : (j : ℕ) → j ≤ i → 2 * i + 2 ≤ length l → span j (i + 1) (put_at l i p) ≡ span j i l ++ (p ∷ [])
  put_behind_lem j h f =
      let size : length (first_points i l) ≡ i = length-first_points i l (omega arith) in
      ap (drop j) (first_points-put l i p f) ∙ drop-append-le j (first_points i l) (p ∷ []) (omega (arith, size))

pub span_last : (j n : ℕ) (l : List ℤ) → j < n → 2 * n ≤ length l → span j n l ≡ span j (n - 1) l ++ (point_at l (n - 1) ∷ [])
span_last j n l h f =
    let back : n - 1 + 1 ≡ n = omega arith in
    let size : length (first_points (n - 1) l) ≡ n - 1 = length-first_points (n - 1) l (omega arith) in
    ap (λ (k : ℕ). span j k l) (sym back)
    ∙ ap (drop j) (first_points_next (n - 1) l (omega arith))
    ∙ drop-append-le j (first_points (n - 1) l) (point_at l (n - 1) ∷ []) (omega (arith, size))

pub points-length : (l : List ℤ) → length (points l) ≡ length l / 2
points-length l =
    let n = length l / 2 in
    ap length (sym (first_points-whole n l (omega arith) (omega arith))) ∙ length-first_points n l (omega arith)

pub points_from_back : (i : ℕ) (l : List ℤ) (p : Point) → 2 * i + 2 ≤ length l → p ≡ point_at l i → drop i (points l) ≡ p ∷ drop (i + 1) (points l)
points_from_back i l p h e = points-from i l h ∙ ap {B = List Point} (λ q. q ∷ drop (i + 1) (points l)) (sym e)

pub points_none : (l : List ℤ) → length l ≤ 1 → points l ≡ []
unfolding points
points_none [] h = refl
points_none (x ∷ []) h = refl
points_none (x ∷ y ∷ l) h = absurd (omega arith)

pub put-points : (i : ℕ) (p : Point) (l : List ℤ) → 2 * i + 2 ≤ length l → drop i (points (put_at l i p)) ≡ p ∷ drop (i + 1) (points l)
put-points i p l h =
    let behind : drop (2 * (i + 1)) (put_at l i p) ≡ drop (2 * (i + 1)) l =
    drop-set-lt (2 * (i + 1)) (set l (2 * i) p.x) (2 * i + 1) p.y (omega arith) ∙ drop-set-lt (2 * (i + 1)) l (2 * i) p.x (omega arith) in
    points-from i (put_at l i p) (rw (length-put l i p) h)
    ∙ ap₂ (λ (q : Point) (Q : List Point). q ∷ Q) (put_there l i p h)
    (drop-points (i + 1) (put_at l i p) ∙ ap points behind ∙ sym (drop-points (i + 1) l))

-- the points of the numbers from 2m on
pub points_tail : (m : ℕ) (l : List ℤ) → points (take (length l - 2 * m) (drop (2 * m) l)) ≡ drop m (points l)
points_tail m l = ap points (between_to_end l (2 * m) (length l) (omega arith)) ∙ sym (drop-points m l)

-- the points of the numbers from 2a on and before 2e
pub points-span : (a e : ℕ) (l : List ℤ) → points (take (2 * e - 2 * a) (drop (2 * a) l)) ≡ span a e l
points-span a e l = ap points (between_is l (2 * a) (2 * e)) ∙ sym (drop-points a (take (2 * e) l))
