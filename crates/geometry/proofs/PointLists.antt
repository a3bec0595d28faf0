-- A list of numbers as points, and points as numbers.
--
--   two-suc                 : 2(n + 1) as two more than 2n
--   two_dropped             : two numbers of a list, and those behind them
--   points_none, points_next : a list of fewer than two numbers has no point; any other has its first, and those of the rest
--   length-flat             : the numbers of n points are 2n
--   flat_append             : the numbers of two lists of points, one after the other
--   first_points-flat        : of those numbers with more behind, the first points are ps
--   first_points-whole       : with n half the length, rounded down, the first n points are all; firstPoints-all: of an even length
--   flat-first_points        : the numbers of the first n points and the rest are the list
--   length-first_points      : the first n points are n
--   first_points_next        : the first n + 1 points are the first n and point n
--   point_at-first_points     : point i is one of the first n
--   first_points_fewer       : the first i points are among the first n
--   point_at_past, to_front_past, keep_past : i points ps put for the first i points of l: point i is as it was; and the list with point i moved
--                             to the front of ps, or left behind ps
use mathlib.Core.Path.{◌≡◌, refl, sym, ap, ◌∙◌}
use mathlib.Core.Logic.{◌⊎◌, inl, inr}
use mathlib.Core.List.Memᴰ
use mathlib.Core.List.{List, [], ◌∷◌, ◌++◌, append_assoc, Memᴰ}
use Prim.Native.Nat.{ℕ, zero, suc, ◌+◌, ◌*◌, ◌≤◌, ◌<◌}
use native.Mathlib.Nat.{add-zero}
use native.Mathlib.Numerals.{add-one, add-two}
use native.Mathlib.Omega.{arith}
use lib.ListN.{length, get_or, drop}
use lib.Seq.{drop-cons, drop-drop, drop-append-add, get_or-append-add, get_or-drop, take_at}
use lib.IntN.{ℤ, pos}
use Rattle.geometry.specs.declared.Point.{Point}
use Rattle.geometry.specs.Points.{points, flat, point_at, first_points, to_front}

pub two-suc : (n : ℕ) → 2 * suc n ≡ suc (suc (2 * n))
two-suc n = omega arith

two-suc-one : (n : ℕ) → 2 * suc n + 1 ≡ suc (suc (2 * n + 1))
two-suc-one n = omega arith

-- ---- the first point and those behind it

pub points_none : (l : List ℤ) → length l < 2 → points l ≡ []
unfolding points
points_none [] h = refl
points_none (x ∷ []) h = refl
points_none (x ∷ y ∷ l) h = absurd (omega arith)

pub points_next : (l : List ℤ) → 2 ≤ length l → points l ≡ point_at l 0 ∷ points (drop 2 l)
unfolding points
points_next [] h = absurd (omega arith)
points_next (x ∷ []) h = absurd (omega arith)
points_next (x ∷ y ∷ l) h = refl

-- ---- points as numbers

pub length-flat : (ps : List Point) → length (flat ps) ≡ 2 * length ps
unfolding flat
length-flat [] = refl
length-flat (p ∷ ps) = ap (λ (k : ℕ). suc (suc k)) (length-flat ps) ∙ sym (two-suc (length ps))

pub flat_append : (ps qs : List Point) → flat (ps ++ qs) ≡ flat ps ++ flat qs
unfolding flat
flat_append [] qs = refl
flat_append (p ∷ ps) qs = ap {B = List ℤ} (λ l. p.x ∷ p.y ∷ l) (flat_append ps qs)

pub points_of_flat : (ps : List Point) → points (flat ps) ≡ ps
unfolding points flat
points_of_flat [] = refl
points_of_flat (p ∷ ps) = ap {B = List Point} (λ qs. p ∷ qs) (points_of_flat ps)

-- ---- the first points

first_points_cons : (n : ℕ) (x y : ℤ) (l : List ℤ) → first_points (suc n) (x ∷ y ∷ l) ≡ record { x = x; y = y } ∷ first_points n l
unfolding points
first_points_cons n x y l = rw (two-suc n)

pub first_points-flat : (ps : List Point) (rest : List ℤ) → first_points (length ps) (flat ps ++ rest) ≡ ps
unfolding points flat
first_points-flat [] rest = refl
first_points-flat (p ∷ ps) rest = first_points_cons (length ps) p.x p.y (flat ps ++ rest) ∙ ap {B = List Point} (λ qs. p ∷ qs) (first_points-flat ps rest)

pub first_points-whole : (n : ℕ) (l : List ℤ) → 2 * n ≤ length l → length l < 2 * n + 2 → first_points n l ≡ points l
unfolding points
first_points-whole zero [] h k = refl
first_points-whole zero (x ∷ []) h k = refl
first_points-whole zero (x ∷ y ∷ l) h k = absurd (omega arith)
first_points-whole (suc n) [] h k = absurd (omega arith)
first_points-whole (suc n) (x ∷ []) h k = absurd (omega arith)
first_points-whole (suc n) (x ∷ y ∷ l) h k =
    first_points_cons n x y l ∙ ap {B = List Point} (λ qs. record { x = x; y = y } ∷ qs) (first_points-whole n l (omega arith) (omega arith))

pub first_points_all : (n : ℕ) (l : List ℤ) → length l ≡ 2 * n → first_points n l ≡ points l
first_points_all n l e = first_points-whole n l (omega arith) (omega arith)

pub flat-first_points : (n : ℕ) (l : List ℤ) → 2 * n ≤ length l → flat (first_points n l) ++ drop (2 * n) l ≡ l
unfolding points flat
flat-first_points zero l h = refl
flat-first_points (suc n) [] h = absurd (omega arith)
flat-first_points (suc n) (x ∷ []) h = absurd (omega arith)
flat-first_points (suc n) (x ∷ y ∷ l) h = rw (two-suc n) (ap {B = List ℤ} (λ r. x ∷ y ∷ r) (flat-first_points n l (omega arith)))

pub length-first_points : (n : ℕ) (l : List ℤ) → 2 * n ≤ length l → length (first_points n l) ≡ n
unfolding points
length-first_points zero l h = refl
length-first_points (suc n) [] h = absurd (omega arith)
length-first_points (suc n) (x ∷ []) h = absurd (omega arith)
length-first_points (suc n) (x ∷ y ∷ l) h = ap length (first_points_cons n x y l) ∙ ap suc (length-first_points n l (omega arith))

point_at-suc : (x y : ℤ) (l : List ℤ) (i : ℕ) → point_at (x ∷ y ∷ l) (suc i) ≡ point_at l i
point_at-suc x y l i = rw (two-suc-one i, two-suc i)

first_points-suc : (n : ℕ) (l : List ℤ) → 2 * n + 2 ≤ length l → first_points (suc n) l ≡ first_points n l ++ (point_at l n ∷ [])
unfolding points
first_points-suc n [] h = absurd (omega arith)
first_points-suc n (x ∷ []) h = absurd (omega arith)
first_points-suc zero (x ∷ y ∷ l) h = refl
first_points-suc (suc n) (x ∷ y ∷ l) h =
    rw (first_points_cons (suc n) x y l, first_points_cons n x y l, first_points-suc n l (omega arith), point_at-suc x y l n)

pub first_points_next : (n : ℕ) (l : List ℤ) → 2 * n + 2 ≤ length l → first_points (n + 1) l ≡ first_points n l ++ (point_at l n ∷ [])
first_points_next n l h = rw (add-one n) (first_points-suc n l h)

pub point_at-first_points : (i n : ℕ) (l : List ℤ) → i < n → 2 * n ≤ length l → Memᴰ (point_at l i) (first_points n l)
point_at-first_points i zero l h fits = absurd (omega arith)
point_at-first_points i (suc n) [] h fits = absurd (omega arith)
point_at-first_points i (suc n) (x ∷ []) h fits = absurd (omega arith)
point_at-first_points zero (suc n) (x ∷ y ∷ l) h fits = rw (first_points_cons n x y l) (Memᴰ.head refl)
point_at-first_points (suc i) (suc n) (x ∷ y ∷ l) h fits =
    rw (first_points_cons n x y l, point_at-suc x y l i) (Memᴰ.tail (point_at-first_points i n l (omega arith) (omega arith)))

pub first_points_fewer : (i n : ℕ) (l : List ℤ) (p : Point) → i ≤ n → Memᴰ p (first_points i l) → Memᴰ p (first_points n l)
unfolding points
first_points_fewer zero n l p h m = absurd (Memᴰ.not-nil m)
first_points_fewer (suc i) zero l p h m = absurd (omega arith)
first_points_fewer (suc i) (suc n) [] p h m = absurd (Memᴰ.not-nil (rw (two-suc i) at m))
first_points_fewer (suc i) (suc n) (x ∷ []) p h m = absurd (Memᴰ.not-nil (rw (two-suc i) at m))
first_points_fewer (suc i) (suc n) (x ∷ y ∷ l) p h m =
    rw (first_points_cons n x y l)
    (go (Memᴰ.cases_cons (rw (first_points_cons i x y l) at m)) (λ k. first_points_fewer i n l p (omega arith) k))
  where
    go : (p ≡ record { x = x; y = y }) ⊎ Memᴰ p (first_points i l) → (Memᴰ p (first_points i l) → Memᴰ p (first_points n l))
        → Memᴰ p (record { x = x; y = y } ∷ first_points n l)
    go (inl e) f = Memᴰ.head e
    go (inr k) f = Memᴰ.tail (f k)

-- ---- i points put for the first i points of a list

pub two_dropped : (l : List ℤ) (k : ℕ) → k + 2 ≤ length l → drop k l ≡ get_or l k (pos 0) ∷ get_or l (k + 1) (pos 0) ∷ drop (k + 2) l
two_dropped l k h =
    rw (add-one k, add-two k)
    (drop-cons l k (pos 0) (omega arith) ∙ ap {B = List ℤ} (λ r. get_or l k (pos 0) ∷ r) (drop-cons l (suc k) (pos 0) (omega arith)))

module _ (ps : List Point) (l : List ℤ) (i : ℕ) (size : length ps ≡ i) where
  flat_size : length (flat ps) ≡ 2 * i
  flat_size = length-flat ps ∙ ap (λ (k : ℕ). 2 * k) size

  past : (k : ℕ) → get_or (flat ps ++ drop (2 * i) l) (2 * i + k) (pos 0) ≡ get_or l (2 * i + k) (pos 0)
  past k =
      ap (λ (n : ℕ). get_or (flat ps ++ drop (2 * i) l) (n + k) (pos 0)) (sym flat_size)
      ∙ get_or-append-add (flat ps) (drop (2 * i) l) k (pos 0)
      ∙ get_or-drop (2 * i) l k (pos 0)

  past_zero : get_or (flat ps ++ drop (2 * i) l) (2 * i) (pos 0) ≡ get_or l (2 * i) (pos 0)
  past_zero =
      ap (λ (n : ℕ). get_or (flat ps ++ drop (2 * i) l) n (pos 0)) (sym (add-zero (2 * i))) ∙ past 0 ∙ ap (λ (n : ℕ). get_or l n (pos 0)) (add-zero (2 * i))

  pub point_at_past : point_at (flat ps ++ drop (2 * i) l) i ≡ point_at l i
  point_at_past = λ j. record { x = past_zero j; y = past 1 j }

  drop_past : drop (2 * i + 2) (flat ps ++ drop (2 * i) l) ≡ drop (2 * i + 2) l
  drop_past =
      ap (λ (n : ℕ). drop (n + 2) (flat ps ++ drop (2 * i) l)) (sym flat_size)
      ∙ drop-append-add (flat ps) (drop (2 * i) l) 2
      ∙ drop-drop 2 (2 * i) l

  two_more : 2 * i + 2 ≡ 2 * (i + 1)
  two_more = omega arith

  pub to_front_past : to_front (flat ps ++ drop (2 * i) l) i ≡ flat (point_at l i ∷ ps) ++ drop (2 * (i + 1)) l
  unfolding flat
  to_front_past = rw (past_zero, past 1, take_at (flat ps) (drop (2 * i) l) (2 * i) flat_size, drop_past, ← two_more)

  pub keep_past : 2 * i + 2 ≤ length l → flat ps ++ drop (2 * i) l ≡ flat (ps ++ (point_at l i ∷ [])) ++ drop (2 * (i + 1)) l
  unfolding flat
  keep_past h = rw (two_dropped l (2 * i) h, flat_append ps (point_at l i ∷ []), append_assoc, ← two_more)
