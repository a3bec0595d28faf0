-- The columns of a list: laws of `Columns`, `Seen`, `column_point` and `side`.
--
--   lesser_new, lesser_old, greater_new, greater_old : the two cases of int_min and int_max
--   box_x, box_column  : a point of the em box lies in one of its columns
--   columns_none, seen_none : the columns and the marks of no point
--   columns_next, seen_next : and with one more point
--   column_empty, column_one : the point of a column
--   side_next, side_skip : the points of one more column, and of more columns without points
use mathlib.Core.Path.{◌≡◌, refl, sym, ap, subst, ◌∙◌}
use mathlib.Core.Logic.{◌⊎◌, inl, inr, ◌≢◌}
use mathlib.Core.Bool.{Bool, true, false}
use mathlib.Core.List.Memᴰ
use mathlib.Core.List.{List, [], ◌∷◌, ◌++◌, append-nil}
use Prim.Native.Nat.{ℕ, zero, suc, ◌+◌, ◌/◌, ◌≤◌, ◌<◌}
use native.Mathlib.Decide.{ℕ_discrete}
use native.Mathlib.Numerals.{add-one}
use native.Mathlib.Omega.{arith}
use lib.IntN.{ℤ, pos, negsuc, nat_abs}
use lib.ListN.{length, get_or, set, replicate, length-set, length-replicate, get_or-replicate}
use lib.Seq.{get_or-set_same, get_or-set_other}
use lib.Signed.{lt_z}
use Rattle.std.specs.Int.{int_min, int_max}
use Rattle.integers.specs.Order.{◌≼◌, ◌≺◌}
use Rattle.integers.proofs.Tests.{test_true}
use Rattle.integers.proofs.Bounds.{lt_true, lt_false}
use Rattle.integers.proofs.Order.{≤-refl, ≤_of_eq, ≤_of_<, ≤_trans, <-≤_clash, le_pos}
use Rattle.geometry.specs.declared.Point.{Point}
use Rattle.geometry.specs.EmBox.{em, Inside}
use Rattle.point_lists.specs.Sets.{In}
use Rattle.point_lists.proofs.Sets.{point_path, also, none_of}
use Rattle.columns.specs.Columns.{kept_at, at, Column, none, some, Columns, Seen, column_point, side, column_count, group_count}

-- ---- the lesser and the greater

pub lesser_new : (a b : ℤ) → lt_z b a ≡ true → int_min a b ≡ b
lesser_new a b e = rw e

pub lesser_old : (a b : ℤ) → lt_z b a ≡ false → int_min a b ≡ a
lesser_old a b e = rw e

pub greater_new : (a b : ℤ) → lt_z b a ≡ false → int_max a b ≡ b
greater_new a b e = rw e

pub greater_old : (a b : ℤ) → lt_z b a ≡ true → int_max a b ≡ a
greater_old a b e = rw e

pub data Picked (a b r : ℤ) : Type 0 where
  old : r ≡ a → Picked a b r
  new : r ≡ b → Picked a b r

pub lesser_picked : (a b : ℤ) → Picked a b (int_min a b)
lesser_picked a b = go (lt_z b a) refl
  where
    go : (t : Bool) → lt_z b a ≡ t → Picked a b (int_min a b)
    go true e = new (lesser_new a b e)
    go false e = old (lesser_old a b e)

pub greater_picked : (a b : ℤ) → Picked a b (int_max a b)
greater_picked a b = go (lt_z b a) refl
  where
    go : (t : Bool) → lt_z b a ≡ t → Picked a b (int_max a b)
    go true e = old (greater_old a b e)
    go false e = new (greater_new a b e)

pub lesser-least : (a b : ℤ) → (int_min a b ≼ a) × (int_min a b ≼ b)
lesser-least a b = go (lt_z b a) refl
  where
    go : (t : Bool) → lt_z b a ≡ t → (int_min a b ≼ a) × (int_min a b ≼ b)
    go true e = rw (lesser_new a b e) (≤_of_< (lt_true b a e), ≤-refl b)
    go false e = rw (lesser_old a b e) (≤-refl a, lt_false b a e)

pub greater_most : (a b : ℤ) → (a ≼ int_max a b) × (b ≼ int_max a b)
greater_most a b = go (lt_z b a) refl
  where
    go : (t : Bool) → lt_z b a ≡ t → (a ≼ int_max a b) × (b ≼ int_max a b)
    go true e = rw (greater_old a b e) (≤-refl a, ≤_of_< (lt_true b a e))
    go false e = rw (greater_new a b e) (lt_false b a e, ≤-refl b)

-- ---- the em box

pub box_x : (p : Point) → Inside em p → p.x ≡ pos (nat_abs p.x)
box_x p h = whole p.x h.from_left
  where
    whole : (z : ℤ) → pos 0 ≼ z → z ≡ pos (nat_abs z)
    whole (pos n) k = refl
    whole (negsuc n) k = absurd k.le

pub box_column : (p : Point) → Inside em p → nat_abs p.x < column_count
box_column p h = small (nat_abs p.x) (subst (λ (z : ℤ). z ≼ em.right) (box_x p h) h.to_right)
  where
    small : (n : ℕ) → pos n ≼ em.right → n < column_count
    small n k = let m : n ≤ nat_abs em.right = le_pos k in omega arith

-- ---- one more point

pub columns_none : Columns [] (replicate column_count (pos 32767)) (replicate column_count (negsuc 32767))
columns_none = record {
  low_size = length-replicate column_count (pos 32767);
  high_size = length-replicate column_count (negsuc 32767);
  low_most = λ p i. absurd (Memᴰ.not-nil i);
  high_least = λ p i. absurd (Memᴰ.not-nil i);
  column = λ x h. none (get_or-replicate column_count x (pos 32767) (pos 0) h) (get_or-replicate column_count x (negsuc 32767) (pos 0) h);
}

-- the number at a place after one was put at place k
module _ (l : List ℤ) (k : ℕ) (fits : k < length l) (v : ℤ) where
  there : get_or (set l k v) k (pos 0) ≡ v
  there = get_or-set_same l k v (pos 0) fits

  elsewhere : (j : ℕ) → j ≢ k → get_or (set l k v) j (pos 0) ≡ get_or l j (pos 0)
  elsewhere j n = get_or-set_other l k j v (pos 0) n

module _ {P : List Point} {low high : List ℤ} (c : Columns P low high) (p : Point) (b : Inside em p) where
  abbrev k : ℕ
  k = nat_abs p.x

  abbrev P' : List Point
  P' = P ++ (p ∷ [])

  abbrev low' : List ℤ
  low' = kept_at int_min low k p.y

  abbrev high' : List ℤ
  high' = kept_at int_max high k p.y

  low_fits : k < length low
  low_fits = omega (arith, c.low_size, box_column p b)

  high_fits : k < length high
  high_fits = omega (arith, c.high_size, box_column p b)

  abbrev lo : ℤ
  lo = get_or low k (pos 0)

  abbrev hi : ℤ
  hi = get_or high k (pos 0)

  low_there : get_or low' k (pos 0) ≡ int_min lo p.y
  low_there = there low k low_fits (int_min lo p.y)

  high_there : get_or high' k (pos 0) ≡ int_max hi p.y
  high_there = there high k high_fits (int_max hi p.y)

  low_less : (j : ℕ) → get_or low' j (pos 0) ≼ get_or low j (pos 0)
  low_less j = go (ℕ_discrete j k)
    where
      go : Dec (j ≡ k) → get_or low' j (pos 0) ≼ get_or low j (pos 0)
      go (yes e) = subst (λ (i : ℕ). get_or low' i (pos 0) ≼ get_or low i (pos 0)) (sym e) (≤_trans (≤_of_eq low_there) (lesser-least lo p.y).0)
      go (no n) = ≤_of_eq (elsewhere low k low_fits (int_min lo p.y) j n)

  high_more : (j : ℕ) → get_or high j (pos 0) ≼ get_or high' j (pos 0)
  high_more j = go (ℕ_discrete j k)
    where
      go : Dec (j ≡ k) → get_or high j (pos 0) ≼ get_or high' j (pos 0)
      go (yes e) = subst (λ (i : ℕ). get_or high i (pos 0) ≼ get_or high' i (pos 0)) (sym e) (≤_trans (greater_most hi p.y).0 (≤_of_eq (sym high_there)))
      go (no n) = ≤_of_eq (sym (elsewhere high k high_fits (int_max hi p.y) j n))

  new_in : In p P'
  new_in = Memᴰ.append_right P (Memᴰ.head refl)

  here : (y : ℤ) → y ≡ p.y → In (at k y) P'
  here y e = Memᴰ.cast (point_path (sym (box_x p b)) e) new_in

  picked : (a r : ℤ) → In (at k a) P → Picked a p.y r → In (at k r) P'
  picked a r i (old e) = subst (λ (z : ℤ). In (at k z) P') (sym e) (Memᴰ.append_left (p ∷ []) i)
  picked a r i (new e) = here r e

  low_new : lo ≡ pos 32767 → int_min lo p.y ≡ p.y
  low_new e = go (lt_z p.y lo) refl
    where
      go : (t : Bool) → lt_z p.y lo ≡ t → int_min lo p.y ≡ p.y
      go true h = lesser_new lo p.y h
      go false h = <-≤_clash (record { lt = tt }) (≤_trans (subst (λ (z : ℤ). z ≼ p.y) e (lt_false p.y lo h)) b.to_top)

  high_new : hi ≡ negsuc 32767 → int_max hi p.y ≡ p.y
  high_new e = go (lt_z p.y hi) refl
    where
      go : (t : Bool) → lt_z p.y hi ≡ t → int_max hi p.y ≡ p.y
      go true h = <-≤_clash (record { lt = tt }) (≤_trans b.from_foot (subst (λ (z : ℤ). p.y ≼ z) e (≤_of_< (lt_true p.y hi h))))
      go false h = greater_new hi p.y h

  column_there : Column P k lo hi → Column P' k (int_min lo p.y) (int_max hi p.y)
  column_there (none e f) = some (here (int_min lo p.y) (low_new e)) (here (int_max hi p.y) (high_new f))
  column_there (some i j) = some (picked lo (int_min lo p.y) i (lesser_picked lo p.y)) (picked hi (int_max hi p.y) j (greater_picked hi p.y))

  column_more : (x : ℕ) (a z : ℤ) → Column P x a z → Column P' x a z
  column_more x a z (none e f) = none e f
  column_more x a z (some i j) = some (Memᴰ.append_left (p ∷ []) i) (Memᴰ.append_left (p ∷ []) j)

  column_next : (x : ℕ) → x < column_count → Column P' x (get_or low' x (pos 0)) (get_or high' x (pos 0))
  column_next x h = go (ℕ_discrete x k)
    where
      go : Dec (x ≡ k) → Column P' x (get_or low' x (pos 0)) (get_or high' x (pos 0))
      go (yes e) = subst (λ (i : ℕ). Column P' i (get_or low' i (pos 0)) (get_or high' i (pos 0))) (sym e)
          (rw (low_there, high_there) (column_there (c.column k (box_column p b))))
      go (no n) = rw (elsewhere low k low_fits (int_min lo p.y) x n, elsewhere high k high_fits (int_max hi p.y) x n)
          (column_more x (get_or low x (pos 0)) (get_or high x (pos 0)) (c.column x h))

  pub columns_next : Columns P' low' high'
  columns_next = record {
    low_size = length-set low k (int_min lo p.y) ∙ c.low_size;
    high_size = length-set high k (int_max hi p.y) ∙ c.high_size;
    low_most = λ q i. covered_low q (Memᴰ.append_cases P i);
    high_least = λ q i. covered_high q (Memᴰ.append_cases P i);
    column = column_next;
  }
    where
      covered_low : (q : Point) → In q P ⊎ In q (p ∷ []) → get_or low' (nat_abs q.x) (pos 0) ≼ q.y
      covered_low q (inl i) = ≤_trans (low_less (nat_abs q.x)) (c.low_most q i)
      covered_low q (inr i) = also (λ r. get_or low' (nat_abs r.x) (pos 0) ≼ r.y) (≤_trans (≤_of_eq low_there) (lesser-least lo p.y).1)
          (none_of (λ r. get_or low' (nat_abs r.x) (pos 0) ≼ r.y)) q i

      covered_high : (q : Point) → In q P ⊎ In q (p ∷ []) → q.y ≼ get_or high' (nat_abs q.x) (pos 0)
      covered_high q (inl i) = ≤_trans (c.high_least q i) (high_more (nat_abs q.x))
      covered_high q (inr i) = also (λ r. r.y ≼ get_or high' (nat_abs r.x) (pos 0)) (≤_trans (greater_most hi p.y).1 (≤_of_eq (sym high_there)))
          (none_of (λ r. r.y ≼ get_or high' (nat_abs r.x) (pos 0))) q i

-- ---- the marks

pub seen_none : Seen [] (replicate group_count false)
seen_none = record { groups = length-replicate group_count false; marked = λ p i. absurd (Memᴰ.not-nil i) }

pub seen_next : {P : List Point} {seen : List Bool} → Seen P seen → (p : Point) → Inside em p → Seen (P ++ (p ∷ [])) (set seen (nat_abs p.x / 16) true)
seen_next {P} {seen} m p b = record {
  groups = length-set seen k true ∙ m.groups;
  marked = λ q i. go q (Memᴰ.append_cases P i);
}
  where
    k : ℕ
    k = nat_abs p.x / 16

    here : get_or (set seen k true) k false ≡ true
    here = get_or-set_same seen k true false (omega (arith, m.groups, box_column p b))

    kept : (j : ℕ) → get_or seen j false ≡ true → get_or (set seen k true) j false ≡ true
    kept j e = at_place (ℕ_discrete j k)
      where
        at_place : Dec (j ≡ k) → get_or (set seen k true) j false ≡ true
        at_place (yes f) = ap (λ (i : ℕ). get_or (set seen k true) i false) f ∙ here
        at_place (no n) = get_or-set_other seen k j true false n ∙ e

    go : (q : Point) → In q P ⊎ In q (p ∷ []) → get_or (set seen k true) (nat_abs q.x / 16) false ≡ true
    go q (inl i) = kept (nat_abs q.x / 16) (m.marked q i)
    go q (inr i) = also (λ r. get_or (set seen k true) (nat_abs r.x / 16) false ≡ true) here (none_of (λ r. get_or (set seen k true) (nat_abs r.x / 16) false ≡ true)) q i

-- ---- the point of a column

pub column_empty : (x lo hi y : ℤ) → lt_z hi lo ≡ true → column_point x lo hi y ≡ []
unfolding column_point
column_empty x lo hi y e = rw e

pub column_one : (x lo hi y : ℤ) → lt_z hi lo ≡ false → column_point x lo hi y ≡ record { x = x; y = y } ∷ []
unfolding column_point
column_one x lo hi y e = rw e

pub side_none : (low high ys : List ℤ) → side 0 low high ys ≡ []
unfolding side
side_none low high ys = refl

pub side_next : (k : ℕ) (low high ys : List ℤ)
    → side (k + 1) low high ys ≡ side k low high ys ++ column_point (pos k) (get_or low k (pos 0)) (get_or high k (pos 0)) (get_or ys k (pos 0))
unfolding side
side_next k low high ys = rw (add-one k)

-- columns without points
pub side_skip : (d x y : ℕ) (low high ys : List ℤ) → y ≡ x + d → ((j : ℕ) → x ≤ j → j < y → get_or high j (pos 0) ≺ get_or low j (pos 0))
    → side y low high ys ≡ side x low high ys
side_skip zero x y low high ys e f = let same : y ≡ x = omega arith in ap (λ (k : ℕ). side k low high ys) same
side_skip (suc d) x y low high ys e f =
    let next : y ≡ x + d + 1 = omega arith in
    ap (λ (k : ℕ). side k low high ys) next ∙ side_next (x + d) low high ys
    ∙ ap {B = List Point} (λ Q. side (x + d) low high ys ++ Q)
    (column_empty (pos (x + d)) (get_or low (x + d) (pos 0)) (get_or high (x + d) (pos 0)) (get_or ys (x + d) (pos 0))
    (test_true (lt_z (get_or high (x + d) (pos 0)) (get_or low (x + d) (pos 0))) (f (x + d) (omega arith) (omega arith)).lt))
    ∙ append-nil (side (x + d) low high ys) ∙ side_skip d x (x + d) low high ys refl (λ j u v. f j u (omega arith))
