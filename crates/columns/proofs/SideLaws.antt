-- The points that the columns of a list name are its lowest and its highest ones.
--
--   column_cases  == the two cases of `column_point`
--   side-members  : the points named are points of the list
--   side_rises    : they rise
--   side_in       : there is one in every column that has points
--   sides_are     : the lowest points, and the highest ones reversed, are sides of the list
use mathlib.Core.Path.{◌≡◌, refl, sym, subst}
use mathlib.Core.Logic.{◌⊎◌, inl, inr}
use mathlib.Core.Bool.{Bool, true, false}
use mathlib.Core.List.Memᴰ
use mathlib.Core.List.{List, [], ◌∷◌, ◌++◌, reverse}
use Prim.Native.Nat.{ℕ, zero, suc, ◌+◌, ◌≤◌, ◌<◌}
use native.Mathlib.Decide.{ℕ_discrete}
use native.Mathlib.Omega.{arith}
use lib.Dec.{T}
use lib.IntN.{ℤ, pos, negsuc, nat_abs}
use lib.ListN.{length, get_or}
use lib.Signed.{lt_z}
use Rattle.integers.specs.Order.{◌≼◌, ◌≺◌}
use Rattle.integers.proofs.Bounds.{lt_true, lt_false}
use Rattle.integers.proofs.Order.{≤_trans, ≤_to_<, <-≤_clash, <_trans, pos_le}
use Rattle.geometry.specs.declared.Point.{Point}
use Rattle.geometry.specs.Order.{before}
use Rattle.geometry.specs.EmBox.{em, Inside}
use Rattle.point_lists.specs.Sets.{In}
use Rattle.point_lists.specs.Rising.{Rising}
use Rattle.point_lists.proofs.Sets.{also, none_of}
use Rattle.point_lists.proofs.Order.{by_x, is_before}
use Rattle.hull.proofs.HullOf.{rising-sorted, reverse_falls, reverse_to, reverse-from}
use Rattle.hull.proofs.SameDisk.{not_empty}
use Rattle.hull.proofs.TwoSides.{Below, Sides}
use Rattle.columns.specs.Columns.{at, Column, none, some, Columns, column_point, side, column_count}
use Rattle.columns.proofs.ColumnLaws.{box_x, box_column, column_empty, column_one}

-- ---- one column

data Cases (x lo hi y : ℤ) : Type 0 where
  empty : hi ≺ lo → column_point x lo hi y ≡ [] → Cases x lo hi y
  one : lo ≼ hi → column_point x lo hi y ≡ record { x = x; y = y } ∷ [] → Cases x lo hi y

column_cases : (x lo hi y : ℤ) → Cases x lo hi y
column_cases x lo hi y = go (lt_z hi lo) refl
  where
    go : (s : Bool) → lt_z hi lo ≡ s → Cases x lo hi y
    go true e = empty (lt_true hi lo e) (column_empty x lo hi y e)
    go false e = one (lt_false hi lo e) (column_one x lo hi y e)

column_only : (x lo hi y : ℤ) (q : Point) → In q (column_point x lo hi y) → (lo ≼ hi) × (q ≡ record { x = x; y = y })
column_only x lo hi y q i = go (column_cases x lo hi y)
  where
    go : Cases x lo hi y → (lo ≼ hi) × (q ≡ record { x = x; y = y })
    go (empty h e) = absurd (Memᴰ.not-nil (subst (λ (Q : List Point). In q Q) e i))
    go (one h e) = (h, also (λ r. r ≡ record { x = x; y = y }) refl (none_of (λ r. r ≡ record { x = x; y = y })) q (subst (λ (Q : List Point). In q Q) e i))

column_in : (x lo hi y : ℤ) → lo ≼ hi → In (record { x = x; y = y }) (column_point x lo hi y)
column_in x lo hi y h = go (column_cases x lo hi y)
  where
    go : Cases x lo hi y → In (record { x = x; y = y }) (column_point x lo hi y)
    go (empty k e) = <-≤_clash k h
    go (one k e) = rw e (Memᴰ.head refl)

column_rises : (x lo hi y : ℤ) → Rising (column_point x lo hi y)
column_rises x lo hi y = go (column_cases x lo hi y)
  where
    go : Cases x lo hi y → Rising (column_point x lo hi y)
    go (empty h e) = subst Rising (sym e) tt
    go (one h e) = subst Rising (sym e) (none_of (λ q. T (before (record { x = x; y = y }) q)), tt)

-- ---- all columns

rising_append : (A B : List Point) → Rising A → Rising B → ((a b : Point) → In a A → In b B → T (before a b)) → Rising (A ++ B)
rising_append [] B r s f = s
rising_append (a ∷ A) B r s f = (
  λ q i. go q (Memᴰ.append_cases A i),
  rising_append A B r.1 s (λ p q i j. f p q (Memᴰ.tail i) j),
)
  where
    go : (q : Point) → In q A ⊎ In q B → T (before a q)
    go q (inl i) = r.0 q i
    go q (inr j) = f a q (Memᴰ.head refl) j

module _ (low high ys : List ℤ) where
  abbrev lo : ℕ → ℤ
  lo x = get_or low x (pos 0)

  abbrev hi : ℕ → ℤ
  hi x = get_or high x (pos 0)

  abbrev ht : ℕ → ℤ
  ht x = get_or ys x (pos 0)

  abbrev this : ℕ → List Point
  this k = column_point (pos k) (lo k) (hi k) (ht k)

  side-members : {P : List Point} → ((x : ℕ) → x < column_count → lo x ≼ hi x → In (at x (ht x)) P) → (k : ℕ) → k ≤ column_count → (q : Point)
      → In q (side k low high ys) → In q P
  unfolding side
  side-members {P} f zero h q i = absurd (Memᴰ.not-nil i)
  side-members {P} f (suc k) h q i = go (λ j. side-members f k (omega arith) q j) (Memᴰ.append_cases (side k low high ys) i)
    where
      go : (In q (side k low high ys) → In q P) → In q (side k low high ys) ⊎ In q (this k) → In q P
      go g (inl j) = g j
      go g (inr j) = let o = column_only (pos k) (lo k) (hi k) (ht k) q j in subst (λ (r : Point). In r P) (sym o.1) (f k (omega arith) o.0)

  side_x : (k : ℕ) (q : Point) → In q (side k low high ys) → q.x ≺ pos k
  unfolding side
  side_x zero q i = absurd (Memᴰ.not-nil i)
  side_x (suc k) q i = go (λ j. side_x k q j) (Memᴰ.append_cases (side k low high ys) i)
    where
      next : pos k ≺ pos (suc k)
      next = ≤_to_< (pos_le {m = k + 1} {n = suc k} (omega arith))

      go : (In q (side k low high ys) → q.x ≺ pos k) → In q (side k low high ys) ⊎ In q (this k) → q.x ≺ pos (suc k)
      go f (inl j) = <_trans (f j) next
      go f (inr j) = subst (λ (r : Point). r.x ≺ pos (suc k)) (sym (column_only (pos k) (lo k) (hi k) (ht k) q j).1) next

  side_rises : (k : ℕ) → Rising (side k low high ys)
  unfolding side
  side_rises zero = tt
  side_rises (suc k) = rising_append (side k low high ys) (this k) (side_rises k) (column_rises (pos k) (lo k) (hi k) (ht k))
      (λ a b i j. subst (λ (r : Point). T (before a r)) (sym (column_only (pos k) (lo k) (hi k) (ht k) b j).1) (is_before (by_x (side_x k a i))))

  side_in : (k x : ℕ) → x < k → lo x ≼ hi x → In (at x (ht x)) (side k low high ys)
  unfolding side
  side_in zero x h e = absurd (omega arith)
  side_in (suc k) x h e = go (λ j. side_in k x j e) (ℕ_discrete x k)
    where
      go : (x < k → In (at x (ht x)) (side k low high ys)) → Dec (x ≡ k) → In (at x (ht x)) (side k low high ys ++ this k)
      go f (yes s) = Memᴰ.append_right (side k low high ys) (subst (λ (j : ℕ). In (at x (ht x)) (this j)) s (column_in (pos x) (lo x) (hi x) (ht x) e))
      go f (no n) = Memᴰ.append_left (this k) (f (omega arith))

-- ---- the hull

module _ {P : List Point} {low high : List ℤ} (c : Columns P low high) (boxed : (p : Point) → In p P → Inside em p) where
  abbrev A : List Point
  A = side column_count low high low

  abbrev B : List Point
  B = side column_count low high high

  named : (x : ℕ) → x < column_count → get_or low x (pos 0) ≼ get_or high x (pos 0) → In (at x (get_or low x (pos 0))) P × In (at x (get_or high x (pos 0))) P
  named x h k = go (c.column x h)
    where
      go : Column P x (get_or low x (pos 0)) (get_or high x (pos 0)) → In (at x (get_or low x (pos 0))) P × In (at x (get_or high x (pos 0))) P
      go (none e f) = <-≤_clash {a = get_or high x (pos 0)} {b = get_or low x (pos 0)}
          (subst (λ (z : ℤ). z ≺ get_or low x (pos 0)) (sym f) (subst (λ (z : ℤ). negsuc 32767 ≺ z) (sym e) (record { lt = tt }))) k
      go (some i j) = (i, j)

  some_there : (p : Point) → In p P → get_or low (nat_abs p.x) (pos 0) ≼ get_or high (nat_abs p.x) (pos 0)
  some_there p i = ≤_trans (c.low_most p i) (c.high_least p i)

  pub sides_are : Sides P A (reverse B)
  sides_are = record {
    low_members = side-members low high low (λ x h k. (named x h k).0) column_count (omega arith);
    high_members = λ q i. side-members low high high (λ x h k. (named x h k).1) column_count (omega arith) q (reverse-from B q i);
    rises = rising-sorted A (side_rises low high low column_count);
    falls = reverse_falls B (side_rises low high high column_count);
    has_low = λ p i. record {
      low = at (nat_abs p.x) (get_or low (nat_abs p.x) (pos 0));
      low_in = side_in low high low column_count (nat_abs p.x) (box_column p (boxed p i)) (some_there p i);
      low_x = sym (box_x p (boxed p i));
      under = c.low_most p i;
    };
    has_high = λ p i. record {
      high = at (nat_abs p.x) (get_or high (nat_abs p.x) (pos 0));
      high_in = reverse_to B (at (nat_abs p.x) (get_or high (nat_abs p.x) (pos 0)))
          (side_in low high high column_count (nat_abs p.x) (box_column p (boxed p i)) (some_there p i));
      high_x = sym (box_x p (boxed p i));
      over = c.high_least p i;
    };
  }

  pub sides_some : 1 ≤ length P → 1 ≤ length A
  sides_some h = go P h (λ p i. sides_are.has_low p i)
    where
      go : (R : List Point) → 1 ≤ length R → ((p : Point) → In p R → Below A p) → 1 ≤ length A
      go [] k f = absurd (omega arith)
      go (p ∷ R) k f = not_empty A (f p (Memᴰ.head refl)).low_in
