-- Points in the box of limits.
--
--   inside, inside_test : a point lies in the box, by its four inequalities, where and only where the test says so
--   left_size, right_size, foot_size, top_size : no limit of the box is larger, in size, than the largest
--   point_size   : no coordinate of a point in the box is larger, in size, than the largest
--   right_of     : every point of the em box is to the right of `left_of_box`
--   all_in, in_all : a list lies in the box where and only where each of its points does
--   all_inside, inside_all : the same for the em box; box-members, members-box : with the test of a point
use mathlib.Core.Path.{◌≡◌, refl, sym, subst}
use mathlib.Core.Logic.{◌⊎◌, inl, inr}
use mathlib.Core.Bool.{true}
use mathlib.Core.List.Memᴰ
use mathlib.Core.List.{List, [], ◌∷◌, Memᴰ}
use Prim.Native.Nat.{ℕ, max, ◌≤◌}
use native.Mathlib.Nat.{le_trans, le-max_left, le-max_right}
use lib.Dec.{T}
use lib.IntN.{nat_abs}
use lib.Signed.{◌<ℤ◌, le_z}
use Rattle.integers.specs.Order.{between}
use Rattle.integers.proofs.Order.{<-≤_trans}
use Rattle.integers.proofs.Tests.{first, rest, both, test_true, true_test, between_most, between-low, between-high}
use Rattle.geometry.specs.declared.Point.{Point}
use Rattle.geometry.specs.declared.Limits.{Limits}
use Rattle.geometry.specs.EmBox.{em, left_of_box, in_box, all_in_box, in_em_box, all_in_em_box, Inside, largest}

module _ (l : Limits) where
  abbrev across : ℕ
  across = max (nat_abs l.left) (nat_abs l.right)

  abbrev along : ℕ
  along = max (nat_abs l.foot) (nat_abs l.top)

  pub left_size : nat_abs l.left ≤ largest l
  left_size = le_trans (le-max_left (nat_abs l.left) (nat_abs l.right)) (le-max_left across along)

  pub right_size : nat_abs l.right ≤ largest l
  right_size = le_trans (le-max_right (nat_abs l.left) (nat_abs l.right)) (le-max_left across along)

  pub foot_size : nat_abs l.foot ≤ largest l
  foot_size = le_trans (le-max_left (nat_abs l.foot) (nat_abs l.top)) (le-max_right across along)

  pub top_size : nat_abs l.top ≤ largest l
  top_size = le_trans (le-max_right (nat_abs l.foot) (nat_abs l.top)) (le-max_right across along)

module _ (l : Limits) (p : Point) (h : in_box l p ≡ true) where
  in_x : between l.left p.x l.right ≡ true
  unfolding in_box
  in_x = first (between l.left p.x l.right) (between l.foot p.y l.top) h

  in_y : between l.foot p.y l.top ≡ true
  unfolding in_box
  in_y = rest (between l.left p.x l.right) (between l.foot p.y l.top) h

  pub inside : Inside l p
  inside = record {
    from_left = between-low l.left p.x l.right in_x;
    to_right = between-high l.left p.x l.right in_x;
    from_foot = between-low l.foot p.y l.top in_y;
    to_top = between-high l.foot p.y l.top in_y;
  }

  pub point_size : (nat_abs p.x ≤ largest l) × (nat_abs p.y ≤ largest l)
  point_size =
      (between_most l.left p.x l.right (left_size l) (right_size l) in_x, between_most l.foot p.y l.top (foot_size l) (top_size l) in_y)

pub right_of : (p : Point) → in_em_box p ≡ true → left_of_box <ℤ p.x
right_of p h = <-≤_trans (record { lt = tt }) (inside em p h).from_left

pub inside_test : (l : Limits) (p : Point) → Inside l p → in_box l p ≡ true
unfolding in_box
inside_test l p i =
    both (both (test_true (le_z l.left p.x) i.from_left.le) (test_true (le_z p.x l.right) i.to_right.le))
    (both (test_true (le_z l.foot p.y) i.from_foot.le) (test_true (le_z p.y l.top) i.to_top.le))

-- ---- lists

pub all_in : (l : Limits) (P : List Point) → all_in_box l P ≡ true → (p : Point) → Memᴰ p P → Inside l p
unfolding all_in_box
all_in l [] h p i = absurd (Memᴰ.not-nil i)
all_in l (q ∷ P) h p i = go (λ (k : Memᴰ p P). all_in l P (rest (in_box l q) (all_in_box l P) h) p k) (Memᴰ.cases_cons i)
  where
    go : (Memᴰ p P → Inside l p) → (p ≡ q) ⊎ Memᴰ p P → Inside l p
    go f (inl e) = subst (Inside l) (sym e) (inside l q (first (in_box l q) (all_in_box l P) h))
    go f (inr k) = f k

pub in_all : (l : Limits) (P : List Point) → ((p : Point) → Memᴰ p P → Inside l p) → all_in_box l P ≡ true
unfolding all_in_box
in_all l [] h = refl
in_all l (p ∷ P) h = both (inside_test l p (h p (Memᴰ.head refl))) (in_all l P (λ q i. h q (Memᴰ.tail i)))

pub all_inside : (P : List Point) → all_in_em_box P ≡ true → (p : Point) → Memᴰ p P → Inside em p
all_inside P h p i = all_in em P h p i

pub inside_all : (P : List Point) → ((p : Point) → Memᴰ p P → Inside em p) → all_in_em_box P ≡ true
inside_all P h = in_all em P h

pub box_members : (P : List Point) → all_in_em_box P ≡ true → (p : Point) → Memᴰ p P → T (in_em_box p)
box_members P h p i = true_test (inside_test em p (all_inside P h p i))

pub members_box : (P : List Point) → ((p : Point) → Memᴰ p P → T (in_em_box p)) → all_in_em_box P ≡ true
members_box P h = inside_all P (λ p i. inside em p (test_true (in_em_box p) (h p i)))
