-- A list has one hull.
--
--   next l a, after l a b   == the first point of l, and the one after it, with a and b behind l
--   row_of_two              : two points, each on the left of the way to the other, are in a row
--   same_next               : all points of P are on the left of both ways on from a corner: the next corner is the same
--   same_rest               : two ways round that have come from the same two corners are the same from there on
--   hull_unique             : two hulls of the same list are the same list of points
--   hull_same               : so are those of two lists with the same points
use mathlib.Core.Path.{◌≡◌, refl, sym, ◌∙◌, ap, subst}
use mathlib.Core.Logic.{inl, inr}
use mathlib.Core.List.Memᴰ
use mathlib.Core.List.{List, [], ◌∷◌, ◌++◌}
use lib.Dec.{T}
use lib.IntN.{ℤ, pos, negsuc, neg_ℤ}
use Rattle.integers.specs.Order.{◌≼◌, ◌≺◌}
use Rattle.integers.proofs.Ring.{poly}
use Rattle.integers.proofs.Order.{≤_of_<, ≤_antisym, nonneg, eq, ◌⊞◌}
use Rattle.geometry.specs.declared.Point.{Point}
use Rattle.geometry.specs.Order.{before}
use Rattle.point_lists.specs.Sets.{In, Same}
use Rattle.point_lists.proofs.Order.{before_trans, before_not_equal}
use Rattle.hull.specs.Hull.{cross, LeftTurns, OnLeft, UpTo, Polygon, Corners, IsHull}
use Rattle.hull.proofs.Turns.{forward, turn_on, turn_swap, no_turn, Mid, rising, falling, balance, beyond, turned_back, Arranged, first_two}
use Rattle.hull.proofs.Turns.{last_two, outer_two, first_mid, second_mid, third_mid, arranged, row-flat}

-- ---- the next corner

flat : (s t : ℤ) → s ≡ neg_ℤ t → pos 0 ≼ s → pos 0 ≼ t → s ≡ pos 0
flat s t e hs ht = ≤_antisym (nonneg (s ∷ t ∷ []) (ht ⊞ eq (negsuc 0) e) (search poly depth 30) tt) hs

-- where each is on the left of the way to the other, they are in a row
pub row_of_two : (c n m : Point) → pos 0 ≼ cross c n m → pos 0 ≼ cross c m n → cross n c m ≡ pos 0
row_of_two c n m h k = turn_on n c m ∙ flat (cross c m n) (cross c n m) (turn_swap c m n) k h

before_clash : {X : Type 0} (p q : Point) → T (before p q) → T (before q p) → X
before_clash p q s t = absurd (before_not_equal p p (before_trans p q p s t) refl)

module _ (c n m n' m' : Point) (n_turn : pos 0 ≺ cross c n n') (m_turn : pos 0 ≺ cross c m m') (n_left : pos 0 ≼ cross c n m)
    (m_left : pos 0 ≼ cross c m n)
    (n_after : pos 0 ≼ cross n n' m) (m_after : pos 0 ≼ cross m m' n) (not : Mid n c m → cross n c m ≡ pos 0 → ⊥) where
  in_row_n : cross c n m ≡ pos 0
  in_row_n = flat (cross c n m) (cross c m n) (turn_swap c n m) n_left m_left

  in_row_m : cross c m n ≡ pos 0
  in_row_m = flat (cross c m n) (cross c n m) (turn_swap c m n) m_left n_left

  pub same_next : n ≡ m
  same_next = go (arranged c n m)
    where
      go : Arranged c n m → n ≡ m
      go (first_two e) = no_turn c n n' n_turn e
      go (outer_two e) = no_turn c m m' m_turn e
      go (last_two e) = e
      go (first_mid d) = absurd (not d (turn_on n c m ∙ in_row_m))
      go (second_mid d) = beyond c n m n' (balance c n m d in_row_n) n_turn n_after
      go (third_mid d) = beyond c m n m' (balance c m n d in_row_m) m_turn m_after

-- ---- all the way round

next : List Point → Point → Point
next [] a = a
next (q ∷ l) a = q

after : List Point → Point → Point → Point
after [] a b = b
after (q ∷ l) a b = next l a

module _ (o c a b : Point) where
  turn_here : (l : List Point) → LeftTurns (o ∷ c ∷ (l ++ (a ∷ b ∷ []))) → pos 0 ≺ cross o c (next l a)
  unfolding next
  turn_here [] t = t.0
  turn_here (q ∷ l) t = t.0

  turn_next : (l : List Point) → LeftTurns (o ∷ c ∷ (l ++ (a ∷ b ∷ []))) → pos 0 ≺ cross c (next l a) (after l a b)
  unfolding next after
  turn_next [] t = t.1.0
  turn_next (q ∷ []) t = t.1.0
  turn_next (q ∷ r ∷ l) t = t.1.0

  left_here : (l : List Point) (p : Point) → OnLeft (o ∷ c ∷ (l ++ (a ∷ b ∷ []))) p → pos 0 ≼ cross c (next l a) p
  unfolding next
  left_here [] p t = t.1.0
  left_here (q ∷ l) p t = t.1.0

  left_next : (l : List Point) (p : Point) → OnLeft (o ∷ c ∷ (l ++ (a ∷ b ∷ []))) p → pos 0 ≼ cross (next l a) (after l a b) p
  unfolding next after
  left_next [] p t = t.1.1.0
  left_next (q ∷ []) p t = t.1.1.0
  left_next (q ∷ r ∷ l) p t = t.1.1.0

record Way (P : List Point) (a b o c : Point) (l : List Point) : Type 0 where
  turns : LeftTurns (o ∷ c ∷ (l ++ (a ∷ b ∷ [])))
  beside : (p : Point) → In p P → OnLeft (o ∷ c ∷ (l ++ (a ∷ b ∷ []))) p
  members : (p : Point) → In p l → In p P
  not_yet : In a l → ⊥

further : {P : List Point} {a b o c q : Point} {l : List Point} → Way P a b o c (q ∷ l) → Way P a b c q l
further w = record {
  turns = w.turns.1;
  beside = λ p i. (w.beside p i).1;
  members = λ p i. w.members p (Memᴰ.tail i);
  not_yet = λ i. w.not_yet (Memᴰ.tail i);
}

module _ {P : List Point} (a b : Point) (a_in : In a P) where
  next_in : (l : List Point) → ((p : Point) → In p l → In p P) → In (next l a) P
  unfolding next
  next_in [] f = a_in
  next_in (q ∷ l) f = f q (Memᴰ.head refl)

  same_step : (o c : Point) (l m : List Point) → Way P a b o c l → Way P a b o c m → next l a ≡ next m a
  same_step o c l m v w = same_next c (next l a) (next m a) (after l a b) (after m a b)
      (turn_next o c a b l v.turns) (turn_next o c a b m w.turns)
      (left_here o c a b l (next m a) (v.beside (next m a) m_in)) (left_here o c a b m (next l a) (w.beside (next l a) l_in))
      (left_next o c a b l (next m a) (v.beside (next m a) m_in)) (left_next o c a b m (next l a) (w.beside (next l a) l_in))
      (λ d e. turned_back (next l a) c (next m a) o (balance (next l a) c (next m a) d e) (turn_here o c a b l v.turns)
      (≤_of_< (turn_here o c a b m w.turns)))
    where
      l_in : In (next l a) P
      l_in = next_in l v.members

      m_in : In (next m a) P
      m_in = next_in m w.members

  same_rest : (o c : Point) (l m : List Point) → Way P a b o c l → Way P a b o c m → l ≡ m
  unfolding next
  same_rest o c [] [] v w = refl
  same_rest o c [] (r ∷ m) v w = absurd (w.not_yet (Memᴰ.head (same_step o c [] (r ∷ m) v w)))
  same_rest o c (q ∷ l) [] v w = absurd (v.not_yet (Memᴰ.head (sym (same_step o c (q ∷ l) [] v w))))
  same_rest o c (q ∷ l) (r ∷ m) v w = ap {B = List Point} (λ x. x ∷ l) same ∙ ap {B = List Point} (λ k. r ∷ k)
      (same_rest c r l m (subst (λ (x : Point). Way P a b c x l) same (further v)) (further w))
    where
      same : q ≡ r
      same = same_step o c (q ∷ l) (r ∷ m) v w

-- ---- polygons

pub least_same : (a b : Point) → UpTo a b → UpTo b a → a ≡ b
least_same a b (inl e) k = e
least_same a b (inr s) (inl e) = sym e
least_same a b (inr s) (inr t) = before_clash a b s t

strictly : {a p : Point} → (a ≡ p → ⊥) → UpTo a p → T (before a p)
strictly n (inl e) = absurd (n e)
strictly n (inr t) = t

module _ {P : List Point} (a b : Point) (R S : List Point) (b' : Point) (g : Polygon P a b R) (h : Polygon P a b' S)
    (g_in : (p : Point) → In p (a ∷ b ∷ R) → In p P) (h_in : (p : Point) → In p (a ∷ b' ∷ S) → In p P) where
  second_in : In b P
  second_in = g_in b (Memᴰ.tail (Memᴰ.head refl))

  second_in' : In b' P
  second_in' = h_in b' (Memᴰ.tail (Memᴰ.head refl))

  after_first : T (before a b)
  after_first = strictly (λ e. g.once (Memᴰ.head e)) (g.least b second_in)

  after_first' : T (before a b')
  after_first' = strictly (λ e. h.once (Memᴰ.head e)) (h.least b' second_in')

  not_between : Mid b a b' → ⊥
  not_between (rising s t) = before_clash a b after_first s
  not_between (falling s t) = before_clash a b' after_first' s

  same_second : b ≡ b'
  same_second = same_next a b b' (next R a) (next S a) (turn_here a b a b R g.turns) (turn_here a b' a b' S h.turns)
      (g.beside b' second_in').0 (h.beside b second_in).0
      (left_here a b a b R b' (g.beside b' second_in')) (left_here a b' a b' S b (h.beside b second_in)) (λ d e. not_between d)

way : {P : List Point} (a b : Point) (R : List Point) → Polygon P a b R → ((p : Point) → In p (a ∷ b ∷ R) → In p P) → Way P a b a b R
way a b R g f = record {
  turns = g.turns;
  beside = g.beside;
  members = λ p i. f p (Memᴰ.tail (Memᴰ.tail i));
  not_yet = λ i. g.once (Memᴰ.tail i);
}

polygon_same : {P : List Point} (a b a' b' : Point) (R S : List Point) → Polygon P a b R → Polygon P a' b' S
    → ((p : Point) → In p (a ∷ b ∷ R) → In p P)
    → ((p : Point) → In p (a' ∷ b' ∷ S) → In p P) → (a ∷ b ∷ R) ≡ (a' ∷ b' ∷ S)
polygon_same {P} a b a' b' R S g h f k = ap {B = List Point} (λ x. x ∷ b ∷ R) first ∙ ap {B = List Point} (λ x. a' ∷ x ∷ R) second
    ∙ ap {B = List Point} (λ l. a' ∷ b' ∷ l) (same_rest a' b' (k a' (Memᴰ.head refl)) a' b' R S
    (way a' b' R (subst (λ (x : Point). Polygon P a' x R) second g') (subst (λ (x : Point). (p : Point) → In p (a' ∷ x ∷ R) → In p P) second f'))
    (way a' b' S h k))
  where
    first : a ≡ a'
    first = least_same a a' (g.least a' (k a' (Memᴰ.head refl))) (h.least a (f a (Memᴰ.head refl)))

    g' : Polygon P a' b R
    g' = subst (λ (x : Point). Polygon P x b R) first g

    f' : (p : Point) → In p (a' ∷ b ∷ R) → In p P
    f' = subst (λ (x : Point). (p : Point) → In p (x ∷ b ∷ R) → In p P) first f

    second : b ≡ b'
    second = same_second a' b R S b' g' h f' k

-- ---- hulls of different sizes

two-points : (P : List Point) (a b : Point) (l : List Point) → Corners P (a ∷ b ∷ l) → a ≡ b → ⊥
two-points P a b [] r e = before_not_equal a b r.ends e
two-points P a b (c ∷ l) g e = g.once (Memᴰ.head e)

one_point : {P : List Point} (o a b : Point) (l : List Point) → IsHull P (o ∷ []) → IsHull P (a ∷ b ∷ l) → ⊥
one_point {P} o a b l h k = two-points P a b l k.corners
    (h.corners a (k.members a (Memᴰ.head refl)) ∙ sym (h.corners b (k.members b (Memᴰ.tail (Memᴰ.head refl)))))

row-or_polygon : {P : List Point} (o z a b c : Point) (l : List Point) → IsHull P (o ∷ z ∷ []) → IsHull P (a ∷ b ∷ c ∷ l) → ⊥
row-or_polygon o z a b c l h k = row-flat o z a b c (forward o z h.corners.ends) (row a (Memᴰ.head refl))
    (row b (Memᴰ.tail (Memᴰ.head refl)))
    (row c (Memᴰ.tail (Memᴰ.tail (Memᴰ.head refl)))) k.corners.turns.0
  where
    row : (p : Point) → In p (a ∷ b ∷ c ∷ l) → cross o z p ≡ pos 0
    row p i = h.corners.in_row p (k.members p i)

no_point : {P : List Point} (a : Point) (l : List Point) → IsHull P [] → IsHull P (a ∷ l) → ⊥
no_point a l h k = h.corners a (k.members a (Memᴰ.head refl))

row_same : {P : List Point} (a b a' b' : Point) → IsHull P (a ∷ b ∷ []) → IsHull P (a' ∷ b' ∷ []) → (a ∷ b ∷ []) ≡ (a' ∷ b' ∷ [])
row_same a b a' b' h k = ap {B = List Point} (λ x. x ∷ b ∷ []) (least_same a a' (h.corners.from a' (k.members a' (Memᴰ.head refl)))
    (k.corners.from a (h.members a (Memᴰ.head refl))))
    ∙ ap {B = List Point} (λ x. a' ∷ x ∷ []) (least_same b b' (k.corners.to b (h.members b (Memᴰ.tail (Memᴰ.head refl))))
    (h.corners.to b' (k.members b' (Memᴰ.tail (Memᴰ.head refl)))))

pub hull_unique : {P : List Point} (H K : List Point) → IsHull P H → IsHull P K → H ≡ K
hull_unique [] [] h k = refl
hull_unique [] (a ∷ K) h k = absurd (no_point a K h k)
hull_unique (a ∷ H) [] h k = absurd (no_point a H k h)
hull_unique (a ∷ []) (a' ∷ []) h k = ap {B = List Point} (λ x. x ∷ []) (k.corners a (h.members a (Memᴰ.head refl)))
hull_unique (a ∷ []) (a' ∷ b' ∷ K) h k = absurd (one_point a a' b' K h k)
hull_unique (a ∷ b ∷ H) (a' ∷ []) h k = absurd (one_point a' a b H k h)
hull_unique (a ∷ b ∷ []) (a' ∷ b' ∷ []) h k = row_same a b a' b' h k
hull_unique (a ∷ b ∷ []) (a' ∷ b' ∷ c' ∷ K) h k = absurd (row-or_polygon a b a' b' c' K h k)
hull_unique (a ∷ b ∷ c ∷ H) (a' ∷ b' ∷ []) h k = absurd (row-or_polygon a' b' a b c H k h)
hull_unique (a ∷ b ∷ c ∷ H) (a' ∷ b' ∷ c' ∷ K) h k = polygon_same a b a' b' (c ∷ H) (c' ∷ K) h.corners k.corners h.members
    k.members

-- ---- the hull depends on the points alone

corners_same : {P Q : List Point} → Same P Q → (H : List Point) → Corners P H → Corners Q H
corners_same s [] c = λ p i. c p (s.from p i)
corners_same s (a ∷ []) c = λ p i. c p (s.from p i)
corners_same s (a ∷ b ∷ []) c = record {
  ends = c.ends;
  in_row = λ p i. c.in_row p (s.from p i);
  from = λ p i. c.from p (s.from p i);
  to = λ p i. c.to p (s.from p i);
}
corners_same s (a ∷ b ∷ d ∷ l) c = record {
  least = λ p i. c.least p (s.from p i);
  once = c.once;
  turns = c.turns;
  beside = λ p i. c.beside p (s.from p i);
}

pub hull_same : {P Q H : List Point} → Same P Q → IsHull P H → IsHull Q H
hull_same {H} s h = record { members = λ p i. s.to p (h.members p i); corners = corners_same s H h.corners }
