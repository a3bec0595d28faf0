-- Two chains with the same ends, joined, go round a polygon or are a row.
--
--   Side y c w         == y and w both come before c, or both after it
--   strict             : a corner where the chains meet turns strictly left, unless all points are in a row
--   join_turns, join_left : left turns and left sides of a path and of another that goes on where it ends
--   without_last       : a list is itself without its last point, and that point
--   Chains P a z l u   == a ∷ l and z ∷ u are chains from a to z and back, with every point of P on their left
--   joined             : they make the hull of P
use mathlib.Core.Path.{◌≡◌, refl, sym, ◌∙◌, ap, subst}
use mathlib.Core.Logic.{◌⊎◌, inl, inr}
use mathlib.Core.List.Memᴰ
use mathlib.Core.List.{List, [], ◌∷◌, ◌++◌, append_assoc}
use lib.Dec.{T}
use lib.IntN.{ℤ, pos, negsuc, neg_ℤ, ◌+ℤ◌, ◌-ℤ◌, ◌*ℤ◌}
use Rattle.integers.specs.Order.{◌≼◌, ◌≺◌}
use Rattle.integers.proofs.Ring.{ring, poly, linear, eqn, ◌&◌}
use Rattle.integers.proofs.Order.{≤_antisym, ≤_of_<, ≤-or-<, nonneg, clash, le, lt, eq, ◌⊞◌, ◌⊠◌}
use Rattle.geometry.specs.declared.Point.{Point}
use Rattle.geometry.specs.Order.{before}
use Rattle.point_lists.specs.Sets.{In}
use Rattle.point_lists.proofs.Order.{before_not_equal}
use Rattle.hull.specs.Hull.{cross, LeftTurns, OnLeft, UpTo, Polygon, Row, IsHull}
use Rattle.hull.specs.Chains.{but_last}
use Rattle.hull.proofs.Turns.{forward, parallel, row-flat}
use Rattle.hull.proofs.Pushed.{Sorted, last, last_in}
use Rattle.hull.proofs.Directions.{Rises, Falls}

-- ---- where two chains meet

pub data Side (y c w : Point) : Type 0 where
  both_before : T (before y c) → T (before w c) → Side y c w
  both_after : T (before c y) → T (before c w) → Side y c w

record SameWay (y c w : Point) : Type 0 where
  k : ℤ
  l : ℤ
  k_some : pos 0 ≺ k
  l_some : pos 0 ≺ l
  x_is : k *ℤ (w.x -ℤ c.x) ≡ l *ℤ (y.x -ℤ c.x)
  y_is : k *ℤ (w.y -ℤ c.y) ≡ l *ℤ (y.y -ℤ c.y)

turn_before : (y c w : Point) → (c.x -ℤ y.x) *ℤ (c.y -ℤ w.y) -ℤ (c.y -ℤ y.y) *ℤ (c.x -ℤ w.x) ≡ neg_ℤ (cross y c w)
turn_before y c w = ring (y.x ∷ y.y ∷ c.x ∷ c.y ∷ w.x ∷ w.y ∷ []) (search poly depth 30) tt

turn_after : (y c w : Point) → (y.x -ℤ c.x) *ℤ (w.y -ℤ c.y) -ℤ (y.y -ℤ c.y) *ℤ (w.x -ℤ c.x) ≡ neg_ℤ (cross y c w)
turn_after y c w = ring (y.x ∷ y.y ∷ c.x ∷ c.y ∷ w.x ∷ w.y ∷ []) (search poly depth 30) tt

same_way : (y c w : Point) → Side y c w → cross y c w ≡ pos 0 → SameWay y c w
same_way y c w (both_before s t) e = let r = parallel (c.x -ℤ y.x) (c.y -ℤ y.y) (c.x -ℤ w.x) (c.y -ℤ w.y) (forward y c s) (forward w c t)
    (turn_before y c w ∙ ap neg_ℤ e) in
    record {
      k = r.k;
      l = r.l;
      k_some = r.k_some;
      l_some = r.l_some;
      x_is = turned r.k r.l y.x c.x w.x r.x_is;
      y_is = turned r.k r.l y.y c.y w.y r.y_is;
    }
  where
    turned : (k l y c w : ℤ) → k *ℤ (c -ℤ w) ≡ l *ℤ (c -ℤ y) → k *ℤ (w -ℤ c) ≡ l *ℤ (y -ℤ c)
    turned k l y c w e = linear (k ∷ l ∷ y ∷ c ∷ w ∷ []) (eqn (negsuc 0) e) (search poly depth 30) tt
same_way y c w (both_after s t) e = let r = parallel (y.x -ℤ c.x) (y.y -ℤ c.y) (w.x -ℤ c.x) (w.y -ℤ c.y) (forward c y s) (forward c w t)
    (turn_after y c w ∙ ap neg_ℤ e) in
    record { k = r.k; l = r.l; k_some = r.k_some; l_some = r.l_some; x_is = r.x_is; y_is = r.y_is }

none_left : (k l s t : ℤ) → k *ℤ s +ℤ l *ℤ t ≡ pos 0 → pos 0 ≺ k → pos 0 ≺ l → pos 0 ≼ s → pos 0 ≼ t → t ≡ pos 0
none_left k l s t e hk hl hs ht = go (≤-or-< t (pos 0))
  where
    go : (t ≼ pos 0) ⊎ (pos 0 ≺ t) → t ≡ pos 0
    go (inl h) = ≤_antisym h ht
    go (inr h) = clash (k ∷ l ∷ s ∷ t ∷ []) (le (≤_of_< hk) ⊠ hs ⊞ lt hl ⊠ lt h ⊞ lt hl ⊞ lt h ⊞ eq (negsuc 0) e) (search poly depth 30) tt

-- both ways lead along the same row, and p is on the left of the one and of the other
in_row : (y c w p : Point) → SameWay y c w → pos 0 ≼ cross y c p → pos 0 ≼ cross c w p → cross y c p ≡ pos 0
in_row y c w p r h f = none_left r.k r.l (cross c w p) (cross y c p)
    (linear (r.k ∷ r.l ∷ y.x ∷ y.y ∷ c.x ∷ c.y ∷ w.x ∷ w.y ∷ p.x ∷ p.y ∷ [])
    (eqn (p.y -ℤ c.y) r.x_is & eqn (neg_ℤ (p.x -ℤ c.x)) r.y_is) (search poly depth 30) tt) r.k_some r.l_some f h

not_flat : {X : Type 0} (y c w : Point) → Side y c w → (p q r : Point) → cross y c p ≡ pos 0 → cross y c q ≡ pos 0 → cross y c r ≡ pos 0
    → pos 0 ≺ cross p q r → X
not_flat y c w (both_before s t) p q r hp hq hr h = row-flat y c p q r (forward y c s) hp hq hr h
not_flat y c w (both_after s t) p q r hp hq hr h = row-flat c y p q r (forward c y s) (other p hp) (other q hq) (other r hr) h
  where
    other : (p : Point) → cross y c p ≡ pos 0 → cross c y p ≡ pos 0
    other p e = back ∙ ap neg_ℤ e
      where
        back : cross c y p ≡ neg_ℤ (cross y c p)
        back = ring (y.x ∷ y.y ∷ c.x ∷ c.y ∷ p.x ∷ p.y ∷ []) (search poly depth 30) tt

-- three points of P that make a turn: P is not all in a row
pub record Turning (P : List Point) : Type 0 where
  pub p : Point
  pub q : Point
  pub r : Point
  pub p_in : In p P
  pub q_in : In q P
  pub r_in : In r P
  pub turn : pos 0 ≺ cross p q r

pub strict : {P : List Point} → Turning P → (y c w : Point) → In w P → Side y c w → ((p : Point) → In p P → pos 0 ≼ cross y c p)
    → ((p : Point) → In p P → pos 0 ≼ cross c w p) → pos 0 ≺ cross y c w
strict {P} t y c w i s f g = go (≤-or-< (cross y c w) (pos 0))
  where
    go : (cross y c w ≼ pos 0) ⊎ (pos 0 ≺ cross y c w) → pos 0 ≺ cross y c w
    go (inr h) = h
    go (inl h) = not_flat y c w s t.p t.q t.r (row t.p t.p_in) (row t.q t.q_in) (row t.r t.r_in) t.turn
      where
        row : (p : Point) → In p P → cross y c p ≡ pos 0
        row p j = in_row y c w p (same_way y c w s (≤_antisym h (f w i))) (f p j) (g p j)

-- ---- paths, one after the other

module _ (P : List Point) (Less : Point → Point → Type 0) where
  pub join_turns : (p q : Point) (l : List Point) (w : Point) (m : List Point) → LeftTurns (p ∷ q ∷ l) → LeftTurns (last q l ∷ w ∷ m)
      → Sorted Less (p ∷ q ∷ l) → ((x : Point) → In x P → OnLeft (p ∷ q ∷ l) x)
      → ((y : Point) → Less y (last q l) → ((x : Point) → In x P → pos 0 ≼ cross y (last q l) x) → pos 0 ≺ cross y (last q l) w)
      → LeftTurns (p ∷ q ∷ (l ++ (w ∷ m)))
  join_turns p q [] w m t u s f g = (g p (s.0 q (Memᴰ.head refl)) (λ x i. (f x i).0), u)
  join_turns p q (r ∷ l) w m t u s f g = (t.0, join_turns q r l w m t.1 u s.1 (λ x i. (f x i).1) g)

pub join_left : (p : Point) (l m : List Point) (x : Point) → OnLeft (p ∷ l) x → OnLeft (last p l ∷ m) x → OnLeft (p ∷ (l ++ m)) x
join_left p [] m x f g = g
join_left p (q ∷ l) m x f g = (f.0, join_left q l m x f.1 g)

pub without_last : (u : Point) (l m : List Point) → but_last (u ∷ l) ++ (last u l ∷ m) ≡ u ∷ (l ++ m)
unfolding but_last
without_last u [] m = refl
without_last u (v ∷ l) m = ap {B = List Point} (λ k. u ∷ k) (without_last v l m)

pub but_last_in : (u : Point) (l : List Point) (x : Point) → In x (but_last (u ∷ l)) → In x (u ∷ l)
unfolding but_last
but_last_in u [] x i = absurd (Memᴰ.not-nil i)
but_last_in u (v ∷ l) x i = go (λ j. but_last_in v l x j) (Memᴰ.cases_cons i)
  where
    go : (In x (but_last (v ∷ l)) → In x (v ∷ l)) → (x ≡ u) ⊎ In x (but_last (v ∷ l)) → In x (u ∷ v ∷ l)
    go f (inl e) = Memᴰ.head e
    go f (inr j) = Memᴰ.tail (f j)

pub but_last_less : (Less : Point → Point → Type 0) (u : Point) (l : List Point) → Sorted Less (u ∷ l) → (x : Point) → In x (but_last (u ∷ l))
    → Less x (last u l)
unfolding but_last
but_last_less Less u [] s x i = absurd (Memᴰ.not-nil i)
but_last_less Less u (v ∷ l) s x i = go (λ j. but_last_less Less v l s.1 x j) (Memᴰ.cases_cons i)
  where
    go : (In x (but_last (v ∷ l)) → Less x (last v l)) → (x ≡ u) ⊎ In x (but_last (v ∷ l)) → Less x (last v l)
    go f (inl e) = subst (λ (y : Point). Less y (last v l)) (sym e) (s.0 (last v l) (last_in v l))
    go f (inr j) = f j

-- ---- the hull

pub record Chains (P : List Point) (a z : Point) (l u : List Point) : Type 0 where
  pub members : (p : Point) → In p (a ∷ l) → In p P
  pub members_back : (p : Point) → In p (z ∷ u) → In p P
  pub rises : Sorted Rises (a ∷ l)
  pub falls : Sorted Falls (z ∷ u)
  pub turns : LeftTurns (a ∷ l)
  pub turns_back : LeftTurns (z ∷ u)
  pub left : (p : Point) → In p P → OnLeft (a ∷ l) p
  pub left_back : (p : Point) → In p P → OnLeft (z ∷ u) p
  pub end : last a l ≡ z
  pub end_back : last z u ≡ a
  pub least : (p : Point) → In p P → UpTo a p
  pub greatest : (p : Point) → In p P → UpTo p z

module _ {P : List Point} (a z b v : Point) (l u : List Point) (c : Chains P a z (b ∷ l) (v ∷ u)) where
  b_in : In b P
  b_in = c.members b (Memᴰ.tail (Memᴰ.head refl))

  v_in : In v P
  v_in = c.members_back v (Memᴰ.tail (Memᴰ.head refl))

  ab : T (before a b)
  ab = c.rises.0 b (Memᴰ.head refl)

  vz : T (before v z)
  vz = c.falls.0 v (Memᴰ.head refl)

  abbrev H : List Point
  H = l ++ but_last (v ∷ u)

  way_round : H ++ (a ∷ b ∷ []) ≡ l ++ (v ∷ (u ++ (b ∷ [])))
  way_round = append_assoc l (but_last (v ∷ u)) (a ∷ b ∷ []) ∙ ap {B = List Point} (λ k. l ++ k)
      (ap {B = List Point} (λ x. but_last (v ∷ u) ++ (x ∷ b ∷ [])) (sym c.end_back) ∙ without_last v u (b ∷ []))

  back_turns : Turning P → LeftTurns (z ∷ v ∷ (u ++ (b ∷ [])))
  back_turns t = join_turns P Falls z v u b [] c.turns_back tt c.falls c.left_back turn
    where
      turn : (y : Point) → Falls y (last v u) → ((x : Point) → In x P → pos 0 ≼ cross y (last v u) x) → pos 0 ≺ cross y (last v u) b
      turn = subst (λ (e : Point). (y : Point) → Falls y e → ((x : Point) → In x P → pos 0 ≼ cross y e x) → pos 0 ≺ cross y e b) (sym c.end_back)
          (λ y s f. strict t y a b b_in (both_after s ab) f (λ x i. (c.left x i).0))

  all_turns : Turning P → LeftTurns (a ∷ b ∷ (l ++ (v ∷ (u ++ (b ∷ [])))))
  all_turns t = join_turns P Rises a b l v (u ++ (b ∷ [])) c.turns
      (subst (λ (e : Point). LeftTurns (e ∷ v ∷ (u ++ (b ∷ [])))) (sym c.end) (back_turns t))
      c.rises c.left turn
    where
      turn : (y : Point) → Rises y (last b l) → ((x : Point) → In x P → pos 0 ≼ cross y (last b l) x) → pos 0 ≺ cross y (last b l) v
      turn = subst (λ (e : Point). (y : Point) → Rises y e → ((x : Point) → In x P → pos 0 ≼ cross y e x) → pos 0 ≺ cross y e v) (sym c.end)
          (λ y s f. strict t y z v v_in (both_before s vz) f (λ x i. (c.left_back x i).0))

  all_left : (p : Point) → In p P → OnLeft (a ∷ b ∷ (l ++ (v ∷ (u ++ (b ∷ []))))) p
  all_left p i = join_left a (b ∷ l) (v ∷ (u ++ (b ∷ []))) p (c.left p i)
      (subst (λ (e : Point). OnLeft (e ∷ v ∷ (u ++ (b ∷ []))) p) (sym c.end) (join_left z (v ∷ u) (b ∷ []) p (c.left_back p i)
      (subst (λ (e : Point). OnLeft (e ∷ b ∷ []) p) (sym c.end_back) ((c.left p i).0, tt))))

  only_once : In a (b ∷ H) → ⊥
  only_once i = go (Memᴰ.append_cases (b ∷ l) i)
    where
      go : In a (b ∷ l) ⊎ In a (but_last (v ∷ u)) → ⊥
      go (inl j) = before_not_equal a a (c.rises.0 a j) refl
      go (inr j) = before_not_equal a a (subst (λ (e : Point). Falls a e) c.end_back (but_last_less Falls v u c.falls.1 a j)) refl

  polygon : Turning P → Polygon P a b H
  polygon t = record {
    least = c.least;
    once = only_once;
    turns = subst (λ (k : List Point). LeftTurns (a ∷ b ∷ k)) (sym way_round) (all_turns t);
    beside = λ p i. subst (λ (k : List Point). OnLeft (a ∷ b ∷ k) p) (sym way_round) (all_left p i);
  }

  all_members : (p : Point) → In p (a ∷ b ∷ H) → In p P
  all_members p i = go (Memᴰ.append_cases (a ∷ b ∷ l) i)
    where
      go : In p (a ∷ b ∷ l) ⊎ In p (but_last (v ∷ u)) → In p P
      go (inl j) = c.members p j
      go (inr j) = c.members_back p (Memᴰ.tail (but_last_in v u p j))

two_sides : (s t : ℤ) → t ≡ neg_ℤ s → pos 0 ≼ s → pos 0 ≼ t → s ≡ pos 0
two_sides s t e hs ht = ≤_antisym (nonneg (s ∷ t ∷ []) (ht ⊞ eq (negsuc 0) e) (search poly depth 30) tt) hs

row : {P : List Point} (a z b v : Point) → Chains P a z (b ∷ []) (v ∷ []) → Row P a b
row {P} a z b v c = record {
  ends = c.rises.0 b (Memᴰ.head refl);
  in_row = λ p i. two_sides (cross a b p) (cross z v p) (back p) (c.left p i).0 (c.left_back p i).0;
  from = c.least;
  to = λ p i. subst (λ (e : Point). UpTo p e) (sym c.end) (c.greatest p i);
}
  where
    back : (p : Point) → cross z v p ≡ neg_ℤ (cross a b p)
    back p = ap (λ (e : Point). cross e v p) (sym c.end) ∙ ap (λ (e : Point). cross b e p) c.end_back ∙ turned
      where
        turned : cross b a p ≡ neg_ℤ (cross a b p)
        turned = ring (a.x ∷ a.y ∷ b.x ∷ b.y ∷ p.x ∷ p.y ∷ []) (search poly depth 30) tt

pub joined : {P : List Point} (a z : Point) (l u : List Point) → T (before a z) → Chains P a z l u → IsHull P (a ∷ (l ++ but_last u))
unfolding but_last
joined a z [] u h c = absurd (before_not_equal a z h c.end)
joined a z (b ∷ l) [] h c = absurd (before_not_equal a z h (sym c.end_back))
joined a z (b ∷ []) (v ∷ []) h c = record { members = all_members a z b v [] [] c; corners = row a z b v c }
joined a z (b ∷ []) (v ∷ w ∷ u) h c = record {
  members = all_members a z b v [] (w ∷ u) c;
  corners = polygon a z b v [] (w ∷ u) c (record {
    p = z;
    q = v;
    r = w;
    p_in = c.members_back z (Memᴰ.head refl);
    q_in = c.members_back v (Memᴰ.tail (Memᴰ.head refl));
    r_in = c.members_back w (Memᴰ.tail (Memᴰ.tail (Memᴰ.head refl)));
    turn = c.turns_back.0;
  });
}
joined a z (b ∷ d ∷ l) (v ∷ u) h c = record {
  members = all_members a z b v (d ∷ l) u c;
  corners = polygon a z b v (d ∷ l) u c (record {
    p = a;
    q = b;
    r = d;
    p_in = c.members a (Memᴰ.head refl);
    q_in = c.members b (Memᴰ.tail (Memᴰ.head refl));
    r_in = c.members d (Memᴰ.tail (Memᴰ.tail (Memᴰ.head refl)));
    turn = c.turns.0;
  });
}
