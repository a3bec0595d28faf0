-- A corner of the hull is no mean of other points of the list.
--
--   positive_mean  : what is positive at points is positive at their means: u·x + v·y + w
--   Between, between : at a corner of a polygon, the corners before and behind it
--   at_first, at_last : the ends of a row
--   extreme        : no corner is a mean of other points
--   not_in_row     : no three corners are in a row
use mathlib.Core.Path.{◌≡◌, refl, sym, ◌∙◌, ap, subst}
use mathlib.Core.Logic.{◌⊎◌, inl, inr}
use mathlib.Core.List.{List, [], ◌∷◌, ◌++◌, append_assoc}
use mathlib.Core.List.Memᴰ
use lib.Dec.{T}
use lib.IntN.{ℤ, pos, negsuc, neg_ℤ, ◌+ℤ◌, ◌-ℤ◌, ◌*ℤ◌}
use Rattle.integers.specs.Order.{◌≼◌, ◌≺◌}
use Rattle.integers.proofs.Ring.{ring, poly, linear, eqn, ◌&◌}
use Rattle.integers.proofs.Order.{≤-or-<, ≤_of_<, ≤_antisym, ≡_cancel, nonneg, positive, clash, le, lt, eq, sq, nn, ◌⊞◌, ◌⊠◌}
use Rattle.geometry.specs.declared.Point.{Point}
use Rattle.geometry.specs.Order.{before}
use Rattle.point_lists.specs.Sets.{In}
use Rattle.point_lists.proofs.Sets.{point_path, none_of, also}
use Rattle.disks.proofs.Base.{positive_not_zero}
use Rattle.hull.specs.Hull.{cross, LeftTurns, OnLeft, UpTo, round, Polygon, Row, IsHull}
use Rattle.hull.specs.Means.{Mean}
use Rattle.hull.proofs.Turns.{Forward, right, up, forward, Parallel, parallel, turn_on, turn_swap, Mid, Balance, balance}
use Rattle.hull.proofs.Turns.{Arranged, first_two, last_two, outer_two, first_mid, second_mid, third_mid, arranged}
use Rattle.hull.proofs.Means.{mean_of_two}

-- ---- means

abbrev height : ℤ → ℤ → ℤ → Point → ℤ
height u v w q = u *ℤ q.x +ℤ v *ℤ q.y +ℤ w

weighed : (α β γ s t r h : ℤ) → pos 0 ≼ α → pos 0 ≼ β → pos 0 ≼ γ → pos 0 ≺ α +ℤ β +ℤ γ → pos 0 ≺ s → pos 0 ≺ t → pos 0 ≺ r
    → (α +ℤ β +ℤ γ) *ℤ h ≡ α *ℤ s +ℤ β *ℤ t +ℤ γ *ℤ r → pos 0 ≺ h
weighed α β γ s t r h hα hβ hγ k hs ht hr e = go (≤-or-< h (pos 0))
  where
    go : (h ≼ pos 0) ⊎ (pos 0 ≺ h) → pos 0 ≺ h
    go (inr g) = g
    go (inl g) = clash (α ∷ β ∷ γ ∷ s ∷ t ∷ r ∷ h ∷ [])
        (lt k ⊞ le (≤_of_< k) ⊠ le g ⊞ hα ⊠ lt hs ⊞ hβ ⊠ lt ht ⊞ hγ ⊠ lt hr ⊞ eq (pos 1) e) (search poly depth 40) tt

positive_mean : {K : List Point} {p : Point} (u v w : ℤ) → ((q : Point) → In q K → pos 0 ≺ height u v w q) → Mean K p → pos 0 ≺ height u v w p
positive_mean {K} {p} u v w f m =
    weighed m.α m.β m.γ (height u v w m.a) (height u v w m.b) (height u v w m.c) (height u v w p) m.α_some m.β_some m.γ_some
    m.weight (f m.a m.a_in) (f m.b m.b_in) (f m.c m.c_in)
    (linear (m.α ∷ m.β ∷ m.γ ∷ u ∷ v ∷ w ∷ m.a.x ∷ m.a.y ∷ m.b.x ∷ m.b.y ∷ m.c.x ∷ m.c.y ∷ p.x ∷ p.y ∷ [])
    (eqn u m.x_is & eqn v m.y_is) (search poly depth 40) tt)

-- K are points of P other than p
record Others (P K : List Point) (p : Point) : Type 0 where
  members : (q : Point) → In q K → In q P
  not_there : In p K → ⊥

other : {P K : List Point} {p : Point} → Others P K p → (q : Point) → In q K → q ≡ p → ⊥
other {K} o q i e = o.not_there (subst (λ (r : Point). In r K) e i)

-- ---- the corners of a polygon

record Between (P : List Point) (p : Point) : Type 0 where
  o : Point
  q : Point
  turn : pos 0 ≺ cross o p q
  to : (r : Point) → In r P → pos 0 ≼ cross o p r
  on : (r : Point) → In r P → pos 0 ≼ cross p q r

between : {P : List Point} (p o z : Point) (X : List Point) → LeftTurns (o ∷ (X ++ (z ∷ []))) → ((r : Point) → In r P → OnLeft (o ∷ (X ++ (z ∷ []))) r)
    → In p X → Between P p
between p o z [] t f i = absurd (Memᴰ.not-nil i)
between {P} p o z (c ∷ []) t f i = go (Memᴰ.cases_cons i)
  where
    go : (p ≡ c) ⊎ In p [] → Between P p
    go (inl e) = subst (Between P) (sym e) (record { o = o; q = z; turn = t.0; to = λ r j. (f r j).0; on = λ r j. (f r j).1.0 })
    go (inr j) = absurd (Memᴰ.not-nil j)
between {P} p o z (c ∷ d ∷ X) t f i = go (between p c z (d ∷ X) t.1 (λ r j. (f r j).1)) (Memᴰ.cases_cons i)
  where
    go : (In p (d ∷ X) → Between P p) → (p ≡ c) ⊎ In p (d ∷ X) → Between P p
    go g (inl e) = subst (Between P) (sym e) (record { o = o; q = d; turn = t.0; to = λ r j. (f r j).0; on = λ r j. (f r j).1.0 })
    go g (inr j) = g j

round_is : (a b : Point) (R : List Point) → round a b R ≡ a ∷ ((b ∷ (R ++ (a ∷ []))) ++ (b ∷ []))
round_is a b R = ap {B = List Point} (λ k. a ∷ b ∷ k) (sym (append_assoc R (a ∷ []) (b ∷ [])))

at_corner : {P : List Point} (a b : Point) (R : List Point) → Polygon P a b R → (p : Point) → In p (a ∷ b ∷ R) → Between P p
at_corner {P} a b R g p i =
    between p a b (b ∷ (R ++ (a ∷ []))) (subst LeftTurns (round_is a b R) g.turns)
    (λ r j. subst (λ (l : List Point). OnLeft l r) (round_is a b R) (g.beside r j))
    (go (Memᴰ.cases_cons i))
  where
    go : (p ≡ a) ⊎ In p (b ∷ R) → In p (b ∷ (R ++ (a ∷ [])))
    go (inl e) = Memᴰ.tail (Memᴰ.append_right R (Memᴰ.head e))
    go (inr j) = Memᴰ.append_left (a ∷ []) j

-- in a row with both ways, the one to p and the one on from it: p itself
only_there : (o p q r : Point) → pos 0 ≺ cross o p q → cross o p r ≡ pos 0 → cross p q r ≡ pos 0 → r ≡ p
only_there o p q r t e f = point_path
    (≡_cancel (positive_not_zero t) (linear (o.x ∷ o.y ∷ p.x ∷ p.y ∷ q.x ∷ q.y ∷ r.x ∷ r.y ∷ [])
    (eqn (q.x -ℤ p.x) e & eqn (neg_ℤ (p.x -ℤ o.x)) f) (search poly depth 40) tt))
    (≡_cancel (positive_not_zero t) (linear (o.x ∷ o.y ∷ p.x ∷ p.y ∷ q.x ∷ q.y ∷ r.x ∷ r.y ∷ [])
    (eqn (q.y -ℤ p.y) e & eqn (neg_ℤ (p.y -ℤ o.y)) f) (search poly depth 40) tt))

both_zero : (s t : ℤ) → pos 0 ≼ s → pos 0 ≼ t → s +ℤ t ≼ pos 0 → (s ≡ pos 0) × (t ≡ pos 0)
both_zero s t hs ht h = (
  ≤_antisym (nonneg (s ∷ t ∷ []) (le h ⊞ ht) (search poly depth 30) tt) hs,
  ≤_antisym (nonneg (s ∷ t ∷ []) (le h ⊞ hs) (search poly depth 30) tt) ht,
)

-- how far a point is beyond the two ways through p, together
module _ (o p q : Point) where
  abbrev u : ℤ
  u = neg_ℤ (p.y -ℤ o.y) +ℤ neg_ℤ (q.y -ℤ p.y)

  abbrev v : ℤ
  v = (p.x -ℤ o.x) +ℤ (q.x -ℤ p.x)

  abbrev w : ℤ
  w = neg_ℤ (u *ℤ p.x) -ℤ v *ℤ p.y

  sum_is : (r : Point) → cross o p r +ℤ cross p q r ≡ height u v w r
  sum_is r = ring (o.x ∷ o.y ∷ p.x ∷ p.y ∷ q.x ∷ q.y ∷ r.x ∷ r.y ∷ []) (search poly depth 40) tt

  here : height u v w p ≡ pos 0
  here = ring (o.x ∷ o.y ∷ p.x ∷ p.y ∷ q.x ∷ q.y ∷ []) (search poly depth 40) tt

none : {X : Type 0} {t : ℤ} → t ≡ pos 0 → pos 0 ≺ t → X
none {t = t} e h = clash (t ∷ []) (lt h ⊞ eq (negsuc 0) e) (search poly depth 30) tt

polygon_extreme : {P K : List Point} {p : Point} → Between P p → Others P K p → Mean K p → ⊥
polygon_extreme {P} {K} {p} b others m =
    none (here b.o p b.q) (positive_mean (u b.o p b.q) (v b.o p b.q) (w b.o p b.q) beyond m)
  where
    beyond : (r : Point) → In r K → pos 0 ≺ height (u b.o p b.q) (v b.o p b.q) (w b.o p b.q) r
    beyond r i = subst (λ (z : ℤ). pos 0 ≺ z) (sum_is b.o p b.q r) (go (≤-or-< (cross b.o p r +ℤ cross p b.q r) (pos 0)))
      where
        j : In r P
        j = others.members r i

        go : (cross b.o p r +ℤ cross p b.q r ≼ pos 0) ⊎ (pos 0 ≺ cross b.o p r +ℤ cross p b.q r)
            → pos 0 ≺ cross b.o p r +ℤ cross p b.q r
        go (inr h) = h
        go (inl h) =
            let z = both_zero (cross b.o p r) (cross p b.q r) (b.to r j) (b.on r j) h in
            absurd (other others r i (only_there b.o p b.q r b.turn z.0 z.1))

-- ---- the ends of a row

square_positive : (x y : ℤ) → Forward x y → pos 0 ≺ x *ℤ x +ℤ y *ℤ y
square_positive x y (right h) = positive (x ∷ y ∷ []) (lt h ⊠ lt h ⊞ nn 2 ⊠ lt h ⊞ sq y) (search poly depth 30) tt
square_positive x y (up e h) = positive (x ∷ y ∷ []) (lt h ⊠ lt h ⊞ nn 2 ⊠ lt h ⊞ sq x) (search poly depth 30) tt

-- forward vectors in a row point the same way
same_way : (ux uy vx vy : ℤ) → Forward ux uy → Forward vx vy → ux *ℤ vy -ℤ uy *ℤ vx ≡ pos 0 → pos 0 ≺ ux *ℤ vx +ℤ uy *ℤ vy
same_way ux uy vx vy f g e = go (parallel ux uy vx vy f g e) (≤-or-< (ux *ℤ vx +ℤ uy *ℤ vy) (pos 0))
  where
    go : Parallel ux uy vx vy → (ux *ℤ vx +ℤ uy *ℤ vy ≼ pos 0) ⊎ (pos 0 ≺ ux *ℤ vx +ℤ uy *ℤ vy) → pos 0 ≺ ux *ℤ vx +ℤ uy *ℤ vy
    go r (inr h) = h
    go r (inl h) = clash (r.k ∷ r.l ∷ ux ∷ uy ∷ vx ∷ vy ∷ [])
        (le (≤_of_< r.k_some) ⊠ le h ⊞ lt r.l_some ⊠ lt (square_positive ux uy f) ⊞ lt r.l_some ⊞ lt (square_positive ux uy f)
        ⊞ eq ux r.x_is ⊞ eq uy r.y_is) (search poly depth 40) tt

module _ {P : List Point} (a b : Point) (row : Row P a b) where
  abbrev dx : ℤ
  dx = b.x -ℤ a.x

  abbrev dy : ℤ
  dy = b.y -ℤ a.y

  along : Forward dx dy
  along = forward a b row.ends

  at_first : {K : List Point} → Others P K a → Mean K a → ⊥
  at_first {K} others m =
      none (ring (a.x ∷ a.y ∷ b.x ∷ b.y ∷ []) (search poly depth 30) tt) (positive_mean dx dy (neg_ℤ (dx *ℤ a.x) -ℤ dy *ℤ a.y) beyond m)
    where
      later : (r : Point) → In r K → UpTo a r → T (before a r)
      later r i (inl e) = absurd (other others r i (sym e))
      later r i (inr t) = t

      beyond : (r : Point) → In r K → pos 0 ≺ height dx dy (neg_ℤ (dx *ℤ a.x) -ℤ dy *ℤ a.y) r
      beyond r i =
          let j = others.members r i in
          subst (λ (z : ℤ). pos 0 ≺ z) (ring (a.x ∷ a.y ∷ b.x ∷ b.y ∷ r.x ∷ r.y ∷ []) (search poly depth 30) tt)
          (same_way dx dy (r.x -ℤ a.x) (r.y -ℤ a.y) along (forward a r (later r i (row.from r j))) (row.in_row r j))

  at_last : {K : List Point} → Others P K b → Mean K b → ⊥
  at_last {K} others m =
      none (ring (a.x ∷ a.y ∷ b.x ∷ b.y ∷ []) (search poly depth 30) tt) (positive_mean (neg_ℤ dx) (neg_ℤ dy) (dx *ℤ b.x +ℤ dy *ℤ b.y) beyond m)
    where
      earlier : (r : Point) → In r K → UpTo r b → T (before r b)
      earlier r i (inl e) = absurd (other others r i e)
      earlier r i (inr t) = t

      turned : (r : Point) → cross a b r ≡ pos 0 → dx *ℤ (b.y -ℤ r.y) -ℤ dy *ℤ (b.x -ℤ r.x) ≡ pos 0
      turned r e = linear (a.x ∷ a.y ∷ b.x ∷ b.y ∷ r.x ∷ r.y ∷ []) (eqn (negsuc 0) e) (search poly depth 30) tt

      beyond : (r : Point) → In r K → pos 0 ≺ height (neg_ℤ dx) (neg_ℤ dy) (dx *ℤ b.x +ℤ dy *ℤ b.y) r
      beyond r i =
          let j = others.members r i in
          subst (λ (z : ℤ). pos 0 ≺ z) (ring (a.x ∷ a.y ∷ b.x ∷ b.y ∷ r.x ∷ r.y ∷ []) (search poly depth 30) tt)
          (same_way dx dy (b.x -ℤ r.x) (b.y -ℤ r.y) along (forward r b (earlier r i (row.to r j))) (turned r (row.in_row r j)))

-- ---- all corners

by_size : {P : List Point} (H : List Point) → IsHull P H → (p : Point) → In p H → (K : List Point) → Others P K p → Mean K p → ⊥
by_size [] h p i K others m = Memᴰ.not-nil i
by_size (a ∷ []) h p i K others m =
    other others m.a m.a_in (h.corners m.a (others.members m.a m.a_in) ∙ sym (h.corners p (h.members p i)))
by_size {P} (a ∷ b ∷ []) h p i K others m = go (Memᴰ.cases_cons i)
  where
    end : (q : Point) → (Others P K q → Mean K q → ⊥) → p ≡ q → ⊥
    end q f e = f (subst (Others P K) e others) (subst (Mean K) e m)

    go : (p ≡ a) ⊎ In p (b ∷ []) → ⊥
    go (inl e) = end a (at_first a b h.corners) e
    go (inr j) = also (λ q. p ≡ q → ⊥) (end b (at_last a b h.corners)) (none_of (λ q. p ≡ q → ⊥)) p j refl
by_size (a ∷ b ∷ c ∷ l) h p i K others m = polygon_extreme (at_corner a b (c ∷ l) h.corners p i) others m

pub extreme : {P : List Point} (H : List Point) → IsHull P H → (p : Point) → In p H
    → (K : List Point) → ((q : Point) → In q K → In q P) → (In p K → ⊥) → Mean K p → ⊥
extreme H h p i K f n m = by_size H h p i K (record { members = f; not_there = n }) m

-- ---- no three corners in a row

-- of three points in a row the middle one is a mean of the others
middle_mean : (x y z : Point) → Balance x y z → Mean (x ∷ z ∷ []) y
middle_mean x y z b = mean_of_two x z y b.l b.k (Memᴰ.head refl) (Memᴰ.tail (Memᴰ.head refl)) (≤_of_< b.l_some)
    (≤_of_< b.k_some)
    (positive (b.k ∷ b.l ∷ []) (lt b.k_some ⊞ lt b.l_some ⊞ nn 1) (search poly depth 30) tt)
    (linear (b.k ∷ b.l ∷ x.x ∷ y.x ∷ z.x ∷ []) (eqn (negsuc 0) b.x_is) (search poly depth 30) tt)
    (linear (b.k ∷ b.l ∷ x.y ∷ y.y ∷ z.y ∷ []) (eqn (negsuc 0) b.y_is) (search poly depth 30) tt)

module _ {P : List Point} (H : List Point) (h : IsHull P H) where
  not_middle : (x y z : Point) → In x H → In y H → In z H → (y ≡ x → ⊥) → (y ≡ z → ⊥) → Mid x y z → cross x y z ≡ pos 0 → ⊥
  not_middle x y z i j k n m d e = extreme H h y j (x ∷ z ∷ [])
      (also (λ q. In q P) (h.members x i) (also (λ q. In q P) (h.members z k) (none_of (λ q. In q P))))
      (λ t. also (λ q. y ≡ q → ⊥) n (also (λ q. y ≡ q → ⊥) m (none_of (λ q. y ≡ q → ⊥))) y t refl)
      (middle_mean x y z (balance x y z d e))

  pub not_in_row : (a b c : Point) → In a H → In b H → In c H → (a ≡ b → ⊥) → (b ≡ c → ⊥) → (a ≡ c → ⊥) → cross a b c ≡ pos 0 → ⊥
  not_in_row a b c i j k ab bc ac e = go (arranged a b c)
    where
      go : Arranged a b c → ⊥
      go (first_two s) = ab s
      go (last_two s) = bc s
      go (outer_two s) = ac s
      go (first_mid d) = not_middle b a c j i k ab ac d (turn_swap b a c ∙ ap neg_ℤ (turn_on b c a ∙ turn_on c a b ∙ e))
      go (second_mid d) = not_middle a b c i j k (λ s. ab (sym s)) bc d e
      go (third_mid d) = not_middle a c b i k j (λ s. ac (sym s)) (λ s. bc (sym s)) d (turn_swap a c b ∙ ap neg_ℤ e)
