-- Left turns and points in a row.
--
--   Forward x y            == the vector (x, y) points forward: x is positive, or zero and y positive; forward: from a point to a later one
--   follows                : of forward vectors, where v is not right of u and w not right of v, w is not right of u
--   Parallel, parallel     == forward vectors in a row are multiples of one another
--   turn_on, turn_swap     : the turn of three points, from another of them, and the other way round
--   Mid x y z              == y comes between x and z in rising order
--   Balance x y z, balance == of three points in a row, the step from the middle one to z is a multiple of that from x to it
--   beyond, turned_back    : what a turn at the middle one rules out
--   Arranged, arranged     == of three points two are equal, or one is in the middle
--   row-flat               : three points in a row with two others do not turn
use mathlib.Core.Path.{◌≡◌, sym, ◌∙◌, ap}
use mathlib.Core.List.{[], ◌∷◌}
use lib.Dec.{T}
use lib.IntN.{ℤ, pos, negsuc, neg_ℤ, ◌+ℤ◌, ◌-ℤ◌, ◌*ℤ◌}
use Rattle.integers.specs.Order.{◌≼◌, ◌≺◌}
use Rattle.integers.proofs.Ring.{ring, poly, linear, eqn, ◌&◌}
use Rattle.integers.proofs.Tests.{true_test}
use Rattle.integers.proofs.Order.{≤_of_<, ≤_of_eq, nonneg, nonneg_by, positive, clash, le, lt, eq, ◌⊞◌, ◌⊠◌}
use Rattle.geometry.specs.declared.Point.{Point}
use Rattle.geometry.specs.Order.{before}
use Rattle.point_lists.proofs.Order.{ByCoordinates, by_x, by_y, by_coordinates, ByOrder, ahead, behind, level, by_order}
use Rattle.hull.specs.Hull.{cross}

-- ---- forward vectors

pub data Forward (x y : ℤ) : Type 0 where
  right : pos 0 ≺ x → Forward x y
  up : x ≡ pos 0 → pos 0 ≺ y → Forward x y

over : (a b : ℤ) → a ≺ b → pos 0 ≺ b -ℤ a
over a b h = positive (a ∷ b ∷ []) (lt h) (search poly depth 30) tt

no_step : (a b : ℤ) → a ≡ b → b -ℤ a ≡ pos 0
no_step a b e = linear (a ∷ b ∷ []) (eqn (negsuc 0) e) (search poly depth 30) tt

pub forward : (p q : Point) → T (before p q) → Forward (q.x -ℤ p.x) (q.y -ℤ p.y)
forward p q t = go (by_coordinates p q t)
  where
    go : ByCoordinates p q → Forward (q.x -ℤ p.x) (q.y -ℤ p.y)
    go (by_x h) = right (over p.x q.x h)
    go (by_y e h) = up (no_step p.x q.x e) (over p.y q.y h)

pub not_left : {x y : ℤ} → Forward x y → pos 0 ≼ x
not_left (right h) = ≤_of_< h
not_left (up e h) = ≤_of_eq (sym e)

pub follows : (ux uy vx vy wx wy : ℤ) → Forward ux uy → Forward vx vy → Forward wx wy → pos 0 ≼ ux *ℤ vy -ℤ uy *ℤ vx
    → pos 0 ≼ vx *ℤ wy -ℤ vy *ℤ wx
    → pos 0 ≼ ux *ℤ wy -ℤ uy *ℤ wx
follows ux uy vx vy wx wy u (right h) w f g = nonneg_by (ux ∷ uy ∷ vx ∷ vy ∷ wx ∷ wy ∷ []) vx h (not_left u ⊠ g ⊞ not_left w ⊠ f)
    (search poly depth 30) tt
follows ux uy vx vy wx wy u (up e h) (right k) f g = clash (vx ∷ vy ∷ wx ∷ wy ∷ []) (g ⊞ lt h ⊠ lt k ⊞ lt h ⊞ lt k ⊞ eq (neg_ℤ wy) e)
    (search poly depth 30) tt
follows ux uy vx vy wx wy u (up e h) (up d k) f g = nonneg (ux ∷ uy ∷ wx ∷ wy ∷ []) (not_left u ⊠ le (≤_of_< k) ⊞ eq (neg_ℤ uy) d)
    (search poly depth 30) tt

pub record Parallel (ux uy vx vy : ℤ) : Type 0 where
  pub k : ℤ
  pub l : ℤ
  pub k_some : pos 0 ≺ k
  pub l_some : pos 0 ≺ l
  pub x_is : k *ℤ vx ≡ l *ℤ ux
  pub y_is : k *ℤ vy ≡ l *ℤ uy

pub parallel : (ux uy vx vy : ℤ) → Forward ux uy → Forward vx vy → ux *ℤ vy -ℤ uy *ℤ vx ≡ pos 0 → Parallel ux uy vx vy
parallel ux uy vx vy (right h) (right k) e = record {
  k = ux;
  l = vx;
  k_some = h;
  l_some = k;
  x_is = ring (ux ∷ vx ∷ []) (search poly depth 30) tt;
  y_is = linear (ux ∷ uy ∷ vx ∷ vy ∷ []) (eqn (pos 1) e) (search poly depth 30) tt;
}
parallel ux uy vx vy (right h) (up f k) e = clash (ux ∷ uy ∷ vx ∷ vy ∷ [])
    (lt h ⊠ lt k ⊞ lt h ⊞ lt k ⊞ eq (negsuc 0) e ⊞ eq (neg_ℤ uy) f) (search poly depth 30) tt
parallel ux uy vx vy (up f h) (right k) e = clash (ux ∷ uy ∷ vx ∷ vy ∷ [])
    (lt h ⊠ lt k ⊞ lt h ⊞ lt k ⊞ eq (pos 1) e ⊞ eq (neg_ℤ vy) f) (search poly depth 30) tt
parallel ux uy vx vy (up f h) (up g k) e = record {
  k = uy;
  l = vy;
  k_some = h;
  l_some = k;
  x_is = linear (ux ∷ uy ∷ vx ∷ vy ∷ []) (eqn uy g & eqn (neg_ℤ vy) f) (search poly depth 30) tt;
  y_is = ring (uy ∷ vy ∷ []) (search poly depth 30) tt;
}

-- ---- the turn of three points

pub turn_on : (a b c : Point) → cross a b c ≡ cross b c a
turn_on a b c = ring (a.x ∷ a.y ∷ b.x ∷ b.y ∷ c.x ∷ c.y ∷ []) (search poly depth 30) tt

pub turn_swap : (a b c : Point) → cross a b c ≡ neg_ℤ (cross a c b)
turn_swap a b c = ring (a.x ∷ a.y ∷ b.x ∷ b.y ∷ c.x ∷ c.y ∷ []) (search poly depth 30) tt

pub turn_same : (a c : Point) → cross a a c ≡ pos 0
turn_same a c = ring (a.x ∷ a.y ∷ c.x ∷ c.y ∷ []) (search poly depth 30) tt

pub no_turn : {X : Type 0} (a b c : Point) → pos 0 ≺ cross a b c → a ≡ b → X
no_turn a b c h e = none (cross a b c) h (ap (λ (p : Point). cross a p c) (sym e) ∙ turn_same a c)
  where
    none : {X : Type 0} (t : ℤ) → pos 0 ≺ t → t ≡ pos 0 → X
    none t h e = clash (t ∷ []) (lt h ⊞ eq (negsuc 0) e) (search poly depth 30) tt

-- ---- three points in a row

pub data Mid (x y z : Point) : Type 0 where
  rising : T (before x y) → T (before y z) → Mid x y z
  falling : T (before z y) → T (before y x) → Mid x y z

pub record Balance (x y z : Point) : Type 0 where
  pub k : ℤ
  pub l : ℤ
  pub k_some : pos 0 ≺ k
  pub l_some : pos 0 ≺ l
  pub x_is : k *ℤ (z.x -ℤ y.x) ≡ l *ℤ (y.x -ℤ x.x)
  pub y_is : k *ℤ (z.y -ℤ y.y) ≡ l *ℤ (y.y -ℤ x.y)

steps : (x y z : Point) → (y.x -ℤ x.x) *ℤ (z.y -ℤ y.y) -ℤ (y.y -ℤ x.y) *ℤ (z.x -ℤ y.x) ≡ cross x y z
steps x y z = ring (x.x ∷ x.y ∷ y.x ∷ y.y ∷ z.x ∷ z.y ∷ []) (search poly depth 30) tt

steps_back : (x y z : Point) → (y.x -ℤ z.x) *ℤ (x.y -ℤ y.y) -ℤ (y.y -ℤ z.y) *ℤ (x.x -ℤ y.x) ≡ neg_ℤ (cross x y z)
steps_back x y z = ring (x.x ∷ x.y ∷ y.x ∷ y.y ∷ z.x ∷ z.y ∷ []) (search poly depth 30) tt

pub balance : (x y z : Point) → Mid x y z → cross x y z ≡ pos 0 → Balance x y z
balance x y z (rising s t) e = let r = parallel (y.x -ℤ x.x) (y.y -ℤ x.y) (z.x -ℤ y.x) (z.y -ℤ y.y) (forward x y s) (forward y z t)
    (steps x y z ∙ e) in
    record { k = r.k; l = r.l; k_some = r.k_some; l_some = r.l_some; x_is = r.x_is; y_is = r.y_is }
balance x y z (falling s t) e = let r = parallel (y.x -ℤ z.x) (y.y -ℤ z.y) (x.x -ℤ y.x) (x.y -ℤ y.y) (forward z y s) (forward y x t)
    (steps_back x y z ∙ ap neg_ℤ e) in
    record {
      k = r.l;
      l = r.k;
      k_some = r.l_some;
      l_some = r.k_some;
      x_is = turned r.k r.l x.x y.x z.x r.x_is;
      y_is = turned r.k r.l x.y y.y z.y r.y_is;
    }
  where
    turned : (k l x y z : ℤ) → k *ℤ (x -ℤ y) ≡ l *ℤ (y -ℤ z) → l *ℤ (z -ℤ y) ≡ k *ℤ (y -ℤ x)
    turned k l x y z e = linear (k ∷ l ∷ x ∷ y ∷ z ∷ []) (eqn (pos 1) e) (search poly depth 30) tt

weighed : {X : Type 0} (k l s t : ℤ) → k *ℤ s +ℤ l *ℤ t ≡ pos 0 → pos 0 ≺ k → pos 0 ≺ l → pos 0 ≼ s → pos 0 ≺ t → X
weighed k l s t e hk hl hs ht = clash (k ∷ l ∷ s ∷ t ∷ []) (le (≤_of_< hk) ⊠ hs ⊞ lt hl ⊠ lt ht ⊞ lt hl ⊞ lt ht ⊞ eq (negsuc 0) e)
    (search poly depth 30) tt

-- past y on the way from x: w is left of it, and what lies further on is right of the way from y to w
pub beyond : {X : Type 0} (x y z w : Point) → Balance x y z → pos 0 ≺ cross x y w → pos 0 ≼ cross y w z → X
beyond x y z w b h f = weighed b.k b.l (cross y w z) (cross x y w)
    (linear (b.k ∷ b.l ∷ x.x ∷ x.y ∷ y.x ∷ y.y ∷ z.x ∷ z.y ∷ w.x ∷ w.y ∷ [])
    (eqn (w.x -ℤ y.x) b.y_is & eqn (neg_ℤ (w.y -ℤ y.y)) b.x_is) (search poly depth 30) tt) b.k_some b.l_some f h

-- x and z are on different sides of the way from w to y
pub turned_back : {X : Type 0} (x y z w : Point) → Balance x y z → pos 0 ≺ cross w y x → pos 0 ≼ cross w y z → X
turned_back x y z w b h f = weighed b.k b.l (cross w y z) (cross w y x)
    (linear (b.k ∷ b.l ∷ x.x ∷ x.y ∷ y.x ∷ y.y ∷ z.x ∷ z.y ∷ w.x ∷ w.y ∷ [])
    (eqn (y.x -ℤ w.x) b.y_is & eqn (neg_ℤ (y.y -ℤ w.y)) b.x_is) (search poly depth 30) tt) b.k_some b.l_some f h

-- ---- the order of three points

pub data Ordered (p q : Point) : Type 0 where
  less : T (before p q) → Ordered p q
  same : p ≡ q → Ordered p q
  more : T (before q p) → Ordered p q

pub ordered : (p q : Point) → Ordered p q
ordered p q = go (by_order p q)
  where
    go : ByOrder p q → Ordered p q
    go (ahead e) = less (true_test e)
    go (behind e f) = more (true_test f)
    go (level e f s) = same s

pub data Arranged (x y z : Point) : Type 0 where
  first_two : x ≡ y → Arranged x y z
  last_two : y ≡ z → Arranged x y z
  outer_two : x ≡ z → Arranged x y z
  first_mid : Mid y x z → Arranged x y z
  second_mid : Mid x y z → Arranged x y z
  third_mid : Mid x z y → Arranged x y z

pub arranged : (x y z : Point) → Arranged x y z
arranged x y z = go (ordered x y) (ordered y z) (ordered x z)
  where
    go : Ordered x y → Ordered y z → Ordered x z → Arranged x y z
    go (same e) f g = first_two e
    go (less s) (same e) g = last_two e
    go (more s) (same e) g = last_two e
    go (less s) (less t) g = second_mid (rising s t)
    go (more s) (more t) g = second_mid (falling t s)
    go (less s) (more t) (same e) = outer_two e
    go (less s) (more t) (less r) = third_mid (rising r t)
    go (less s) (more t) (more r) = first_mid (falling r s)
    go (more s) (less t) (same e) = outer_two e
    go (more s) (less t) (less r) = first_mid (rising s r)
    go (more s) (less t) (more r) = third_mid (falling t r)

-- ---- a row

flat_by : {X : Type 0} (d w : ℤ) → pos 0 ≺ d → pos 0 ≺ w → d *ℤ w ≡ pos 0 → X
flat_by d w hd hw e = clash (d ∷ w ∷ []) (lt hd ⊠ lt hw ⊞ lt hd ⊞ lt hw ⊞ eq (negsuc 0) e) (search poly depth 30) tt

pub row-flat : {X : Type 0} (a b p q r : Point) → Forward (b.x -ℤ a.x) (b.y -ℤ a.y) → cross a b p ≡ pos 0 → cross a b q ≡ pos 0
    → cross a b r ≡ pos 0
    → pos 0 ≺ cross p q r → X
row-flat a b p q r (right h) hp hq hr t = flat_by (b.x -ℤ a.x) (cross p q r) h t
    (linear (a.x ∷ a.y ∷ b.x ∷ b.y ∷ p.x ∷ p.y ∷ q.x ∷ q.y ∷ r.x ∷ r.y ∷ [])
    (eqn (q.x -ℤ p.x) hr & eqn (neg_ℤ (r.x -ℤ p.x)) hq & eqn (r.x -ℤ q.x) hp) (search poly depth 30) tt)
row-flat a b p q r (up e h) hp hq hr t = flat_by (b.y -ℤ a.y) (cross p q r) h t
    (linear (a.x ∷ a.y ∷ b.x ∷ b.y ∷ p.x ∷ p.y ∷ q.x ∷ q.y ∷ r.x ∷ r.y ∷ [])
    (eqn (q.y -ℤ p.y) hr & eqn (neg_ℤ (r.y -ℤ p.y)) hq & eqn (r.y -ℤ q.y) hp) (search poly depth 30) tt)
