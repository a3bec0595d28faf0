-- Two and three plane vectors: their products, and what the signs of these say.
--
--   dot, cross, Opposite      == the two products; the sum is zero
--   cone_product, exchange_l, exchange_r, back_l, back_r : a vector as a combination of two others
--   parallel                  : vectors of one length with cross product zero are equal or opposite
--   wide_arms                 : with a positive one they are less than a half turn apart
use mathlib.Core.Path.{◌≡◌, sym, ◌∙◌, ap₂, subst}
use mathlib.Core.Logic.{◌⊎◌, inl, inr}
use mathlib.Core.List.{[], ◌∷◌}
use lib.IntN.{ℤ, pos, negsuc, neg_ℤ, ◌+ℤ◌, ◌-ℤ◌, ◌*ℤ◌}
use lib.Signed.{◌≤ℤ◌, ◌<ℤ◌}
use Rattle.integers.proofs.Laws.{eq_of_sub}
use Rattle.integers.proofs.Abs.{zero_product}
use Rattle.integers.proofs.Ring.{ring, poly, linear, eqn, ◌&◌}
use Rattle.integers.proofs.Order.{≤_of_<, ≤_antisym, ≤-or-<, positive, clash, le, lt, eq, nn, ◌⊞◌, ◌⊠◌, sum_squares_zero}
use Rattle.geometry.specs.declared.Point.{Point}
use Rattle.point_lists.proofs.Sets.{point_path}

abbrev pub dot : Point → Point → ℤ
dot a b = a.x *ℤ b.x +ℤ a.y *ℤ b.y

abbrev pub cross : Point → Point → ℤ
cross a b = a.x *ℤ b.y -ℤ a.y *ℤ b.x

-- ---- identities

-- a vector as a combination of two, under a product with m = l + r
pub cone_product : (l r c : Point) → cross r l *ℤ (dot l c +ℤ dot r c) ≡ cross c l *ℤ (dot l r +ℤ dot r r) +ℤ cross r c *ℤ (dot l l +ℤ dot r l)
cone_product l r c = ring (l.x ∷ l.y ∷ r.x ∷ r.y ∷ c.x ∷ c.y ∷ []) (search poly depth 30) tt

-- three vectors under a product with m = l + r
pub exchange_l : (l r b c : Point) → cross b c *ℤ (dot l l +ℤ dot r l) ≡ cross b l *ℤ (dot l c +ℤ dot r c) +ℤ cross l c *ℤ (dot l b +ℤ dot r b)
exchange_l l r b c = ring (l.x ∷ l.y ∷ r.x ∷ r.y ∷ b.x ∷ b.y ∷ c.x ∷ c.y ∷ []) (search poly depth 30) tt

pub exchange_r : (l r b c : Point) → cross b c *ℤ (dot l r +ℤ dot r r) ≡ cross r c *ℤ (dot l b +ℤ dot r b) -ℤ cross r b *ℤ (dot l c +ℤ dot r c)
exchange_r l r b c = ring (l.x ∷ l.y ∷ r.x ∷ r.y ∷ b.x ∷ b.y ∷ c.x ∷ c.y ∷ []) (search poly depth 30) tt

pub back_r : (l r b c : Point) → cross c b *ℤ (dot l r +ℤ dot r r) ≡ cross r b *ℤ (dot l c +ℤ dot r c) +ℤ cross c r *ℤ (dot l b +ℤ dot r b)
back_r l r b c = ring (l.x ∷ l.y ∷ r.x ∷ r.y ∷ b.x ∷ b.y ∷ c.x ∷ c.y ∷ []) (search poly depth 30) tt

pub back_l : (l r b c : Point) → cross c b *ℤ (dot l l +ℤ dot r l) ≡ cross c l *ℤ (dot l b +ℤ dot r b) -ℤ cross b l *ℤ (dot l c +ℤ dot r c)
back_l l r b c = ring (l.x ∷ l.y ∷ r.x ∷ r.y ∷ b.x ∷ b.y ∷ c.x ∷ c.y ∷ []) (search poly depth 30) tt

pub lengths : (a b : Point) → dot a b *ℤ dot a b +ℤ cross a b *ℤ cross a b ≡ dot a a *ℤ dot b b
lengths a b = ring (a.x ∷ a.y ∷ b.x ∷ b.y ∷ []) (search poly depth 30) tt

pub dot_comm : (a b : Point) → dot a b ≡ dot b a
dot_comm a b = ring (a.x ∷ a.y ∷ b.x ∷ b.y ∷ []) (search poly depth 30) tt

pub cross_self : (a : Point) → cross a a ≡ pos 0
cross_self a = ring (a.x ∷ a.y ∷ []) (search poly depth 30) tt

cross-back : (a b : Point) → cross b a ≡ neg_ℤ (cross a b)
cross-back a b = ring (a.x ∷ a.y ∷ b.x ∷ b.y ∷ []) (search poly depth 30) tt

-- a turn the other way
pub flip : (a b : Point) → cross a b <ℤ pos 0 → pos 0 <ℤ cross b a
flip a b h = subst (λ (z : ℤ). pos 0 <ℤ z) (sym (cross-back a b)) (neg (cross a b) h)
  where
    neg : (z : ℤ) → z <ℤ pos 0 → pos 0 <ℤ neg_ℤ z
    neg z h = positive (z ∷ []) (lt h) (search poly depth 30) tt

-- ---- parallel arms of one length are equal or opposite

abbrev pub Opposite : Point → Point → Type 0
Opposite a b = (a.x +ℤ b.x ≡ pos 0) × (a.y +ℤ b.y ≡ pos 0)

sum_and_difference : (a b : Point) (s : ℤ) → cross a b ≡ pos 0 → dot a a ≡ s → dot b b ≡ s
    → ((a.x -ℤ b.x) *ℤ (a.x -ℤ b.x) +ℤ (a.y -ℤ b.y) *ℤ (a.y -ℤ b.y)) *ℤ ((a.x +ℤ b.x) *ℤ (a.x +ℤ b.x) +ℤ (a.y +ℤ b.y) *ℤ (a.y +ℤ b.y))
    ≡ pos 0
sum_and_difference a b s hc ha hb = linear (a.x ∷ a.y ∷ b.x ∷ b.y ∷ s ∷ [])
    (eqn (pos 4 *ℤ cross a b) hc & eqn (dot a a -ℤ dot b b) ha & eqn (dot b b -ℤ dot a a) hb) (search poly depth 30) tt

pub parallel : (a b : Point) (s : ℤ) → cross a b ≡ pos 0 → dot a a ≡ s → dot b b ≡ s → (a ≡ b) ⊎ Opposite a b
parallel a b s hc ha hb = go (zero_product _ _ (sum_and_difference a b s hc ha hb))
  where
    go : ((a.x -ℤ b.x) *ℤ (a.x -ℤ b.x) +ℤ (a.y -ℤ b.y) *ℤ (a.y -ℤ b.y) ≡ pos 0)
        ⊎ ((a.x +ℤ b.x) *ℤ (a.x +ℤ b.x) +ℤ (a.y +ℤ b.y) *ℤ (a.y +ℤ b.y) ≡ pos 0) → (a ≡ b) ⊎ Opposite a b
    go (inl z) = let w = sum_squares_zero (a.x -ℤ b.x) (a.y -ℤ b.y) z in inl
        (point_path (eq_of_sub a.x b.x w.0) (eq_of_sub a.y b.y w.1))
    go (inr z) = inr (sum_squares_zero (a.x +ℤ b.x) (a.y +ℤ b.y) z)

-- ---- the signs

-- x is positive, by one equation or the other, as the sign of m·c is
pub sign_between : (x ml mr mb mc bl lc rc rb : ℤ) → x *ℤ ml ≡ bl *ℤ mc +ℤ lc *ℤ mb → x *ℤ mr ≡ rc *ℤ mb -ℤ rb *ℤ mc → pos 0 ≤ℤ bl → pos 0 <ℤ lc
    → pos 0 <ℤ rc → pos 0 ≤ℤ rb
    → pos 0 <ℤ ml → pos 0 <ℤ mr → pos 0 <ℤ mb → pos 0 <ℤ x
sign_between x ml mr mb mc bl lc rc rb e1 e2 hbl hlc hrc hrb hml hmr hmb = go (≤-or-< x (pos 0)) (≤-or-< (pos 0) mc)
  where
    go : (x ≤ℤ pos 0) ⊎ (pos 0 <ℤ x) → (pos 0 ≤ℤ mc) ⊎ (mc <ℤ pos 0) → pos 0 <ℤ x
    go (inr h) k = h
    go (inl h) (inl k) = clash (x ∷ ml ∷ mb ∷ mc ∷ bl ∷ lc ∷ []) (le (≤_of_< hml) ⊠ le h ⊞ hbl ⊠ k ⊞ lt hlc ⊠ lt hmb ⊞ lt hlc ⊞ lt hmb
        ⊞ eq (pos 1) e1) (search poly depth 30) tt
    go (inl h) (inr k) = clash (x ∷ mr ∷ mb ∷ mc ∷ rc ∷ rb ∷ []) (le (≤_of_< hmr) ⊠ le h ⊞ hrb ⊠ le (≤_of_< k) ⊞ lt hrc ⊠ lt hmb ⊞ lt hrc ⊞ lt hmb
        ⊞ eq (pos 1) e2) (search poly depth 30) tt

-- w·m = u·p + v·q, with u positive
pub sign_front : (w m u p v q : ℤ) → w *ℤ m ≡ u *ℤ p +ℤ v *ℤ q → pos 0 ≤ℤ w → pos 0 <ℤ u → pos 0 <ℤ p → pos 0 ≤ℤ v → pos 0 <ℤ q → pos 0 <ℤ m
sign_front w m u p v q e hw hu hp hv hq = go (≤-or-< m (pos 0))
  where
    go : (m ≤ℤ pos 0) ⊎ (pos 0 <ℤ m) → pos 0 <ℤ m
    go (inr h) = h
    go (inl h) = clash (w ∷ m ∷ u ∷ p ∷ v ∷ q ∷ []) (hw ⊠ le h ⊞ lt hu ⊠ lt hp ⊞ lt hu ⊞ lt hp ⊞ hv ⊠ le (≤_of_< hq) ⊞ eq (pos 1) e)
        (search poly depth 30) tt

-- arms of one length that are not parallel are less than a half turn apart
wide : (d t s : ℤ) → d *ℤ d +ℤ t *ℤ t ≡ s *ℤ s → pos 0 <ℤ t → pos 0 <ℤ s → pos 0 <ℤ (s +ℤ d)
wide d t s e ht hs = go (≤-or-< (s +ℤ d) (pos 0))
  where
    go : ((s +ℤ d) ≤ℤ pos 0) ⊎ (pos 0 <ℤ (s +ℤ d)) → pos 0 <ℤ (s +ℤ d)
    go (inr h) = h
    go (inl h) = clash (d ∷ t ∷ s ∷ []) (le h ⊠ (le h ⊞ nn 2 ⊠ le (≤_of_< hs)) ⊞ lt ht ⊠ lt ht ⊞ nn 2 ⊠ lt ht ⊞ eq (negsuc 0) e)
        (search poly depth 30) tt

pub wide_arms : (a b : Point) (s : ℤ) → dot a a ≡ s → dot b b ≡ s → pos 0 <ℤ cross a b → pos 0 <ℤ s → pos 0 <ℤ (s +ℤ dot a b)
wide_arms a b s ha hb ht hs = wide (dot a b) (cross a b) s (lengths a b ∙ ap₂ ◌*ℤ◌ ha hb) ht hs

-- w·m = u·p + v·q with u, v and w not negative and m not positive: u and v are zero
pub both_zero : (w m u p v q : ℤ) → w *ℤ m ≡ u *ℤ p +ℤ v *ℤ q → pos 0 ≤ℤ w → m ≤ℤ pos 0 → pos 0 ≤ℤ u → pos 0 <ℤ p → pos 0 ≤ℤ v → pos 0 <ℤ q
    → v ≡ pos 0
both_zero w m u p v q e hw hm hu hp hv hq = go (≤-or-< v (pos 0))
  where
    go : (v ≤ℤ pos 0) ⊎ (pos 0 <ℤ v) → v ≡ pos 0
    go (inl h) = ≤_antisym h hv
    go (inr h) = clash (w ∷ m ∷ u ∷ p ∷ v ∷ q ∷ []) (hw ⊠ le hm ⊞ hu ⊠ le (≤_of_< hp) ⊞ lt h ⊠ lt hq ⊞ lt h ⊞ lt hq ⊞ eq (pos 1) e)
        (search poly depth 30) tt
