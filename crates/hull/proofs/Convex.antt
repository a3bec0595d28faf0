-- Disks are convex: a weighted mean of points that a disk holds is held, and is on the boundary only where it is one of them.
--
--   mean_held    : squared distances from any centre, over bare numbers: the mean of three is no farther than all three are
--   mean_spread  : where it is as far, each two of the three with positive weights are the same
--   inside       : a disk that holds the corners holds each point that they span
--   heavy        : the three corners can be named so that the first has a positive weight
--   a_corner     : a point that they span and that is on the boundary is a corner
use mathlib.Core.Path.{◌≡◌, ◌∙◌, subst}
use mathlib.Core.Logic.{◌⊎◌, inl, inr}
use mathlib.Core.List.Memᴰ
use mathlib.Core.List.{List, [], ◌∷◌}
use lib.IntN.{ℤ, pos, negsuc, neg_ℤ, ◌+ℤ◌, ◌-ℤ◌, ◌*ℤ◌}
use Rattle.integers.specs.Order.{◌≼◌, ◌≺◌}
use Rattle.integers.proofs.Ring.{ring, poly, linear, eqn, ◌&◌}
use Rattle.integers.proofs.Order.{≤_of_<, ≤-or-<, ≤_antisym, nonneg, nonneg_by, clash, le, lt, eq, sq, ◌⊞◌, ◌⊠◌, *-pos, sum_squares_zero, ≡_cancel}
use Rattle.geometry.specs.declared.Point.{Point}
use Rattle.point_lists.specs.Sets.{In}
use Rattle.point_lists.proofs.Sets.{point_path}
use Rattle.disks.proofs.Base.{positive_not_zero}
use Rattle.hull.specs.Means.{Mean}

abbrev square : ℤ → ℤ → ℤ
square s t = s *ℤ s +ℤ t *ℤ t

-- ---- over bare numbers: p is the mean of a, b and c with weights α, β and γ; r is the squared distance allowed, times f

module _ (α β γ a1 a2 b1 b2 c1 c2 p1 p2 f r : ℤ) (hα : pos 0 ≼ α) (hβ : pos 0 ≼ β) (hγ : pos 0 ≼ γ) (hf : pos 0 ≼ f) (w : pos 0 ≺ α +ℤ β +ℤ γ)
    (e1 : (α +ℤ β +ℤ γ) *ℤ p1 ≡ α *ℤ a1 +ℤ β *ℤ b1 +ℤ γ *ℤ c1) (e2 : (α +ℤ β +ℤ γ) *ℤ p2 ≡ α *ℤ a2 +ℤ β *ℤ b2 +ℤ γ *ℤ c2)
    (ha : f *ℤ (a1 *ℤ a1 +ℤ a2 *ℤ a2) ≼ r) (hb : f *ℤ (b1 *ℤ b1 +ℤ b2 *ℤ b2) ≼ r) (hc : f *ℤ (c1 *ℤ c1 +ℤ c2 *ℤ c2) ≼ r) where
  abbrev W : ℤ
  W = α +ℤ β +ℤ γ

  abbrev numbers : List ℤ
  numbers = α ∷ β ∷ γ ∷ a1 ∷ a2 ∷ b1 ∷ b2 ∷ c1 ∷ c2 ∷ p1 ∷ p2 ∷ f ∷ r ∷ []

  room : pos 0 ≼ W *ℤ (α *ℤ (r -ℤ f *ℤ square a1 a2) +ℤ β *ℤ (r -ℤ f *ℤ square b1 b2) +ℤ γ *ℤ (r -ℤ f *ℤ square c1 c2))
  room = ≤_of_< w ⊠ (hα ⊠ le ha ⊞ hβ ⊠ le hb ⊞ hγ ⊠ le hc)

  spread_ab : pos 0 ≼ f *ℤ (α *ℤ β *ℤ square (a1 -ℤ b1) (a2 -ℤ b2))
  spread_ab = hf ⊠ (hα ⊠ hβ ⊠ (sq (a1 -ℤ b1) ⊞ sq (a2 -ℤ b2)))

  spread_bc : pos 0 ≼ f *ℤ (β *ℤ γ *ℤ square (b1 -ℤ c1) (b2 -ℤ c2))
  spread_bc = hf ⊠ (hβ ⊠ hγ ⊠ (sq (b1 -ℤ c1) ⊞ sq (b2 -ℤ c2)))

  spread_ca : pos 0 ≼ f *ℤ (γ *ℤ α *ℤ square (c1 -ℤ a1) (c2 -ℤ a2))
  spread_ca = hf ⊠ (hγ ⊠ hα ⊠ (sq (c1 -ℤ a1) ⊞ sq (c2 -ℤ a2)))

  abbrev at1 : ℤ
  at1 = neg_ℤ (f *ℤ (W *ℤ p1 +ℤ (α *ℤ a1 +ℤ β *ℤ b1 +ℤ γ *ℤ c1)))

  abbrev at2 : ℤ
  at2 = neg_ℤ (f *ℤ (W *ℤ p2 +ℤ (α *ℤ a2 +ℤ β *ℤ b2 +ℤ γ *ℤ c2)))

  pub mean_held : f *ℤ square p1 p2 ≼ r
  mean_held = nonneg_by numbers (W *ℤ W) (*-pos w w) (room ⊞ spread_ab ⊞ spread_bc ⊞ spread_ca ⊞ eq at1 e1 ⊞ eq at2 e2) (search poly depth 40 fits 3000) tt

  module _ (on : f *ℤ square p1 p2 ≡ r) where
    pub none_ab : f *ℤ (α *ℤ β *ℤ square (a1 -ℤ b1) (a2 -ℤ b2)) ≡ pos 0
    none_ab = ≤_antisym
        (nonneg numbers (room ⊞ spread_bc ⊞ spread_ca ⊞ eq at1 e1 ⊞ eq at2 e2 ⊞ eq (W *ℤ W) on) (search poly depth 40 fits 3000) tt) spread_ab

    pub none_ca : f *ℤ (γ *ℤ α *ℤ square (c1 -ℤ a1) (c2 -ℤ a2)) ≡ pos 0
    none_ca = ≤_antisym
        (nonneg numbers (room ⊞ spread_ab ⊞ spread_bc ⊞ eq at1 e1 ⊞ eq at2 e2 ⊞ eq (W *ℤ W) on) (search poly depth 40 fits 3000) tt) spread_ca

-- a factor that is not zero goes; what is left is a square
only_same : (k β s t : ℤ) → pos 0 ≺ k → k *ℤ (β *ℤ (s *ℤ s +ℤ t *ℤ t)) ≡ pos 0 → (β *ℤ s ≡ pos 0) × (β *ℤ t ≡ pos 0)
only_same k β s t h e = sum_squares_zero (β *ℤ s) (β *ℤ t)
    (linear (β ∷ s ∷ t ∷ []) (eqn β gone) (search poly depth 30) tt)
  where
    zero : k *ℤ (β *ℤ (s *ℤ s +ℤ t *ℤ t)) ≡ k *ℤ pos 0
    zero = e ∙ ring (k ∷ []) (search poly depth 30) tt

    gone : β *ℤ (s *ℤ s +ℤ t *ℤ t) ≡ pos 0
    gone = ≡_cancel (positive_not_zero h) zero

-- the mean, where the other two weigh nothing or are the same
alone : (α β γ a b c p : ℤ) → pos 0 ≺ α +ℤ β +ℤ γ → (α +ℤ β +ℤ γ) *ℤ p ≡ α *ℤ a +ℤ β *ℤ b +ℤ γ *ℤ c
    → β *ℤ (a -ℤ b) ≡ pos 0 → γ *ℤ (c -ℤ a) ≡ pos 0 → p ≡ a
alone α β γ a b c p w e f g = ≡_cancel (positive_not_zero w)
    (linear (α ∷ β ∷ γ ∷ a ∷ b ∷ c ∷ p ∷ []) (eqn (pos 1) e & eqn (negsuc 0) f & eqn (pos 1) g)
    (search poly depth 30) tt)

module _ (α β γ a1 a2 b1 b2 c1 c2 p1 p2 f r : ℤ) (hα : pos 0 ≺ α) (hβ : pos 0 ≼ β) (hγ : pos 0 ≼ γ) (hf : pos 0 ≺ f) (w : pos 0 ≺ α +ℤ β +ℤ γ)
    (e1 : (α +ℤ β +ℤ γ) *ℤ p1 ≡ α *ℤ a1 +ℤ β *ℤ b1 +ℤ γ *ℤ c1) (e2 : (α +ℤ β +ℤ γ) *ℤ p2 ≡ α *ℤ a2 +ℤ β *ℤ b2 +ℤ γ *ℤ c2)
    (ha : f *ℤ (a1 *ℤ a1 +ℤ a2 *ℤ a2) ≼ r) (hb : f *ℤ (b1 *ℤ b1 +ℤ b2 *ℤ b2) ≼ r) (hc : f *ℤ (c1 *ℤ c1 +ℤ c2 *ℤ c2) ≼ r)
    (on : f *ℤ (p1 *ℤ p1 +ℤ p2 *ℤ p2) ≡ r) where
  regroup_ab : (f *ℤ α) *ℤ (β *ℤ square (a1 -ℤ b1) (a2 -ℤ b2)) ≡ f *ℤ (α *ℤ β *ℤ square (a1 -ℤ b1) (a2 -ℤ b2))
  regroup_ab = ring (f ∷ α ∷ β ∷ a1 ∷ a2 ∷ b1 ∷ b2 ∷ []) (search poly depth 30) tt

  regroup_ca : (f *ℤ α) *ℤ (γ *ℤ square (c1 -ℤ a1) (c2 -ℤ a2)) ≡ f *ℤ (γ *ℤ α *ℤ square (c1 -ℤ a1) (c2 -ℤ a2))
  regroup_ca = ring (f ∷ α ∷ γ ∷ a1 ∷ a2 ∷ c1 ∷ c2 ∷ []) (search poly depth 30) tt

  pub mean_spread : (p1 ≡ a1) × (p2 ≡ a2)
  mean_spread = (alone α β γ a1 b1 c1 p1 w e1 ab.0 ca.0, alone α β γ a2 b2 c2 p2 w e2 ab.1 ca.1)
    where
      ab : (β *ℤ (a1 -ℤ b1) ≡ pos 0) × (β *ℤ (a2 -ℤ b2) ≡ pos 0)
      ab = only_same (f *ℤ α) β (a1 -ℤ b1) (a2 -ℤ b2) (*-pos hf hα)
          (regroup_ab ∙ none_ab α β γ a1 a2 b1 b2 c1 c2 p1 p2 f r (≤_of_< hα) hβ hγ (≤_of_< hf) w e1 e2 ha hb hc on)

      ca : (γ *ℤ (c1 -ℤ a1) ≡ pos 0) × (γ *ℤ (c2 -ℤ a2) ≡ pos 0)
      ca = only_same (f *ℤ α) γ (c1 -ℤ a1) (c2 -ℤ a2) (*-pos hf hα)
          (regroup_ca ∙ none_ca α β γ a1 a2 b1 b2 c1 c2 p1 p2 f r (≤_of_< hα) hβ hγ (≤_of_< hf) w e1 e2 ha hb hc on)

-- ---- points, and a centre (X/E, Y/E)

abbrev pub apart : ℤ → ℤ → ℤ → Point → ℤ
apart X Y E q = (q.x *ℤ E -ℤ X) *ℤ (q.x *ℤ E -ℤ X) +ℤ (q.y *ℤ E -ℤ Y) *ℤ (q.y *ℤ E -ℤ Y)

arm_mean : (α β γ a b c p E X : ℤ) → (α +ℤ β +ℤ γ) *ℤ p ≡ α *ℤ a +ℤ β *ℤ b +ℤ γ *ℤ c
    → (α +ℤ β +ℤ γ) *ℤ (p *ℤ E -ℤ X) ≡ α *ℤ (a *ℤ E -ℤ X) +ℤ β *ℤ (b *ℤ E -ℤ X) +ℤ γ *ℤ (c *ℤ E -ℤ X)
arm_mean α β γ a b c p E X e = linear (α ∷ β ∷ γ ∷ a ∷ b ∷ c ∷ p ∷ E ∷ X ∷ []) (eqn E e) (search poly depth 30) tt

arm_same : (p a E X : ℤ) → pos 0 ≺ E → p *ℤ E -ℤ X ≡ a *ℤ E -ℤ X → p ≡ a
arm_same p a E X h e = ≡_cancel (positive_not_zero h) (linear (p ∷ a ∷ E ∷ X ∷ []) (eqn (pos 1) e) (search poly depth 30) tt)

module _ {H : List Point} {p : Point} (X Y E f r : ℤ) (held : (q : Point) → In q H → f *ℤ apart X Y E q ≼ r) where
  pub inside : Mean H p → pos 0 ≼ f → f *ℤ apart X Y E p ≼ r
  inside s hf = mean_held s.α s.β s.γ (s.a.x *ℤ E -ℤ X) (s.a.y *ℤ E -ℤ Y) (s.b.x *ℤ E -ℤ X) (s.b.y *ℤ E -ℤ Y)
      (s.c.x *ℤ E -ℤ X) (s.c.y *ℤ E -ℤ Y) (p.x *ℤ E -ℤ X) (p.y *ℤ E -ℤ Y) f r s.α_some s.β_some s.γ_some hf s.weight
      (arm_mean s.α s.β s.γ s.a.x s.b.x s.c.x p.x E X s.x_is)
      (arm_mean s.α s.β s.γ s.a.y s.b.y s.c.y p.y E Y s.y_is)
      (held s.a s.a_in) (held s.b s.b_in) (held s.c s.c_in)

  first_corner : (s : Mean H p) → pos 0 ≺ s.α → pos 0 ≺ f → pos 0 ≺ E → f *ℤ apart X Y E p ≡ r → In p H
  first_corner s hα hf h_e on = Memᴰ.cast (point_path (arm_same p.x s.a.x E X h_e at.0) (arm_same p.y s.a.y E Y h_e at.1)) s.a_in
    where
      at : (p.x *ℤ E -ℤ X ≡ s.a.x *ℤ E -ℤ X) × (p.y *ℤ E -ℤ Y ≡ s.a.y *ℤ E -ℤ Y)
      at = mean_spread s.α s.β s.γ (s.a.x *ℤ E -ℤ X) (s.a.y *ℤ E -ℤ Y) (s.b.x *ℤ E -ℤ X) (s.b.y *ℤ E -ℤ Y)
          (s.c.x *ℤ E -ℤ X) (s.c.y *ℤ E -ℤ Y) (p.x *ℤ E -ℤ X) (p.y *ℤ E -ℤ Y) f r hα s.β_some s.γ_some hf s.weight
          (arm_mean s.α s.β s.γ s.a.x s.b.x s.c.x p.x E X s.x_is)
          (arm_mean s.α s.β s.γ s.a.y s.b.y s.c.y p.y E Y s.y_is)
          (held s.a s.a_in) (held s.b s.b_in) (held s.c s.c_in) on

-- ---- the three in another order

turned : {H : List Point} {p : Point} → Mean H p → Mean H p
turned {H} {p} s = record {
  a = s.b;
  b = s.c;
  c = s.a;
  a_in = s.b_in;
  b_in = s.c_in;
  c_in = s.a_in;
  α = s.β;
  β = s.γ;
  γ = s.α;
  α_some = s.β_some;
  β_some = s.γ_some;
  γ_some = s.α_some;
  weight = subst (λ (t : ℤ). pos 0 ≺ t) (round s.α s.β s.γ) s.weight;
  x_is = mean s.α s.β s.γ s.a.x s.b.x s.c.x p.x s.x_is;
  y_is = mean s.α s.β s.γ s.a.y s.b.y s.c.y p.y s.y_is;
}
  where
    round : (α β γ : ℤ) → α +ℤ β +ℤ γ ≡ β +ℤ γ +ℤ α
    round α β γ = ring (α ∷ β ∷ γ ∷ []) (search poly depth 30) tt

    mean : (α β γ a b c p : ℤ) → (α +ℤ β +ℤ γ) *ℤ p ≡ α *ℤ a +ℤ β *ℤ b +ℤ γ *ℤ c
        → (β +ℤ γ +ℤ α) *ℤ p ≡ β *ℤ b +ℤ γ *ℤ c +ℤ α *ℤ a
    mean α β γ a b c p e = linear (α ∷ β ∷ γ ∷ a ∷ b ∷ c ∷ p ∷ []) (eqn (pos 1) e) (search poly depth 30) tt

pub heavy : {H : List Point} {p : Point} → Mean H p → (s : Mean H p) × (pos 0 ≺ s.α)
unfolding turned
heavy {H} {p} s = go (≤-or-< s.α (pos 0)) (≤-or-< s.β (pos 0)) (≤-or-< s.γ (pos 0))
  where
    none : {X : Type 0} (α β γ : ℤ) → pos 0 ≺ α +ℤ β +ℤ γ → α ≼ pos 0 → β ≼ pos 0 → γ ≼ pos 0 → X
    none α β γ w h k l = clash (α ∷ β ∷ γ ∷ []) (lt w ⊞ le h ⊞ le k ⊞ le l) (search poly depth 30) tt

    go : (s.α ≼ pos 0) ⊎ (pos 0 ≺ s.α) → (s.β ≼ pos 0) ⊎ (pos 0 ≺ s.β) → (s.γ ≼ pos 0) ⊎ (pos 0 ≺ s.γ)
        → (t : Mean H p) × (pos 0 ≺ t.α)
    go (inr h) k l = (s, h)
    go (inl h) (inr k) l = (turned s, k)
    go (inl h) (inl k) (inr l) = (turned (turned s), l)
    go (inl h) (inl k) (inl l) = none s.α s.β s.γ s.weight h k l

pub a_corner : {H : List Point} {p : Point} (X Y E f r : ℤ) → ((q : Point) → In q H → f *ℤ apart X Y E q ≼ r) → Mean H p → pos 0 ≺ f → pos 0 ≺ E
    → f *ℤ apart X Y E p ≡ r → In p H
a_corner X Y E f r held s hf h_e on = let t = heavy s in first_corner X Y E f r held t.0 t.1 hf h_e on
