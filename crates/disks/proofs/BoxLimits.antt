-- How large the numbers of a smallest disk of points in a square can be.
--
--   Box x0 y0 l p         == p lies in the square with lower left (x0, y0) and side l
--   BoxLimits x0 y0 l F   == the centre lies in that square, and S/E² is at most l²/2
--   centre-side           : a half plane that has all points has the centre
--   box_limits            : so a strongly minimal disk of points of the square has these limits
--   turn_bound, turned_weight, triple_weight : twice the area of a triangle in a square is at most the square, so E is at most twice the square
use mathlib.Core.Path.{◌≡◌, sym, ◌∙◌, ap, subst}
use mathlib.Core.Logic.{◌⊎◌, inl, inr}
use mathlib.Core.Bool.{Bool, true, false}
use mathlib.Core.List.Memᴰ
use mathlib.Core.List.{List, [], ◌∷◌}
use native.Mathlib.Omega.{arith}
use lib.IntN.{ℤ, pos, negsuc, neg_ℤ, ◌+ℤ◌, ◌-ℤ◌, ◌*ℤ◌}
use lib.Signed.{◌≤ℤ◌, ◌<ℤ◌, lt_z}
use Rattle.integers.proofs.Ring.{ring, poly}
use Rattle.integers.proofs.Order.{≤_of_<, ≤-or-<, nonneg, positive, clash, le, lt, sq, nn, ◌⊞◌, ◌⊠◌}
use Rattle.geometry.specs.declared.Point.{Point}
use Rattle.point_lists.specs.Sets.{In}
use Rattle.disks.proofs.Lifted.{Lifted, value, gap, combine, value_combine, gap_combine, gap_self, squared_radius}
use Rattle.disks.proofs.Minimal.{Feasible, StronglyMinimal}
use Rattle.disks.proofs.Base.{positive_one}
use Rattle.disks.proofs.Triple.{turn, turned, vanishing, triple_form}
use Rattle.disks.specs.Smallest.{RationalDisk, Fits}
use Rattle.disks.proofs.StrongSmallest.{lifted_least}

-- ---- the centre lies where the points lie

abbrev over : Lifted → ℤ → ℤ → ℤ → ℤ
over F u v t = u *ℤ F.cx +ℤ v *ℤ F.cy -ℤ t *ℤ F.e

-- towards the half plane u·x + v·y ≥ t
abbrev push : ℤ → ℤ → ℤ → ℤ → Lifted
push m u v t = record { e = pos 0; cx = neg_ℤ (m *ℤ u); cy = neg_ℤ (m *ℤ v); k = neg_ℤ (pos 2 *ℤ (m *ℤ t)) }

push-value : (m u v t : ℤ) (p : Point) → value (push m u v t) p ≡ pos 2 *ℤ (m *ℤ (u *ℤ p.x +ℤ v *ℤ p.y -ℤ t))
push-value m u v t p = ring (m ∷ u ∷ v ∷ t ∷ p.x ∷ p.y ∷ []) (search poly depth 30) tt

push-gap : (F : Lifted) (m u v t : ℤ) → gap F (push m u v t) ≡ neg_ℤ (pos 2 *ℤ (F.e *ℤ (m *ℤ over F u v t)))
push-gap F m u v t = ring (F.e ∷ F.cx ∷ F.cy ∷ F.k ∷ m ∷ u ∷ v ∷ t ∷ []) (search poly depth 30) tt

push_weight : (n e : ℤ) → pos 0 <ℤ n → pos 0 <ℤ e → pos 0 <ℤ (n *ℤ e +ℤ pos 1 *ℤ pos 0)
push_weight n e hn he = positive (n ∷ e ∷ []) (lt hn ⊠ lt he ⊞ lt hn ⊞ lt he) (search poly depth 30) tt

push-holds : (n w m a t : ℤ) → pos 0 <ℤ n → w ≤ℤ pos 0 → m <ℤ pos 0 → t ≤ℤ a → (n *ℤ w +ℤ pos 1 *ℤ (pos 2 *ℤ (m *ℤ (a -ℤ t)))) ≤ℤ pos 0
push-holds n w m a t hn hw hm ha = nonneg (n ∷ w ∷ m ∷ a ∷ t ∷ []) (le (≤_of_< hn) ⊠ le hw ⊞ nn 2 ⊠ (le (≤_of_< hm) ⊠ le ha))
    (search poly depth 30) tt

push_worse : {X : Type 0} (n e m : ℤ) → pos 0 <ℤ e → m <ℤ pos 0 → pos 0 ≤ℤ (n *ℤ pos 0 +ℤ pos 1 *ℤ neg_ℤ (pos 2 *ℤ (e *ℤ (m *ℤ m)))) → X
push_worse n e m he hm h = clash (n ∷ e ∷ m ∷ []) (h ⊞ nn 2 ⊠ (lt he ⊠ sq m) ⊞ nn 2 ⊠ (lt hm ⊠ lt hm) ⊞ nn 4 ⊠ lt hm ⊞ nn 1) (search poly depth 30) tt

above : (F : Lifted) (u v t : ℤ) → pos 0 ≤ℤ over F u v t → (t *ℤ F.e) ≤ℤ (u *ℤ F.cx +ℤ v *ℤ F.cy)
above F u v t h = nonneg (F.e ∷ F.cx ∷ F.cy ∷ u ∷ v ∷ t ∷ []) h (search poly depth 30) tt

pub centre-side : {P : List Point} {F : Lifted} → StronglyMinimal P [] F → (u v t : ℤ) → pos 0 <ℤ (u *ℤ u +ℤ v *ℤ v)
    → ((p : Point) → In p P → t ≤ℤ (u *ℤ p.x +ℤ v *ℤ p.y))
    → (t *ℤ F.e) ≤ℤ (u *ℤ F.cx +ℤ v *ℤ F.cy)
centre-side {P} {F} s u v t hn h = above F u v t (go (≤-or-< (pos 0) (over F u v t)))
  where
    m : ℤ
    m = over F u v t

    n : ℤ
    n = u *ℤ u +ℤ v *ℤ v

    G : Lifted
    G = combine n F (pos 1) (push m u v t)

    G_gap : gap F G ≡ n *ℤ pos 0 +ℤ pos 1 *ℤ neg_ℤ (pos 2 *ℤ (F.e *ℤ (m *ℤ m)))
    G_gap = gap_combine F n F (pos 1) (push m u v t) ∙ ap (λ (z : ℤ). n *ℤ z +ℤ pos 1 *ℤ gap F (push m u v t)) (gap_self F)
        ∙ ap (λ (z : ℤ). n *ℤ pos 0 +ℤ pos 1 *ℤ z) (push-gap F m u v t)

    G_value : (p : Point) → value G p ≡ n *ℤ value F p +ℤ pos 1 *ℤ (pos 2 *ℤ (m *ℤ (u *ℤ p.x +ℤ v *ℤ p.y -ℤ t)))
    G_value p = value_combine n F (pos 1) (push m u v t) p ∙ ap (λ (z : ℤ). n *ℤ value F p +ℤ pos 1 *ℤ z) (push-value m u v t p)

    G_feasible : m <ℤ pos 0 → Feasible P [] G
    G_feasible hm = record {
      proper = push_weight n F.e hn s.feasible.proper;
      holds = λ p i. subst (λ (z : ℤ). z ≤ℤ pos 0) (sym (G_value p))
          (push-holds n (value F p) m (u *ℤ p.x +ℤ v *ℤ p.y) t hn (s.feasible.holds p i) hm (h p i));
      on_boundary_is = λ q i. absurd (Memᴰ.not-nil i);
    }

    go : (pos 0 ≤ℤ over F u v t) ⊎ (over F u v t <ℤ pos 0) → pos 0 ≤ℤ over F u v t
    go (inl k) = k
    go (inr k) = push_worse n F.e m s.feasible.proper k (subst (λ (z : ℤ). pos 0 ≤ℤ z) G_gap (s.least G (G_feasible k)))

-- ---- points in a square

pub record Box (x0 y0 l : ℤ) (p : Point) : Type 0 where
  pub left : x0 ≤ℤ p.x
  pub right : p.x ≤ℤ (x0 +ℤ l)
  pub low : y0 ≤ℤ p.y
  pub high : p.y ≤ℤ (y0 +ℤ l)

pub record BoxLimits (x0 y0 l : ℤ) (F : Lifted) : Type 0 where
  pub x_low : (x0 *ℤ F.e) ≤ℤ F.cx
  pub x_high : F.cx ≤ℤ ((x0 +ℤ l) *ℤ F.e)
  pub y_low : (y0 *ℤ F.e) ≤ℤ F.cy
  pub y_high : F.cy ≤ℤ ((y0 +ℤ l) *ℤ F.e)
  -- at most half the square of the side
  pub radius : (squared_radius F *ℤ pos 2) ≤ℤ ((l *ℤ l) *ℤ (F.e *ℤ F.e))

module _ {P : List Point} {F : Lifted} (x0 y0 l : ℤ) (s : StronglyMinimal P [] F) (inside : (p : Point) → In p P → Box x0 y0 l p) where
  x_low : (x0 *ℤ F.e) ≤ℤ F.cx
  x_low = nonneg (x0 ∷ F.e ∷ F.cx ∷ F.cy ∷ [])
      (le (centre-side s (pos 1) (pos 0) x0 positive_one (λ p i. nonneg (x0 ∷ p.x ∷ p.y ∷ []) (le (inside p i).left) (search poly depth 30) tt)))
      (search poly depth 60 fits 9000) tt

  x_high : F.cx ≤ℤ ((x0 +ℤ l) *ℤ F.e)
  x_high = nonneg (x0 ∷ l ∷ F.e ∷ F.cx ∷ F.cy ∷ [])
      (le (centre-side s (negsuc 0) (pos 0) (neg_ℤ (x0 +ℤ l)) positive_one
      (λ p i. nonneg (x0 ∷ l ∷ p.x ∷ p.y ∷ []) (le (inside p i).right) (search poly depth 30) tt))) (search poly depth 60 fits 9000) tt

  y_low : (y0 *ℤ F.e) ≤ℤ F.cy
  y_low = nonneg (y0 ∷ F.e ∷ F.cx ∷ F.cy ∷ [])
      (le (centre-side s (pos 0) (pos 1) y0 positive_one (λ p i. nonneg (y0 ∷ p.x ∷ p.y ∷ []) (le (inside p i).low) (search poly depth 30) tt)))
      (search poly depth 60 fits 9000) tt

  y_high : F.cy ≤ℤ ((y0 +ℤ l) *ℤ F.e)
  y_high = nonneg (y0 ∷ l ∷ F.e ∷ F.cx ∷ F.cy ∷ [])
      (le (centre-side s (pos 0) (negsuc 0) (neg_ℤ (y0 +ℤ l)) positive_one
      (λ p i. nonneg (y0 ∷ l ∷ p.x ∷ p.y ∷ []) (le (inside p i).high) (search poly depth 30) tt))) (search poly depth 60 fits 9000) tt

  -- the disk about the square: centre (x0 + l/2, y0 + l/2), squared radius l²/2
  abbrev about : RationalDisk
  about = record { x = pos 2 *ℤ x0 +ℤ l; y = pos 2 *ℤ y0 +ℤ l; e = 2; a = l *ℤ l; b = 2; e_some = omega arith; b_some = omega arith }

  about_holds : (a b : ℤ) → x0 ≤ℤ a → a ≤ℤ (x0 +ℤ l) → y0 ≤ℤ b → b ≤ℤ (y0 +ℤ l)
      → (pos 2 *ℤ ((a *ℤ pos 2 -ℤ (pos 2 *ℤ x0 +ℤ l)) *ℤ (a *ℤ pos 2 -ℤ (pos 2 *ℤ x0 +ℤ l))
      +ℤ (b *ℤ pos 2 -ℤ (pos 2 *ℤ y0 +ℤ l)) *ℤ (b *ℤ pos 2 -ℤ (pos 2 *ℤ y0 +ℤ l)))) ≤ℤ ((l *ℤ l) *ℤ pos 4)
  about_holds a b h1 h2 h3 h4 = nonneg (x0 ∷ y0 ∷ l ∷ a ∷ b ∷ []) (nn 8 ⊠ (le h1 ⊠ le h2) ⊞ nn 8 ⊠ (le h3 ⊠ le h4)) (search poly depth 30) tt

  about_fits : Fits about P []
  about_fits = record {
    holds_all = λ p i. about_holds p.x p.y (inside p i).left (inside p i).right (inside p i).low (inside p i).high;
    through_all = λ q i. absurd (Memᴰ.not-nil i);
  }

  pub box_limits : BoxLimits x0 y0 l F
  box_limits = record { x_low = x_low; x_high = x_high; y_low = y_low; y_high = y_high; radius = lifted_least s about about_fits }

-- ---- twice the area of a triangle in a square

cyclic : (a b c : Point) → turn a b c ≡ turn b c a
cyclic a b c = ring (a.x ∷ a.y ∷ b.x ∷ b.y ∷ c.x ∷ c.y ∷ []) (search poly depth 30) tt

back : (a b c : Point) → neg_ℤ (turn a b c) ≡ turn a c b
back a b c = ring (a.x ∷ a.y ∷ b.x ∷ b.y ∷ c.x ∷ c.y ∷ []) (search poly depth 30) tt

module _ (x0 y0 l : ℤ) (hl : pos 0 ≤ℤ l) where
  two_rise : (a b c : Point) → Box x0 y0 l a → Box x0 y0 l b → Box x0 y0 l c → c.y ≤ℤ b.y → a.y ≤ℤ c.y → turn a b c ≤ℤ (l *ℤ l)
  two_rise a b c ha hb hc h1 h2 = nonneg (x0 ∷ y0 ∷ l ∷ a.x ∷ a.y ∷ b.x ∷ b.y ∷ c.x ∷ c.y ∷ [])
      (le h1 ⊠ le ha.right ⊞ le h2 ⊠ le hb.right ⊞ (le h1 ⊞ le h2) ⊠ le hc.left ⊞ hl ⊠ (le hb.high ⊞ le ha.low))
      (search poly depth 30) tt

  one_rises : (a b c : Point) → Box x0 y0 l a → Box x0 y0 l b → Box x0 y0 l c → c.y ≤ℤ b.y → c.y ≤ℤ a.y → a.y ≤ℤ b.y → turn a b c ≤ℤ (l *ℤ l)
  one_rises a b c ha hb hc h1 h2 h3 = nonneg (x0 ∷ y0 ∷ l ∷ a.x ∷ a.y ∷ b.x ∷ b.y ∷ c.x ∷ c.y ∷ [])
      (le h1 ⊠ le ha.right ⊞ le h2 ⊠ le hb.left ⊞ le h3 ⊠ le hc.left ⊞ hl ⊠ (le hb.high ⊞ le hc.low)) (search poly depth 30) tt

  -- by the order of the three heights
  pub turn_bound : (a b c : Point) → Box x0 y0 l a → Box x0 y0 l b → Box x0 y0 l c → turn a b c ≤ℤ (l *ℤ l)
  turn_bound a b c ha hb hc = go (≤-or-< c.y b.y) (≤-or-< a.y c.y) (≤-or-< b.y a.y)
    where
      at : (p q r : Point) → turn a b c ≡ turn p q r → turn p q r ≤ℤ (l *ℤ l) → turn a b c ≤ℤ (l *ℤ l)
      at p q r e h = subst (λ (z : ℤ). z ≤ℤ (l *ℤ l)) (sym e) h

      go : (c.y ≤ℤ b.y) ⊎ (b.y <ℤ c.y) → (a.y ≤ℤ c.y) ⊎ (c.y <ℤ a.y) → (b.y ≤ℤ a.y) ⊎ (a.y <ℤ b.y) → turn a b c ≤ℤ (l *ℤ l)
      go (inl h1) (inl h2) h3 = two_rise a b c ha hb hc h1 h2
      go (inl h1) (inr h2) (inl h3) = at c a b (sym (cyclic c a b)) (two_rise c a b hc ha hb h3 h1)
      go (inl h1) (inr h2) (inr h3) = one_rises a b c ha hb hc h1 (≤_of_< h2) (≤_of_< h3)
      go (inr h1) (inl h2) (inl h3) = at b c a (cyclic a b c) (two_rise b c a hb hc ha h2 h3)
      go (inr h1) (inl h2) (inr h3) = at b c a (cyclic a b c) (one_rises b c a hb hc ha h2 (≤_of_< h3) (≤_of_< h1))
      go (inr h1) (inr h2) (inl h3) = at c a b (sym (cyclic c a b)) (one_rises c a b hc ha hb h3 (≤_of_< h1) (≤_of_< h2))
      go (inr h1) (inr h2) (inr h3) = clash (a.y ∷ b.y ∷ c.y ∷ []) (lt h1 ⊞ lt h2 ⊞ lt h3 ⊞ nn 2) (search poly depth 30) tt

  twice_le : (w : ℤ) → w ≤ℤ (l *ℤ l) → (pos 2 *ℤ w) ≤ℤ (pos 2 *ℤ (l *ℤ l))
  twice_le w h = nonneg (w ∷ l ∷ []) (nn 2 ⊠ le h) (search poly depth 30) tt

  minus_twice_le : (w : ℤ) → neg_ℤ w ≤ℤ (l *ℤ l) → neg_ℤ (pos 2 *ℤ w) ≤ℤ (pos 2 *ℤ (l *ℤ l))
  minus_twice_le w h = nonneg (w ∷ l ∷ []) (nn 2 ⊠ le h) (search poly depth 30) tt

  pub turned_weight : (s : Bool) (a b c : Point) → Box x0 y0 l a → Box x0 y0 l b → Box x0 y0 l c → (turned s (vanishing a b c)).e ≤ℤ (pos 2 *ℤ (l *ℤ l))
  turned_weight true a b c ha hb hc =
      minus_twice_le (turn a b c) (subst (λ (z : ℤ). z ≤ℤ (l *ℤ l)) (sym (back a b c)) (turn_bound a c b ha hc hb))
  turned_weight false a b c ha hb hc = twice_le (turn a b c) (turn_bound a b c ha hb hc)

  pub triple_weight : (a b c : Point) → Box x0 y0 l a → Box x0 y0 l b → Box x0 y0 l c → (triple_form a b c).e ≤ℤ (pos 2 *ℤ (l *ℤ l))
  triple_weight a b c ha hb hc = turned_weight (lt_z (vanishing a b c).e (pos 0)) a b c ha hb hc
