-- The disk through three points.
--
--   turn a b c           == twice the area of the triangle, with a sign
--   vanishing, triple_form   == the form that vanishes at three points; the same with its sign turned where E would be negative
--   vanishing_only          : every form that vanishes at the three is a multiple of `vanishing`
--   not_in_row           : three different points that some disk has on its boundary are not in a row
--   triple_through       : of three points not in a row `triple_form` is a disk through them
--   triple_strong        : so `triple_form` is strongly minimal for whatever such a disk holds
use mathlib.Core.Path.{◌≡◌, refl, sym, ◌∙◌, ap}
use mathlib.Core.Logic.{◌⊎◌, inl, inr, ◌≢◌}
use mathlib.Core.Bool.{Bool, true, false, not}
use mathlib.Core.List.Memᴰ
use mathlib.Core.List.{List, [], ◌∷◌}
use lib.IntN.{ℤ, pos, negsuc, neg_ℤ, ◌+ℤ◌, ◌-ℤ◌, ◌*ℤ◌}
use lib.Dec.{T}
use lib.Signed.{◌≤ℤ◌, ◌<ℤ◌, lt_z, lt_z_no}
use Rattle.integers.proofs.Laws.{eq_of_sub}
use Rattle.integers.proofs.Abs.{zero_product}
use Rattle.integers.proofs.Ring.{ring, poly, linear, eqn, ◌&◌}
use Rattle.integers.proofs.Order.{≤_of_eq, positive, lt, nn, <-≤_clash, Compared, less, same, more, compared, sum_squares_zero}
use Rattle.geometry.specs.declared.Point.{Point}
use Rattle.point_lists.specs.Sets.{Different}
use Rattle.point_lists.proofs.Sets.{none_of, also, point_path}
use Rattle.disks.specs.Procedure.{norm}
use Rattle.disks.proofs.Lifted.{Lifted, value}
use Rattle.disks.proofs.Minimal.{Feasible, StronglyMinimal}
use Rattle.disks.proofs.Base.{Multiple, multiple_value, multiple_no_gap, holds_by, positive_not_zero}

-- ---- the form

abbrev pub ux : Point → Point → ℤ
ux a b = b.x -ℤ a.x

abbrev pub uy : Point → Point → ℤ
uy a b = b.y -ℤ a.y

-- twice the area, with a sign
abbrev pub turn : Point → Point → Point → ℤ
turn a b c = (b.x -ℤ a.x) *ℤ (c.y -ℤ a.y) -ℤ (b.y -ℤ a.y) *ℤ (c.x -ℤ a.x)

-- relative to the first point, twice its turn away
abbrev pub gx : Point → Point → Point → ℤ
gx a b c = norm (ux a b) (uy a b) *ℤ uy a c -ℤ norm (ux a c) (uy a c) *ℤ uy a b

abbrev pub gy : Point → Point → Point → ℤ
gy a b c = norm (ux a c) (uy a c) *ℤ ux a b -ℤ norm (ux a b) (uy a b) *ℤ ux a c

-- the form that vanishes at the three: a disk if they turn left
abbrev pub vanishing : Point → Point → Point → Lifted
vanishing a b c = record {
  e = pos 2 *ℤ turn a b c;
  cx = a.x *ℤ (pos 2 *ℤ turn a b c) +ℤ gx a b c;
  cy = a.y *ℤ (pos 2 *ℤ turn a b c) +ℤ gy a b c;
  k = (pos 2 *ℤ turn a b c) *ℤ norm a.x a.y +ℤ pos 2 *ℤ (gx a b c *ℤ a.x +ℤ gy a b c *ℤ a.y);
}

vanishing_a : (a b c : Point) → value (vanishing a b c) a ≡ pos 0
vanishing_a a b c = ring (a.x ∷ a.y ∷ b.x ∷ b.y ∷ c.x ∷ c.y ∷ []) (search poly depth 30) tt

vanishing_b : (a b c : Point) → value (vanishing a b c) b ≡ pos 0
vanishing_b a b c = ring (a.x ∷ a.y ∷ b.x ∷ b.y ∷ c.x ∷ c.y ∷ []) (search poly depth 30) tt

vanishing_c : (a b c : Point) → value (vanishing a b c) c ≡ pos 0
vanishing_c a b c = ring (a.x ∷ a.y ∷ b.x ∷ b.y ∷ c.x ∷ c.y ∷ []) (search poly depth 30) tt

-- ---- every form that vanishes at the three is a multiple

module _ (a b c : Point) (G : Lifted) (ha : value G a ≡ pos 0) (hb : value G b ≡ pos 0) (hc : value G c ≡ pos 0) where
  only_x : (vanishing a b c).e *ℤ G.cx ≡ G.e *ℤ (vanishing a b c).cx
  only_x = linear (a.x ∷ a.y ∷ b.x ∷ b.y ∷ c.x ∷ c.y ∷ G.e ∷ G.cx ∷ G.cy ∷ G.k ∷ [])
      (eqn (uy a c -ℤ uy a b) ha & eqn (neg_ℤ (uy a c)) hb & eqn (uy a b) hc) (search poly depth 30) tt

  only_y : (vanishing a b c).e *ℤ G.cy ≡ G.e *ℤ (vanishing a b c).cy
  only_y = linear (a.x ∷ a.y ∷ b.x ∷ b.y ∷ c.x ∷ c.y ∷ G.e ∷ G.cx ∷ G.cy ∷ G.k ∷ [])
      (eqn (ux a b -ℤ ux a c) ha & eqn (ux a c) hb & eqn (neg_ℤ (ux a b)) hc) (search poly depth 30) tt

-- where both vanish at a point, the centre decides
same_k_from : (F G : Lifted) (a : Point) → value F a ≡ pos 0 → value G a ≡ pos 0 → F.e *ℤ G.cx ≡ G.e *ℤ F.cx → F.e *ℤ G.cy ≡ G.e *ℤ F.cy
    → F.e *ℤ G.k ≡ G.e *ℤ F.k
same_k_from F G a hf hg hx hy = linear (F.e ∷ F.cx ∷ F.cy ∷ F.k ∷ G.e ∷ G.cx ∷ G.cy ∷ G.k ∷ a.x ∷ a.y ∷ [])
    (eqn F.e hg & eqn (neg_ℤ G.e) hf & eqn (pos 2 *ℤ a.x) hx & eqn (pos 2 *ℤ a.y) hy) (search poly depth 30) tt

pub vanishing_only : (a b c : Point) (G : Lifted) → value G a ≡ pos 0 → value G b ≡ pos 0 → value G c ≡ pos 0 → Multiple (vanishing a b c) G
vanishing_only a b c G ha hb hc = record {
  same_x = only_x a b c G ha hb hc;
  same_y = only_y a b c G ha hb hc;
  same_k = same_k_from (vanishing a b c) G a (vanishing_a a b c) ha (only_x a b c G ha hb hc) (only_y a b c G ha hb hc);
}

-- ---- the sign of E

abbrev pub turned : Bool → Lifted → Lifted
turned true F = record { e = neg_ℤ F.e; cx = neg_ℤ F.cx; cy = neg_ℤ F.cy; k = neg_ℤ F.k }
turned false F = F

abbrev pub triple_form : Point → Point → Point → Lifted
triple_form a b c = turned (lt_z (vanishing a b c).e (pos 0)) (vanishing a b c)

turned_value : (F : Lifted) (p : Point) → value (turned true F) p ≡ neg_ℤ (value F p)
turned_value F p = ring (F.e ∷ F.cx ∷ F.cy ∷ F.k ∷ p.x ∷ p.y ∷ []) (search poly depth 30) tt

turned_vanishes : (s : Bool) (F : Lifted) (p : Point) → value F p ≡ pos 0 → value (turned s F) p ≡ pos 0
turned_vanishes true F p h = turned_value F p ∙ ap neg_ℤ h
turned_vanishes false F p h = h

neg_both : (a b c d : ℤ) → a *ℤ b ≡ c *ℤ d → neg_ℤ a *ℤ b ≡ c *ℤ neg_ℤ d
neg_both a b c d h = linear (a ∷ b ∷ c ∷ d ∷ []) (eqn (negsuc 0) h) (search poly depth 30) tt

turned_multiple : (s : Bool) (F G : Lifted) → Multiple F G → Multiple (turned s F) G
turned_multiple true F G m = record {
  same_x = neg_both F.e G.cx G.e F.cx m.same_x;
  same_y = neg_both F.e G.cy G.e F.cy m.same_y;
  same_k = neg_both F.e G.k G.e F.k m.same_k;
}
turned_multiple false F G m = m

neg_positive : {a : ℤ} → a <ℤ pos 0 → pos 0 <ℤ neg_ℤ a
neg_positive {a} h = positive (a ∷ []) (lt h) (search poly depth 30) tt

turned_proper : (F : Lifted) → F.e ≢ pos 0 → pos 0 <ℤ (turned (lt_z F.e (pos 0)) F).e
turned_proper F n = go (lt_z F.e (pos 0)) (λ t. record { lt = t }) (λ t. lt_z_no t) (compared F.e (pos 0))
  where
    go : (s : Bool) → (T s → F.e <ℤ pos 0) → (T (not s) → pos 0 ≤ℤ F.e) → Compared F.e (pos 0) → pos 0 <ℤ (turned s F).e
    go true f g c = neg_positive (f tt)
    go false f g (less h) = <-≤_clash h (g tt)
    go false f g (same h) = absurd (n h)
    go false f g (more h) = h

-- ---- three different points that some disk has on its boundary are not in a row

row_product : (ux uy vx vy gx gy e : ℤ) → e *ℤ (ux *ℤ ux +ℤ uy *ℤ uy) ≡ pos 2 *ℤ (gx *ℤ ux +ℤ gy *ℤ uy)
    → e *ℤ (vx *ℤ vx +ℤ vy *ℤ vy) ≡ pos 2 *ℤ (gx *ℤ vx +ℤ gy *ℤ vy)
    → ux *ℤ vy -ℤ uy *ℤ vx ≡ pos 0 → e *ℤ ((vx *ℤ vx +ℤ vy *ℤ vy) *ℤ (ux *ℤ (ux -ℤ vx) +ℤ uy *ℤ (uy -ℤ vy))) ≡ pos 0
row_product ux uy vx vy gx gy e hu hv hw = linear (ux ∷ uy ∷ vx ∷ vy ∷ gx ∷ gy ∷ e ∷ [])
    (eqn (vx *ℤ vx +ℤ vy *ℤ vy) hu & eqn (neg_ℤ (ux *ℤ vx +ℤ uy *ℤ vy)) hv & eqn (pos 2 *ℤ (gx *ℤ vy -ℤ gy *ℤ vx)) hw) (search poly depth 30) tt

row-lengths : (ux uy vx vy : ℤ) → ux *ℤ (ux -ℤ vx) +ℤ uy *ℤ (uy -ℤ vy) ≡ pos 0 → ux *ℤ vy -ℤ uy *ℤ vx ≡ pos 0
    → (ux *ℤ ux +ℤ uy *ℤ uy) *ℤ ((ux -ℤ vx) *ℤ (ux -ℤ vx) +ℤ (uy -ℤ vy) *ℤ (uy -ℤ vy)) ≡ pos 0
row-lengths ux uy vx vy hd hw = linear (ux ∷ uy ∷ vx ∷ vy ∷ [])
    (eqn (ux *ℤ (ux -ℤ vx) +ℤ uy *ℤ (uy -ℤ vy)) hd & eqn (ux *ℤ vy -ℤ uy *ℤ vx) hw) (search poly depth 30) tt

-- on the boundary with a: a chord, and the centre seen from a
chord : (G : Lifted) (a b : Point) → value G a ≡ pos 0 → value G b ≡ pos 0
    → G.e *ℤ (ux a b *ℤ ux a b +ℤ uy a b *ℤ uy a b) ≡ pos 2 *ℤ ((G.cx -ℤ a.x *ℤ G.e) *ℤ ux a b +ℤ (G.cy -ℤ a.y *ℤ G.e) *ℤ uy a b)
chord G a b ha hb = linear (G.e ∷ G.cx ∷ G.cy ∷ G.k ∷ a.x ∷ a.y ∷ b.x ∷ b.y ∷ []) (eqn (pos 1) hb & eqn (negsuc 0) ha)
    (search poly depth 30) tt

no_length : (a b : Point) → (ux a b *ℤ ux a b +ℤ uy a b *ℤ uy a b) ≡ pos 0 → a ≡ b
no_length a b h = let z = sum_squares_zero (ux a b) (uy a b) h in point_path (sym (eq_of_sub b.x a.x z.0))
    (sym (eq_of_sub b.y a.y z.1))

between : (a b c : Point) → (ux a b -ℤ ux a c) *ℤ (ux a b -ℤ ux a c) +ℤ (uy a b -ℤ uy a c) *ℤ (uy a b -ℤ uy a c) ≡ ux b c *ℤ ux b c
    +ℤ uy b c *ℤ uy b c
between a b c = ring (a.x ∷ a.y ∷ b.x ∷ b.y ∷ c.x ∷ c.y ∷ []) (search poly depth 30) tt

pub not_in_row : {P : List Point} {a b c : Point} {G : Lifted} → Feasible P (a ∷ b ∷ c ∷ []) G → Different (a ∷ b ∷ c ∷ []) → turn a b c ≢ pos 0
not_in_row {P} {a} {b} {c} {G} f d w = lengths
    (zero_product G.e _ (row_product (ux a b) (uy a b) (ux a c) (uy a c) (G.cx -ℤ a.x *ℤ G.e) (G.cy -ℤ a.y *ℤ G.e) G.e (chord G a b ha hb)
    (chord G a c ha hc) w))
  where
    ha : value G a ≡ pos 0
    ha = f.on_boundary_is a (Memᴰ.head refl)

    hb : value G b ≡ pos 0
    hb = f.on_boundary_is b (Memᴰ.tail (Memᴰ.head refl))

    hc : value G c ≡ pos 0
    hc = f.on_boundary_is c (Memᴰ.tail (Memᴰ.tail (Memᴰ.head refl)))

    a≢b : a ≢ b
    a≢b e = d.0 (Memᴰ.head e)

    a≢c : a ≢ c
    a≢c e = d.0 (Memᴰ.tail (Memᴰ.head e))

    b≢c : b ≢ c
    b≢c e = d.1.0 (Memᴰ.head e)

    ends : (ux a b *ℤ ux a b +ℤ uy a b *ℤ uy a b ≡ pos 0) ⊎ ((ux a b -ℤ ux a c) *ℤ (ux a b -ℤ ux a c) +ℤ (uy a b -ℤ uy a c) *ℤ (uy a b -ℤ uy a c)
        ≡ pos 0) → ⊥
    ends (inl z) = a≢b (no_length a b z)
    ends (inr z) = b≢c (no_length b c (sym (between a b c) ∙ z))

    middle : (ux a c *ℤ ux a c +ℤ uy a c *ℤ uy a c ≡ pos 0) ⊎ (ux a b *ℤ (ux a b -ℤ ux a c) +ℤ uy a b *ℤ (uy a b -ℤ uy a c) ≡ pos 0) → ⊥
    middle (inl z) = a≢c (no_length a c z)
    middle (inr z) = ends (zero_product _ _ (row-lengths (ux a b) (uy a b) (ux a c) (uy a c) z w))

    lengths : (G.e ≡ pos 0) ⊎ ((ux a c *ℤ ux a c +ℤ uy a c *ℤ uy a c) *ℤ (ux a b *ℤ (ux a b -ℤ ux a c) +ℤ uy a b *ℤ (uy a b -ℤ uy a c)) ≡ pos 0) → ⊥
    lengths (inl z) = positive_not_zero f.proper z
    lengths (inr z) = middle (zero_product _ _ z)

-- ---- strongly minimal

turn_weight : (a b c : Point) → turn a b c ≢ pos 0 → (vanishing a b c).e ≢ pos 0
turn_weight a b c n z = go (zero_product (pos 2) (turn a b c) z)
  where
    go : (pos 2 ≡ pos 0) ⊎ (turn a b c ≡ pos 0) → ⊥
    go (inl t) = <-≤_clash {a = pos 0} {b = pos 2} (positive [] (nn 1) (search poly depth 30) tt) (≤_of_eq t)
    go (inr t) = n t

pub triple_through : (a b c : Point) → turn a b c ≢ pos 0 → Feasible [] (a ∷ b ∷ c ∷ []) (triple_form a b c)
triple_through a b c n = record {
  proper = turned_proper (vanishing a b c) (turn_weight a b c n);
  holds = none_of (λ p. value (triple_form a b c) p ≤ℤ pos 0);
  on_boundary_is = also On (turned_vanishes s (vanishing a b c) a (vanishing_a a b c))
      (also On (turned_vanishes s (vanishing a b c) b (vanishing_b a b c))
      (also On (turned_vanishes s (vanishing a b c) c (vanishing_c a b c)) (none_of On)));
}
  where
    s : Bool
    s = lt_z (vanishing a b c).e (pos 0)

    On : Point → Type 0
    On q = value (triple_form a b c) q ≡ pos 0

pub triple_strong : {P : List Point} {a b c : Point} {G : Lifted} → Feasible P (a ∷ b ∷ c ∷ []) G → Different (a ∷ b ∷ c ∷ [])
    → StronglyMinimal P (a ∷ b ∷ c ∷ []) (triple_form a b c)
triple_strong {P} {a} {b} {c} {G} f d = record {
  feasible = record {
    proper = through.proper;
    holds = λ p m. holds_by through.proper f.proper (multiple_value (only G f) p) (f.holds p m);
    on_boundary_is = through.on_boundary_is;
  };
  least = λ H h. ≤_of_eq (sym (multiple_no_gap through.proper (only H h)));
}
  where
    through : Feasible [] (a ∷ b ∷ c ∷ []) (triple_form a b c)
    through = triple_through a b c (not_in_row f d)

    only : (H : Lifted) → Feasible P (a ∷ b ∷ c ∷ []) H → Multiple (triple_form a b c) H
    only H h = turned_multiple (lt_z (vanishing a b c).e (pos 0)) (vanishing a b c) H
        (vanishing_only a b c H (h.on_boundary_is a (Memᴰ.head refl)) (h.on_boundary_is b (Memᴰ.tail (Memᴰ.head refl)))
        (h.on_boundary_is c (Memᴰ.tail (Memᴰ.tail (Memᴰ.head refl)))))
