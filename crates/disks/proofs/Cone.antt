-- The planar lemma about arms of one length > 0 from one centre (000, Lemma 1 (iii)).
--
--   Cone f ps       == two of the points, l and r, whose arms bound a cone narrower than a half turn that has all arms; f gives a point's arm,
--                      and f l + f r has a positive product with every arm
--   Placed f ps     == two arms are opposite; or the centre is strictly inside the triangle of three; or all lie in a cone
--   placed          : one of the three holds for every list of points, not empty, whose arms have one length > 0
use mathlib.Core.Path.{◌≡◌, refl, sym, ◌∙◌, ap₂, subst}
use mathlib.Core.Logic.{◌⊎◌, inl, inr}
use mathlib.Core.List.Memᴰ
use mathlib.Core.List.{List, [], ◌∷◌}
use lib.IntN.{ℤ, pos, negsuc, neg_ℤ, ◌+ℤ◌, ◌*ℤ◌}
use lib.Signed.{◌≤ℤ◌, ◌<ℤ◌}
use Rattle.integers.proofs.Laws.{+_comm}
use Rattle.integers.proofs.Ring.{poly}
use Rattle.integers.proofs.Order.{≤_of_eq, ≤_of_<, ≤-or-<, positive, clash, le, lt, eq, nn, ◌⊞◌, ◌⊠◌, <-≤_clash, Compared, less, same, more, compared}
use Rattle.geometry.specs.declared.Point.{Point}
use Rattle.point_lists.specs.Sets.{In}
use Rattle.point_lists.proofs.Sets.{also}
use Rattle.disks.proofs.Arms.{dot, cross, Opposite, cone_product, exchange_l, exchange_r, back_r, back_l, dot_comm, cross_self, parallel}
use Rattle.disks.proofs.Arms.{sign_between, sign_front, wide_arms, both_zero, flip}

no_turn : {X : Type 0} (w m u p v q : ℤ) → w *ℤ m ≡ u *ℤ p +ℤ v *ℤ q → pos 0 ≡ w → u <ℤ pos 0 → pos 0 <ℤ p → v <ℤ pos 0 → pos 0 <ℤ q → X
no_turn w m u p v q e z hu hp hv hq = clash (w ∷ m ∷ u ∷ p ∷ v ∷ q ∷ []) (lt hu ⊠ lt hp ⊞ lt hu ⊞ lt hp ⊞ le (≤_of_< hv) ⊠ le (≤_of_< hq)
    ⊞ eq (negsuc 0) e ⊞ eq (neg_ℤ m) z) (search poly depth 30) tt

module _ (f : Point → Point) where
  pub record Cone (ps : List Point) : Type 0 where
    pub l : Point
    pub r : Point
    pub l_in : In l ps
    pub r_in : In r ps
    pub left : (p : Point) → In p ps → pos 0 ≤ℤ cross (f p) (f l)
    pub right : (p : Point) → In p ps → pos 0 ≤ℤ cross (f r) (f p)
    pub front : (p : Point) → In p ps → pos 0 <ℤ (dot (f l) (f p) +ℤ dot (f r) (f p))

  pub data Placed (ps : List Point) : Type 0 where
    opposite : (a b : Point) → In a ps → In b ps → Opposite (f a) (f b) → Placed ps
    around : (a b c : Point) → In a ps → In b ps → In c ps → pos 0 <ℤ cross (f a) (f b) → pos 0 <ℤ cross (f b) (f c) → pos 0 <ℤ cross (f c) (f a)
        → Placed ps
    cone : Cone ps → Placed ps

  module _ (s : ℤ) (positive_length : pos 0 <ℤ s) where
    single : (c : Point) → dot (f c) (f c) ≡ s → Cone (c ∷ [])
    single c hc = record {
      l = c;
      r = c;
      l_in = Memᴰ.head refl;
      r_in = Memᴰ.head refl;
      left = also (λ p. pos 0 ≤ℤ cross (f p) (f c)) (≤_of_eq (sym (cross_self (f c)))) (λ p m. absurd (Memᴰ.not-nil m));
      right = also (λ p. pos 0 ≤ℤ cross (f c) (f p)) (≤_of_eq (sym (cross_self (f c)))) (λ p m. absurd (Memᴰ.not-nil m));
      front = also (λ p. pos 0 <ℤ (dot (f c) (f p) +ℤ dot (f c) (f p))) (twice (dot (f c) (f c)) hc) (λ p m. absurd (Memᴰ.not-nil m));
    }
      where
        twice : (d : ℤ) → d ≡ s → pos 0 <ℤ (d +ℤ d)
        twice d e = positive (d ∷ s ∷ []) (nn 2 ⊠ lt positive_length ⊞ nn 1 ⊞ eq (pos 2) e) (search poly depth 30) tt

    module _ (c : Point) (ps : List Point) (hc : dot (f c) (f c) ≡ s) (norms : (p : Point) → In p ps → dot (f p) (f p) ≡ s) (k : Cone ps) where
      abbrev vl : Point
      vl = f k.l

      abbrev vr : Point
      vr = f k.r

      ml : pos 0 <ℤ (dot vl vl +ℤ dot vr vl)
      ml = k.front k.l k.l_in

      mr : pos 0 <ℤ (dot vl vr +ℤ dot vr vr)
      mr = k.front k.r k.r_in

      turn_nn : pos 0 ≤ℤ cross vr vl
      turn_nn = k.right k.l k.l_in

      norm_l : dot vl vl ≡ s
      norm_l = norms k.l k.l_in

      norm_r : dot vr vr ≡ s
      norm_r = norms k.r k.r_in

      -- neither right of r nor left of l: inside, or opposite
      inside : pos 0 ≤ℤ cross vr (f c) → pos 0 ≤ℤ cross (f c) vl → Placed (c ∷ ps)
      inside ha hb = go (≤-or-< (dot vl (f c) +ℤ dot vr (f c)) (pos 0))
        where
          end : (dot vl (f c) +ℤ dot vr (f c)) ≤ℤ pos 0 → (vr ≡ f c) ⊎ Opposite vr (f c) → Placed (c ∷ ps)
          end h (inl e) = <-≤_clash mr (subst (λ (v : Point). (dot vl v +ℤ dot vr v) ≤ℤ pos 0) (sym e) h)
          end h (inr o) = opposite k.r c (Memᴰ.tail k.r_in) (Memᴰ.head refl) o

          go : ((dot vl (f c) +ℤ dot vr (f c)) ≤ℤ pos 0) ⊎ (pos 0 <ℤ (dot vl (f c) +ℤ dot vr (f c))) → Placed (c ∷ ps)
          go (inl h) = end h (parallel vr (f c) s (both_zero (cross vr vl) (dot vl (f c) +ℤ dot vr (f c)) (cross (f c) vl) (dot vl vr +ℤ dot vr vr)
              (cross vr (f c)) (dot vl vl +ℤ dot vr vl)
              (cone_product vl vr (f c)) turn_nn h hb mr ha ml) norm_r hc)
          go (inr h) = cone (record {
            l = k.l;
            r = k.r;
            l_in = Memᴰ.tail k.l_in;
            r_in = Memᴰ.tail k.r_in;
            left = also (λ p. pos 0 ≤ℤ cross (f p) vl) hb k.left;
            right = also (λ p. pos 0 ≤ℤ cross vr (f p)) ha k.right;
            front = also (λ p. pos 0 <ℤ (dot vl (f p) +ℤ dot vr (f p))) h k.front;
          })

      -- left of l, and strictly left of r: the cone of c and r
      wider_left : pos 0 <ℤ cross vr (f c) → pos 0 <ℤ cross vl (f c) → Cone (c ∷ ps)
      wider_left ha hb = record {
        l = c;
        r = k.r;
        l_in = Memᴰ.head refl;
        r_in = Memᴰ.tail k.r_in;
        left = also (λ p. pos 0 ≤ℤ cross (f p) (f c)) (≤_of_eq (sym (cross_self (f c)))) (λ p m. ≤_of_< (turn p m));
        right = also (λ p. pos 0 ≤ℤ cross vr (f p)) (≤_of_< ha) k.right;
        front = also (λ p. pos 0 <ℤ (dot (f c) (f p) +ℤ dot vr (f p))) at_c
            (λ p m. sign_front (cross vr (f c)) (dot (f c) (f p) +ℤ dot vr (f p)) (cross (f p) (f c)) (dot (f c) vr +ℤ dot vr vr) (cross vr (f p))
            (dot (f c) (f c) +ℤ dot vr (f c))
            (cone_product (f c) vr (f p)) (≤_of_< ha) (turn p m) at_r (k.right p m) at_c);
      }
        where
          turn : (p : Point) → In p ps → pos 0 <ℤ cross (f p) (f c)
          turn p m = sign_between (cross (f p) (f c)) (dot vl vl +ℤ dot vr vl) (dot vl vr +ℤ dot vr vr) (dot vl (f p) +ℤ dot vr (f p))
              (dot vl (f c) +ℤ dot vr (f c)) (cross (f p) vl) (cross vl (f c)) (cross vr (f c)) (cross vr (f p))
              (exchange_l vl vr (f p) (f c)) (exchange_r vl vr (f p) (f c)) (k.left p m) hb ha (k.right p m) ml mr (k.front p m)

          less_than_half : pos 0 <ℤ (s +ℤ dot vr (f c))
          less_than_half = wide_arms vr (f c) s norm_r hc ha positive_length

          at_c : pos 0 <ℤ (dot (f c) (f c) +ℤ dot vr (f c))
          at_c = subst (λ (z : ℤ). pos 0 <ℤ (z +ℤ dot vr (f c))) (sym hc) less_than_half

          at_r : pos 0 <ℤ (dot (f c) vr +ℤ dot vr vr)
          at_r = subst (λ (z : ℤ). pos 0 <ℤ z) (+_comm s (dot vr (f c)) ∙ ap₂ ◌+ℤ◌ (dot_comm vr (f c)) (sym norm_r)) less_than_half

      -- right of r, and strictly right of l: the cone of l and c
      wider_right : pos 0 <ℤ cross (f c) vl → pos 0 <ℤ cross (f c) vr → Cone (c ∷ ps)
      wider_right hb ha = record {
        l = k.l;
        r = c;
        l_in = Memᴰ.tail k.l_in;
        r_in = Memᴰ.head refl;
        left = also (λ p. pos 0 ≤ℤ cross (f p) vl) (≤_of_< hb) k.left;
        right = also (λ p. pos 0 ≤ℤ cross (f c) (f p)) (≤_of_eq (sym (cross_self (f c)))) (λ p m. ≤_of_< (turn p m));
        front = also (λ p. pos 0 <ℤ (dot vl (f p) +ℤ dot (f c) (f p))) at_c
            (λ p m. sign_front (cross (f c) vl) (dot vl (f p) +ℤ dot (f c) (f p)) (cross (f c) (f p)) (dot vl vl +ℤ dot (f c) vl) (cross (f p) vl)
            (dot vl (f c) +ℤ dot (f c) (f c))
            (cone_product vl (f c) (f p) ∙ +_comm (cross (f p) vl *ℤ (dot vl (f c) +ℤ dot (f c) (f c)))
            (cross (f c) (f p) *ℤ (dot vl vl +ℤ dot (f c) vl))) (≤_of_< hb) (turn p m) at_l (k.left p m) at_c);
      }
        where
          turn : (p : Point) → In p ps → pos 0 <ℤ cross (f c) (f p)
          turn p m = sign_between (cross (f c) (f p)) (dot vl vr +ℤ dot vr vr) (dot vl vl +ℤ dot vr vl) (dot vl (f p) +ℤ dot vr (f p))
              (dot vl (f c) +ℤ dot vr (f c)) (cross vr (f p)) (cross (f c) vr) (cross (f c) vl) (cross (f p) vl)
              (back_r vl vr (f p) (f c)) (back_l vl vr (f p) (f c)) (k.right p m) ha hb (k.left p m) mr ml (k.front p m)

          less_than_half : pos 0 <ℤ (s +ℤ dot (f c) vl)
          less_than_half = wide_arms (f c) vl s hc norm_l hb positive_length

          at_l : pos 0 <ℤ (dot vl vl +ℤ dot (f c) vl)
          at_l = subst (λ (z : ℤ). pos 0 <ℤ (z +ℤ dot (f c) vl)) (sym norm_l) less_than_half

          at_c : pos 0 <ℤ (dot vl (f c) +ℤ dot (f c) (f c))
          at_c = subst (λ (z : ℤ). pos 0 <ℤ z) (+_comm s (dot (f c) vl) ∙ ap₂ ◌+ℤ◌ (dot_comm (f c) vl) (sym hc)) less_than_half

      left_of_l : pos 0 ≤ℤ cross vr (f c) → cross (f c) vl <ℤ pos 0 → Placed (c ∷ ps)
      left_of_l ha hb = go (compared (pos 0) (cross vr (f c)))
        where
          end : (vr ≡ f c) ⊎ Opposite vr (f c) → Placed (c ∷ ps)
          end (inl e) = <-≤_clash hb (subst (λ (v : Point). pos 0 ≤ℤ cross v vl) e turn_nn)
          end (inr o) = opposite k.r c (Memᴰ.tail k.r_in) (Memᴰ.head refl) o

          go : Compared (pos 0) (cross vr (f c)) → Placed (c ∷ ps)
          go (less h) = cone (wider_left h (flip (f c) vl hb))
          go (same z) = end (parallel vr (f c) s (sym z) norm_r hc)
          go (more h) = <-≤_clash h ha

      right_of_r : cross vr (f c) <ℤ pos 0 → pos 0 ≤ℤ cross (f c) vl → Placed (c ∷ ps)
      right_of_r ha hb = go (compared (pos 0) (cross (f c) vl))
        where
          end : (f c ≡ vl) ⊎ Opposite (f c) vl → Placed (c ∷ ps)
          end (inl e) = <-≤_clash ha (subst (λ (v : Point). pos 0 ≤ℤ cross vr v) (sym e) turn_nn)
          end (inr o) = opposite c k.l (Memᴰ.head refl) (Memᴰ.tail k.l_in) o

          go : Compared (pos 0) (cross (f c) vl) → Placed (c ∷ ps)
          go (less h) = cone (wider_right h (flip vr (f c) ha))
          go (same z) = end (parallel (f c) vl s (sym z) hc norm_l)
          go (more h) = <-≤_clash h hb

      -- right of r and left of l: behind both
      behind : cross vr (f c) <ℤ pos 0 → cross (f c) vl <ℤ pos 0 → Placed (c ∷ ps)
      behind ha hb = go (compared (pos 0) (cross vr vl))
        where
          go : Compared (pos 0) (cross vr vl) → Placed (c ∷ ps)
          go (less h) = around k.r k.l c (Memᴰ.tail k.r_in) (Memᴰ.tail k.l_in) (Memᴰ.head refl) h (flip (f c) vl hb)
              (flip vr (f c) ha)
          go (same z) = no_turn (cross vr vl) (dot vl (f c) +ℤ dot vr (f c)) (cross (f c) vl) (dot vl vr +ℤ dot vr vr) (cross vr (f c))
              (dot vl vl +ℤ dot vr vl) (cone_product vl vr (f c)) z hb mr ha ml
          go (more h) = <-≤_clash h turn_nn

      one_more_arm : Placed (c ∷ ps)
      one_more_arm = go (≤-or-< (pos 0) (cross vr (f c))) (≤-or-< (pos 0) (cross (f c) vl))
        where
          go : (pos 0 ≤ℤ cross vr (f c)) ⊎ (cross vr (f c) <ℤ pos 0) → (pos 0 ≤ℤ cross (f c) vl) ⊎ (cross (f c) vl <ℤ pos 0) → Placed (c ∷ ps)
          go (inl ha) (inl hb) = inside ha hb
          go (inl ha) (inr hb) = left_of_l ha hb
          go (inr ha) (inl hb) = right_of_r ha hb
          go (inr ha) (inr hb) = behind ha hb

    pub placed : (c : Point) (ps : List Point) → ((p : Point) → In p (c ∷ ps) → dot (f p) (f p) ≡ s) → Placed (c ∷ ps)
    placed c [] h = cone (single c (h c (Memᴰ.head refl)))
    placed c (d ∷ ps) h = go (placed d ps (λ p m. h p (Memᴰ.tail m)))
      where
        go : Placed (d ∷ ps) → Placed (c ∷ d ∷ ps)
        go (opposite a b ma mb o) = opposite a b (Memᴰ.tail ma) (Memᴰ.tail mb) o
        go (around a b e ma mb me h1 h2 h3) = around a b e (Memᴰ.tail ma) (Memᴰ.tail mb) (Memᴰ.tail me) h1 h2 h3
        go (cone k) = one_more_arm c (d ∷ ps) (h c (Memᴰ.head refl)) (λ p m. h p (Memᴰ.tail m)) k
