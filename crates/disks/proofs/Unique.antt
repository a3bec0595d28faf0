-- Strongly minimal disks are unique, and depend on the boundary points alone.
--
--   strong_unique     : two strongly minimal disks of (P, R) are multiples of one another
--   strong_multiple   : a multiple of a strongly minimal disk is one
--   leave_out         : a point strictly inside may be left out, with no point fixed
use mathlib.Core.Path.{◌≡◌, sym, ◌∙◌, ap, subst}
use mathlib.Core.List.Memᴰ
use mathlib.Core.List.{List, [], ◌∷◌}
use lib.IntN.{ℤ, pos, negsuc, neg_ℤ, ◌+ℤ◌, ◌-ℤ◌, ◌*ℤ◌}
use lib.Signed.{◌≤ℤ◌, ◌<ℤ◌}
use Rattle.integers.proofs.Laws.{eq_of_sub}
use Rattle.integers.proofs.Ring.{ring, poly, linear, eqn, ◌&◌}
use Rattle.integers.proofs.Order.{≤_of_<, ≤_antisym, nonneg, positive, nonneg_by, le, lt, eq, sq, nn, ◌⊞◌, ◌⊠◌, sum_squares_zero, ≡_cancel}
use Rattle.geometry.specs.declared.Point.{Point}
use Rattle.point_lists.proofs.Sets.{also}
use Rattle.disks.proofs.Lifted.{Lifted, value, gap, combine, apart_x, apart_y, gap_both, gap_self, value_combine, gap_combine}
use Rattle.disks.proofs.Minimal.{Feasible, StronglyMinimal}
use Rattle.disks.proofs.Base.{Multiple, multiple_value, holds_by, positive_not_zero, positive_two}

-- ---- unique

centres_meet : (e f a b s t : ℤ) → f *ℤ a +ℤ e *ℤ b ≡ neg_ℤ (pos 2 *ℤ (s *ℤ s +ℤ t *ℤ t)) → pos 0 <ℤ e → pos 0 <ℤ f → pos 0 ≤ℤ a → pos 0 ≤ℤ b
    → s *ℤ s +ℤ t *ℤ t ≡ pos 0
centres_meet e f a b s t q he hf ha hb = ≤_antisym
    (nonneg_by (e ∷ f ∷ a ∷ b ∷ s ∷ t ∷ []) (pos 2) positive_two (le (≤_of_< hf) ⊠ ha ⊞ le (≤_of_< he) ⊠ hb ⊞ eq (negsuc 0) q)
    (search poly depth 30) tt) (sq s ⊞ sq t)

gap_none_left : (e f a b s t : ℤ) → f *ℤ a +ℤ e *ℤ b ≡ neg_ℤ (pos 2 *ℤ (s *ℤ s +ℤ t *ℤ t)) → pos 0 <ℤ e → pos 0 <ℤ f → pos 0 ≤ℤ a → pos 0 ≤ℤ b
    → a ≡ pos 0
gap_none_left e f a b s t q he hf ha hb = ≤_antisym
    (nonneg_by (e ∷ f ∷ a ∷ b ∷ s ∷ t ∷ []) f hf (le (≤_of_< he) ⊠ hb ⊞ nn 2 ⊠ (sq s ⊞ sq t) ⊞ eq (negsuc 0) q) (search poly depth 30) tt) ha

same_k_from-gap : (F G : Lifted) → gap F G ≡ pos 0 → F.e *ℤ G.cx ≡ G.e *ℤ F.cx → F.e *ℤ G.cy ≡ G.e *ℤ F.cy
    → F.e *ℤ (F.e *ℤ G.k) ≡ F.e *ℤ (G.e *ℤ F.k)
same_k_from-gap F G h hx hy = linear (F.e ∷ F.cx ∷ F.cy ∷ F.k ∷ G.e ∷ G.cx ∷ G.cy ∷ G.k ∷ [])
    (eqn (negsuc 0) h & eqn (pos 2 *ℤ F.cx) hx & eqn (pos 2 *ℤ F.cy) hy) (search poly depth 30) tt

pub strong_unique : {P R : List Point} {F G : Lifted} → StronglyMinimal P R F → StronglyMinimal P R G → Multiple F G
strong_unique {P} {R} {F} {G} m n = record {
  same_x = same_x;
  same_y = same_y;
  same_k = ≡_cancel (positive_not_zero m.feasible.proper)
      (same_k_from-gap F G no_gap same_x same_y);
}
  where
    meet : apart_x F G *ℤ apart_x F G +ℤ apart_y F G *ℤ apart_y F G ≡ pos 0
    meet = centres_meet F.e G.e (gap F G) (gap G F) (apart_x F G) (apart_y F G) (gap_both F G) m.feasible.proper n.feasible.proper
        (m.least G n.feasible) (n.least F m.feasible)

    no_gap : gap F G ≡ pos 0
    no_gap = gap_none_left F.e G.e (gap F G) (gap G F) (apart_x F G) (apart_y F G) (gap_both F G) m.feasible.proper n.feasible.proper
        (m.least G n.feasible) (n.least F m.feasible)

    same_x : F.e *ℤ G.cx ≡ G.e *ℤ F.cx
    same_x = sym (eq_of_sub (G.e *ℤ F.cx) (F.e *ℤ G.cx) (sum_squares_zero (apart_x F G) (apart_y F G) meet).0)

    same_y : F.e *ℤ G.cy ≡ G.e *ℤ F.cy
    same_y = sym (eq_of_sub (G.e *ℤ F.cy) (F.e *ℤ G.cy) (sum_squares_zero (apart_x F G) (apart_y F G) meet).1)

-- ---- a multiple of a strongly minimal disk

pub multiple_sym : {F G : Lifted} → Multiple F G → Multiple G F
multiple_sym m = record { same_x = sym m.same_x; same_y = sym m.same_y; same_k = sym m.same_k }

-- the gap to a third form, in the square of the one E and of the other
multiple_gaps : (F G H : Lifted) → Multiple F G → (F.e *ℤ F.e) *ℤ gap G H ≡ (G.e *ℤ G.e) *ℤ gap F H
multiple_gaps F G H m = linear (F.e ∷ F.cx ∷ F.cy ∷ F.k ∷ G.e ∷ G.cx ∷ G.cy ∷ G.k ∷ H.e ∷ H.cx ∷ H.cy ∷ H.k ∷ [])
    (eqn ((F.e *ℤ G.e) *ℤ (pos 2 *ℤ H.cx) -ℤ H.e *ℤ (pos 2 *ℤ (F.e *ℤ G.cx +ℤ G.e *ℤ F.cx))) m.same_x
    & eqn ((F.e *ℤ G.e) *ℤ (pos 2 *ℤ H.cy) -ℤ H.e *ℤ (pos 2 *ℤ (F.e *ℤ G.cy +ℤ G.e *ℤ F.cy))) m.same_y
    & eqn (H.e *ℤ (F.e *ℤ G.e)) m.same_k) (search poly depth 30) tt

least_by : (a b g h : ℤ) → a *ℤ g ≡ b *ℤ h → pos 0 <ℤ a → pos 0 <ℤ b → pos 0 ≤ℤ h → pos 0 ≤ℤ g
least_by a b g h q ha hb k = nonneg_by (a ∷ b ∷ g ∷ h ∷ []) a ha (le (≤_of_< hb) ⊠ k ⊞ eq (pos 1) q) (search poly depth 30) tt

pub square_positive : {a : ℤ} → pos 0 <ℤ a → pos 0 <ℤ (a *ℤ a)
square_positive {a} h = positive (a ∷ []) (lt h ⊠ lt h ⊞ nn 2 ⊠ lt h) (search poly depth 30) tt

value_none_by : (e f v w : ℤ) → e *ℤ w ≡ f *ℤ v → pos 0 <ℤ e → v ≡ pos 0 → w ≡ pos 0
value_none_by e f v w q he h = ≡_cancel (positive_not_zero he) (linear (e ∷ f ∷ v ∷ w ∷ []) (eqn (pos 1) q & eqn f h) (search poly depth 30) tt)

pub strong_multiple : {P R : List Point} {F G : Lifted} → StronglyMinimal P R F → pos 0 <ℤ G.e → Multiple F G → StronglyMinimal P R G
strong_multiple {P} {R} {F} {G} m hg u = record {
  feasible = record {
    proper = hg;
    holds = λ p i. holds_by hg m.feasible.proper (multiple_value (multiple_sym u) p) (m.feasible.holds p i);
    on_boundary_is = λ q i. value_none_by F.e G.e (value F q) (value G q) (multiple_value u q) m.feasible.proper (m.feasible.on_boundary_is q i);
  };
  least = λ H f. least_by (F.e *ℤ F.e) (G.e *ℤ G.e) (gap G H) (gap F H) (multiple_gaps F G H u) (square_positive m.feasible.proper)
      (square_positive hg) (m.least H f);
}

-- ---- a point strictly inside may be left out

push_weight : (e f t : ℤ) → pos 0 <ℤ e → pos 0 <ℤ f → pos 0 <ℤ ((t *ℤ t +ℤ pos 1) *ℤ e +ℤ pos 1 *ℤ f)
push_weight e f t he hf = positive (e ∷ f ∷ t ∷ []) (sq t ⊠ le (≤_of_< he) ⊞ le (≤_of_< he) ⊞ lt hf) (search poly depth 30) tt

push-holds : (v w t : ℤ) → v ≤ℤ pos 0 → w ≤ℤ pos 0 → ((t *ℤ t +ℤ pos 1) *ℤ v +ℤ pos 1 *ℤ w) ≤ℤ pos 0
push-holds v w t hv hw = nonneg (v ∷ w ∷ t ∷ []) ((sq t ⊞ nn 1) ⊠ le hv ⊞ le hw) (search poly depth 30) tt

push-inner : (v t : ℤ) → v <ℤ pos 0 → ((t *ℤ t +ℤ pos 1) *ℤ v +ℤ pos 1 *ℤ t) ≤ℤ pos 0
push-inner v t hv = nonneg_by (v ∷ t ∷ []) (pos 2) positive_two (nn 2 ⊠ ((sq t ⊞ nn 1) ⊠ lt hv) ⊞ sq (t -ℤ pos 1) ⊞ sq t ⊞ nn 1)
    (search poly depth 30) tt

pub leave_out : {P : List Point} {F : Lifted} {p : Point} → StronglyMinimal (p ∷ P) [] F → value F p <ℤ pos 0 → StronglyMinimal P [] F
leave_out {P} {F} {p} m h = record {
  feasible = record { proper = m.feasible.proper; holds = λ q i. m.feasible.holds q (Memᴰ.tail i); on_boundary_is = m.feasible.on_boundary_is };
  least = λ G f. subst (λ (z : ℤ). pos 0 ≤ℤ z) (gap_combine F (n G) F (pos 1) G ∙ ap (λ (z : ℤ). n G *ℤ z +ℤ pos 1 *ℤ gap F G) (gap_self F)
      ∙ only (n G) (gap F G)) (m.least (combine (n G) F (pos 1) G) (pushed G f));
}
  where
    n : Lifted → ℤ
    n G = value G p *ℤ value G p +ℤ pos 1

    only : (k g : ℤ) → k *ℤ pos 0 +ℤ pos 1 *ℤ g ≡ g
    only k g = ring (k ∷ g ∷ []) (search poly depth 30) tt

    Held : Lifted → Point → Type 0
    Held G q = value (combine (n G) F (pos 1) G) q ≤ℤ pos 0

    pushed : (G : Lifted) → Feasible P [] G → Feasible (p ∷ P) [] (combine (n G) F (pos 1) G)
    pushed G f = record {
      proper = push_weight F.e G.e (value G p) m.feasible.proper f.proper;
      holds = also (Held G) (subst (λ (z : ℤ). z ≤ℤ pos 0) (sym (value_combine (n G) F (pos 1) G p)) (push-inner (value F p) (value G p) h))
          (λ q i. subst (λ (z : ℤ). z ≤ℤ pos 0) (sym (value_combine (n G) F (pos 1) G q))
          (push-holds (value F q) (value G q) (value G p) (m.feasible.holds q (Memᴰ.tail i)) (f.holds q i)));
      on_boundary_is = λ q i. absurd (Memᴰ.not-nil i);
    }
