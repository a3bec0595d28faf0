-- Feasible and strongly minimal disks, and the step of Welzl's induction (000, Lemma 1 (ii), in the strong form).
--
--   Feasible P R F         == F is a disk that holds each point of P and has each point of R on its boundary
--   StronglyMinimal P R F  == F is feasible, and gap F G is not negative for every feasible G: F is the smallest, and no other is
--   Below P R F            == what the step asks of the disk found so far; the empty disk has it too
--   strong_below, none_below    : a strongly minimal disk is below; the empty disk is
--   to_boundary                 : a point outside goes to the boundary: a disk feasible for (P, R + p)
--   step_strong            : the strongly minimal disk of (P, R + p) is that of (P + p, R), if p was outside
--   held                   : a point that is held changes nothing
--   strong_same, feasible_same  : all this depends on the members alone
use mathlib.Core.Path.{◌≡◌, refl, sym, ◌∙◌, ap, subst}
use mathlib.Core.List.Memᴰ
use mathlib.Core.List.{List, [], ◌∷◌}
use lib.IntN.{ℤ, pos, negsuc, neg_ℤ, ◌+ℤ◌, ◌*ℤ◌}
use lib.Signed.{◌≤ℤ◌, ◌<ℤ◌}
use Rattle.integers.proofs.Ring.{ring, poly}
use Rattle.integers.proofs.Order.{≤_of_eq, ≤_of_<, nonneg, positive, nonneg_by, le, lt, eq, sq, nn, ◌⊞◌, ◌⊠◌}
use Rattle.geometry.specs.declared.Point.{Point}
use Rattle.point_lists.specs.Sets.{In, Same}
use Rattle.point_lists.proofs.Sets.{none_of, also, same_sym}
use Rattle.disks.proofs.Lifted.{Lifted, value, gap, combine, no_disk, apart_x, apart_y, value_combine, gap_combine, gap_both, gap_none}

pub record Feasible (P R : List Point) (F : Lifted) : Type 0 where
  pub proper : pos 0 <ℤ F.e
  pub holds : (p : Point) → In p P → value F p ≤ℤ pos 0
  pub on_boundary_is : (q : Point) → In q R → value F q ≡ pos 0

pub record StronglyMinimal (P R : List Point) (F : Lifted) : Type 0 where
  pub feasible : Feasible P R F
  pub least : (G : Lifted) → Feasible P R G → pos 0 ≤ℤ gap F G

pub record Below (P R : List Point) (F : Lifted) : Type 0 where
  pub weight : pos 0 ≤ℤ F.e
  pub holds : (p : Point) → In p P → value F p ≤ℤ pos 0
  pub on_boundary_is : (q : Point) → In q R → value F q ≡ pos 0
  pub under : (G : Lifted) → Feasible P R G → gap G F ≤ℤ pos 0

-- ---- the members

pub feasible_same : {P Q R : List Point} {F : Lifted} → Same P Q → Feasible P R F → Feasible Q R F
feasible_same s f = record { proper = f.proper; holds = λ p m. f.holds p (s.from p m); on_boundary_is = f.on_boundary_is }

pub strong_same : {P Q R : List Point} {F : Lifted} → Same P Q → StronglyMinimal P R F → StronglyMinimal Q R F
strong_same s h = record { feasible = feasible_same s h.feasible; least = λ G f. h.least G (feasible_same (same_sym s) f) }

-- ---- what the step asks

under_from : (e f a b s t : ℤ) → f *ℤ a +ℤ e *ℤ b ≡ neg_ℤ (pos 2 *ℤ (s *ℤ s +ℤ t *ℤ t)) → pos 0 <ℤ e → pos 0 <ℤ f → pos 0 ≤ℤ a → b ≤ℤ pos 0
under_from e f a b s t q he hf ha = nonneg_by (e ∷ f ∷ a ∷ b ∷ s ∷ t ∷ []) e he (le (≤_of_< hf) ⊠ ha ⊞ nn 2 ⊠ (sq s ⊞ sq t) ⊞ eq (negsuc 0) q)
    (search poly depth 30) tt

pub strong_below : {P R : List Point} {F : Lifted} → StronglyMinimal P R F → Below P R F
strong_below {P} {R} {F} h = record {
  weight = ≤_of_< h.feasible.proper;
  holds = h.feasible.holds;
  on_boundary_is = h.feasible.on_boundary_is;
  under = λ G f. under_from F.e G.e (gap F G) (gap G F) (apart_x F G) (apart_y F G) (gap_both F G) h.feasible.proper f.proper
      (h.least G f);
}

pub none_below : Below [] [] no_disk
none_below = record {
  weight = nn 0;
  holds = none_of (λ p. value no_disk p ≤ℤ pos 0);
  on_boundary_is = none_of (λ p. value no_disk p ≡ pos 0);
  under = λ G f. subst (λ (z : ℤ). z ≤ℤ pos 0) (sym (gap_none G)) (minus_square G.e);
}
  where
    minus_square : (a : ℤ) → neg_ℤ (a *ℤ a) ≤ℤ pos 0
    minus_square a = nonneg (a ∷ []) (sq a) (search poly depth 30) tt

-- ---- a point outside goes to the boundary

combine_proper : (b e a f : ℤ) → b ≤ℤ pos 0 → pos 0 ≤ℤ e → pos 0 <ℤ a → pos 0 <ℤ f → pos 0 <ℤ (neg_ℤ b *ℤ e +ℤ a *ℤ f)
combine_proper b e a f hb he ha hf = positive (b ∷ e ∷ a ∷ f ∷ []) (le hb ⊠ he ⊞ lt ha ⊠ lt hf ⊞ lt ha ⊞ lt hf) (search poly depth 30) tt

combine_holds : (b v a w : ℤ) → b ≤ℤ pos 0 → v ≤ℤ pos 0 → pos 0 <ℤ a → w ≤ℤ pos 0 → (neg_ℤ b *ℤ v +ℤ a *ℤ w) ≤ℤ pos 0
combine_holds b v a w hb hv ha hw = nonneg (b ∷ v ∷ a ∷ w ∷ []) (le hb ⊠ le hv ⊞ le (≤_of_< ha) ⊠ le hw) (search poly depth 30) tt

combine_boundary : (b v a w : ℤ) → v ≡ pos 0 → w ≡ pos 0 → neg_ℤ b *ℤ v +ℤ a *ℤ w ≡ pos 0
combine_boundary b v a w hv hw = ap (λ (z : ℤ). neg_ℤ b *ℤ z +ℤ a *ℤ w) hv ∙ ap (λ (z : ℤ). neg_ℤ b *ℤ pos 0 +ℤ a *ℤ z) hw
    ∙ ring (b ∷ a ∷ []) (search poly depth 30) tt

combine_own : (a w : ℤ) → neg_ℤ w *ℤ a +ℤ a *ℤ w ≡ pos 0
combine_own a w = ring (a ∷ w ∷ []) (search poly depth 30) tt

combine_least : (b g a h : ℤ) → b ≤ℤ pos 0 → g ≤ℤ pos 0 → pos 0 <ℤ a → pos 0 ≤ℤ (neg_ℤ b *ℤ g +ℤ a *ℤ h) → pos 0 ≤ℤ h
combine_least b g a h hb hg ha s = nonneg_by (b ∷ g ∷ a ∷ h ∷ []) a ha (s ⊞ le hb ⊠ le hg) (search poly depth 30) tt

-- Welzl's D_λ: through p, between a disk that p is outside of and one that holds p
abbrev pub through_point : Lifted → Point → Lifted → Lifted
through_point F p G = combine (neg_ℤ (value G p)) F (value F p) G

pub to_boundary : {P R : List Point} {F G : Lifted} {p : Point} → Below P R F → pos 0 <ℤ value F p → Feasible (p ∷ P) R G
    → Feasible P (p ∷ R) (through_point F p G)
to_boundary {P} {R} {F} {G} {p} h out f = record {
  proper = combine_proper (value G p) F.e (value F p) G.e held h.weight out f.proper;
  holds = λ q m. subst (λ (z : ℤ). z ≤ℤ pos 0) (sym (value_combine (neg_ℤ (value G p)) F (value F p) G q))
      (combine_holds (value G p) (value F q) (value F p) (value G q) held (h.holds q m) out (f.holds q (Memᴰ.tail m)));
  on_boundary_is = λ q m. value_combine (neg_ℤ (value G p)) F (value F p) G q ∙ on q m;
}
  where
    held : value G p ≤ℤ pos 0
    held = f.holds p (Memᴰ.head refl)

    on : (q : Point) → In q (p ∷ R) → neg_ℤ (value G p) *ℤ value F q +ℤ value F p *ℤ value G q ≡ pos 0
    on = also (λ q. neg_ℤ (value G p) *ℤ value F q +ℤ value F p *ℤ value G q ≡ pos 0) (combine_own (value F p) (value G p))
        (λ q m. combine_boundary (value G p) (value F q) (value F p) (value G q) (h.on_boundary_is q m) (f.on_boundary_is q m))

off_boundary : {P R : List Point} {F : Lifted} {p : Point} → Feasible P (p ∷ R) F → Feasible P R F
off_boundary f = record { proper = f.proper; holds = f.holds; on_boundary_is = λ q m. f.on_boundary_is q (Memᴰ.tail m) }

fewer : {P R : List Point} {F : Lifted} {p : Point} → Feasible (p ∷ P) R F → Feasible P R F
fewer f = record { proper = f.proper; holds = λ q m. f.holds q (Memᴰ.tail m); on_boundary_is = f.on_boundary_is }

pub one_more : {P R : List Point} {F : Lifted} {p : Point} → Feasible P R F → value F p ≤ℤ pos 0 → Feasible (p ∷ P) R F
one_more {F} f h = record { proper = f.proper; holds = also (λ q. value F q ≤ℤ pos 0) h f.holds; on_boundary_is = f.on_boundary_is }

pub step_strong : {P R : List Point} {F F1 : Lifted} {p : Point} → Below P R F → pos 0 <ℤ value F p → StronglyMinimal P (p ∷ R) F1
    → StronglyMinimal (p ∷ P) R F1
step_strong {P} {R} {F} {F1} {p} h out s = record {
  feasible = one_more (off_boundary s.feasible) (≤_of_eq (s.feasible.on_boundary_is p (Memᴰ.head refl)));
  least = λ G f. combine_least (value G p) (gap F1 F) (value F p) (gap F1 G) (f.holds p (Memᴰ.head refl))
      (h.under F1 (off_boundary s.feasible)) out
      (subst (λ (z : ℤ). pos 0 ≤ℤ z) (gap_combine F1 (neg_ℤ (value G p)) F (value F p) G) (s.least (through_point F p G) (to_boundary h out f)));
}

-- ---- a point that is held changes nothing

pub held : {P R : List Point} {F : Lifted} {p : Point} → StronglyMinimal P R F → value F p ≤ℤ pos 0 → StronglyMinimal (p ∷ P) R F
held s h = record { feasible = one_more s.feasible h; least = λ G f. s.least G (fewer f) }
