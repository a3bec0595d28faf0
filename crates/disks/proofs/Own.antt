-- When a set of points has a given disk as its own smallest disk.
--
--   multiple_from_same  : two disks with the same centre and squared radius are multiples
--   written_multiple    : so are two with the same writing
--   smallest_strong     : a smallest disk in the words of specs/, lifted, is strongly minimal: the converse of `strong_smallest`
--   one_test, two_test  : of points on the boundary, one is a support set where and only where it is the centre, two where the centre is midway
use mathlib.Core.Path.{◌≡◌, refl, sym, subst}
use mathlib.Core.Logic.{◌↔◌}
use mathlib.Core.List.Memᴰ
use mathlib.Core.List.{List, [], ◌∷◌}
use lib.IntN.{ℤ, pos, negsuc, neg_ℤ, ◌+ℤ◌, ◌-ℤ◌, ◌*ℤ◌}
use lib.Signed.{◌≤ℤ◌, ◌<ℤ◌}
use Rattle.integers.proofs.Ring.{poly, linear, eqn, ◌&◌}
use Rattle.integers.proofs.Order.{≡_cancel, ≤_of_eq, nonneg, le}
use Rattle.geometry.specs.declared.Point.{Point}
use Rattle.geometry.specs.Plane.{Disk}
use Rattle.point_lists.proofs.Sets.{none_of, also, same_refl}
use Rattle.disks.specs.Smallest.{Smallest}
use Rattle.disks.proofs.Lifted.{Lifted, value, squared_radius}
use Rattle.disks.proofs.Minimal.{StronglyMinimal}
use Rattle.disks.proofs.Base.{Multiple, point_form, point_value, point_gap, positive_not_zero, positive_one}
use Rattle.disks.proofs.AboutCentre.{one_strong, two_strong}
use Rattle.disks.proofs.Unique.{strong_unique, strong_multiple}
use Rattle.disks.proofs.Acute.{pair_own}
use Rattle.disks.proofs.LiftedProcedure.{lifted_mtf}
use Rattle.disks.proofs.Correct.{mtf_strong}
use Rattle.disks.proofs.LowestTerms.{lowered, Written}
use Rattle.disks.proofs.StrongSmallest.{strong_smallest}
use Rattle.disks.proofs.OneWriting.{smallest_same}
use Rattle.disks.proofs.Bridge.{strong_written}

-- ---- the same disk

pub multiple_from_same : (F G : Lifted) → pos 0 <ℤ F.e → pos 0 <ℤ G.e → F.cx *ℤ G.e ≡ G.cx *ℤ F.e → F.cy *ℤ G.e ≡ G.cy *ℤ F.e
    → squared_radius F *ℤ (G.e *ℤ G.e) ≡ squared_radius G *ℤ (F.e *ℤ F.e) → Multiple F G
multiple_from_same F G hf hg hx hy hs = record {
  same_x = linear (F.e ∷ F.cx ∷ G.e ∷ G.cx ∷ []) (eqn (negsuc 0) hx) (search poly depth 30) tt;
  same_y = linear (F.e ∷ F.cy ∷ G.e ∷ G.cy ∷ []) (eqn (negsuc 0) hy) (search poly depth 30) tt;
  same_k = ≡_cancel (positive_not_zero hg) (≡_cancel (positive_not_zero hf) (linear (F.e ∷ F.cx ∷ F.cy ∷ F.k ∷ G.e ∷ G.cx ∷ G.cy ∷ G.k ∷ [])
      (eqn (pos 1) hs & eqn (neg_ℤ (F.cx *ℤ G.e +ℤ G.cx *ℤ F.e)) hx & eqn (neg_ℤ (F.cy *ℤ G.e +ℤ G.cy *ℤ F.e)) hy) (search poly depth 30) tt));
}

-- two disks with one writing
pub written_multiple : {F G : Lifted} {d : Disk} → pos 0 <ℤ F.e → pos 0 <ℤ G.e → Written F d → Written G d → Multiple F G
written_multiple {F} {G} {d} hf hg v w = multiple_from_same F G hf hg (centre F.cx G.cx d.x v.x_is w.x_is)
    (centre F.cy G.cy d.y v.y_is w.y_is)
    (radius (squared_radius F) (squared_radius G) F.e G.e (pos v.g) (pos w.g) (pos d.e) (pos d.s) v.s_is w.s_is v.e_is
    w.e_is)
  where
    crossed : (X Z E H f g x e : ℤ) → X ≡ f *ℤ x → Z ≡ g *ℤ x → E ≡ f *ℤ e → H ≡ g *ℤ e → X *ℤ H ≡ Z *ℤ E
    crossed X Z E H f g x e hx hz he hh = linear (X ∷ Z ∷ E ∷ H ∷ f ∷ g ∷ x ∷ e ∷ [])
        (eqn H hx & eqn (neg_ℤ E) hz & eqn (f *ℤ x) hh & eqn (neg_ℤ (g *ℤ x)) he) (search poly depth 30) tt

    centre : (X Z x : ℤ) → X ≡ pos v.g *ℤ x → Z ≡ pos w.g *ℤ x → X *ℤ G.e ≡ Z *ℤ F.e
    centre X Z x hx hz = crossed X Z F.e G.e (pos v.g) (pos w.g) x (pos d.e) hx hz v.e_is w.e_is

    radius : (S Z E H f g e s : ℤ) → S ≡ (f *ℤ f) *ℤ s → Z ≡ (g *ℤ g) *ℤ s → E ≡ f *ℤ e → H ≡ g *ℤ e → S *ℤ (H *ℤ H) ≡ Z *ℤ (E *ℤ E)
    radius S Z E H f g e s hs hz he hh = linear (S ∷ Z ∷ E ∷ H ∷ f ∷ g ∷ e ∷ s ∷ [])
        (eqn (H *ℤ H) hs & eqn (neg_ℤ (E *ℤ E)) hz & eqn (((f *ℤ f) *ℤ s) *ℤ (H +ℤ g *ℤ e)) hh & eqn (neg_ℤ (((g *ℤ g) *ℤ s) *ℤ (E +ℤ f *ℤ e))) he)
        (search poly depth 30) tt

pub smallest_strong : {q : Point} {Q : List Point} {d : Disk} (F : Lifted) → pos 0 <ℤ F.e → Written F d → Smallest (q ∷ Q) d
    → StronglyMinimal (q ∷ Q) [] F
smallest_strong {q} {Q} {d} F hf w m = strong_multiple strong hf
    (written_multiple strong.feasible.proper hf (subst (Written G) (sym same) (strong_written strong)) w)
  where
    G : Lifted
    G = (lifted_mtf (q ∷ Q)).disk

    strong : StronglyMinimal (q ∷ Q) [] G
    strong = mtf_strong q Q

    same : d ≡ lowered G
    same = smallest_same (same_refl (q ∷ Q)) (same_refl []) m (strong_smallest strong (strong_written strong))

-- ---- one point

pub point_own : (a : Point) → StronglyMinimal (a ∷ []) [] (point_form a)
point_own a = record {
  feasible = record {
    proper = positive_one;
    holds = also Held (≤_of_eq (point_value a)) (none_of Held);
    on_boundary_is = none_of
        (λ p. value (point_form a) p ≡ pos 0);
  };
  least = λ G f. subst (λ (z : ℤ). pos 0 ≤ℤ z) (sym (point_gap a G)) (minus (value G a) (f.holds a (Memᴰ.head refl)));
}
  where
    Held : Point → Type 0
    Held p = value (point_form a) p ≤ℤ pos 0

    minus : (v : ℤ) → v ≤ℤ pos 0 → pos 0 ≤ℤ neg_ℤ v
    minus v h = nonneg (v ∷ []) (le h) (search poly depth 30) tt

module _ (F : Lifted) (proper : pos 0 <ℤ F.e) where
  pub one_test : (a : Point) → value F a ≡ pos 0 → StronglyMinimal (a ∷ []) [] F ↔ ((a.x *ℤ F.e ≡ F.cx) × (a.y *ℤ F.e ≡ F.cy))
  one_test a ha = (
    λ m. let u = strong_unique m (point_own a) in (
      centre a.x F.cx F.e u.same_x,
      centre a.y F.cy F.e
          u.same_y,
    ),
    λ h. one_strong F proper a ha (none a.x F.cx F.e h.0) (none a.y F.cy F.e h.1),
  )
    where
      centre : (p c e : ℤ) → e *ℤ p ≡ pos 1 *ℤ c → p *ℤ e ≡ c
      centre p c e h = linear (p ∷ c ∷ e ∷ []) (eqn (pos 1) h) (search poly depth 30) tt

      none : (p c e : ℤ) → p *ℤ e ≡ c → e *ℤ p -ℤ c ≡ pos 0
      none p c e h = linear (p ∷ c ∷ e ∷ []) (eqn (pos 1) h) (search poly depth 30) tt

  pub two_test : (a b : Point) → value F a ≡ pos 0 → value F b ≡ pos 0
      → StronglyMinimal (a ∷ b ∷ []) [] F ↔ (((a.x +ℤ b.x) *ℤ F.e ≡ pos 2 *ℤ F.cx) × ((a.y +ℤ b.y) *ℤ F.e ≡ pos 2 *ℤ F.cy))
  two_test a b ha hb = (
    λ m. let u = strong_unique m (pair_own a b) in (midway a.x b.x F.cx F.e u.same_x, midway a.y b.y F.cy F.e u.same_y),
    λ h. two_strong F proper a b ha hb (opposite a.x b.x F.cx F.e h.0, opposite a.y b.y F.cy F.e h.1),
  )
    where
      midway : (p q c e : ℤ) → e *ℤ (p +ℤ q) ≡ pos 2 *ℤ c → (p +ℤ q) *ℤ e ≡ pos 2 *ℤ c
      midway p q c e h = linear (p ∷ q ∷ c ∷ e ∷ []) (eqn (pos 1) h) (search poly depth 30) tt

      opposite : (p q c e : ℤ) → (p +ℤ q) *ℤ e ≡ pos 2 *ℤ c → (e *ℤ p -ℤ c) +ℤ (e *ℤ q -ℤ c) ≡ pos 0
      opposite p q c e h = linear (p ∷ q ∷ c ∷ e ∷ []) (eqn (pos 1) h) (search poly depth 30) tt
