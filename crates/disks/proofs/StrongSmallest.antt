-- A strongly minimal disk, written in lowest terms, is the smallest of specs/.
--
--   lift c             == a rational disk, lifted: (e²b, xeb, yeb, (x² + y²)b − ae²)
--   lift_feasible      : a rational disk that fits (P, R) is feasible when lifted
--   written_holds, holds-value, written_on : value F p decides `holds` and `on_boundary` of F written in lowest terms
--   lifted_least, lifted_only : a strongly minimal disk against a rational disk that fits, in the numbers of the lifted disk
--   strong_smallest    : strongly minimal for (P, R) and written as d: SmallestWith P R d
use mathlib.Core.Path.{◌≡◌, sym, ◌∙◌, subst, subst₂}
use mathlib.Core.List.{List, [], ◌∷◌}
use Prim.Native.Nat.{ℕ, ◌*◌, ◌≤◌}
use lib.Dec.{T}
use lib.IntN.{ℤ, pos, negsuc, neg_ℤ, ◌+ℤ◌, ◌-ℤ◌, ◌*ℤ◌}
use lib.Signed.{◌≤ℤ◌, ◌<ℤ◌}
use Rattle.integers.proofs.Laws.{eq_of_sub}
use Rattle.integers.proofs.Ring.{ring, poly, linear, eqn, ◌&◌}
use Rattle.integers.proofs.Order.{≤_of_<, ≤_antisym, <_to_≤, ≤_to_<, pos_le, le_pos, nonneg, nonneg_by, le, eq, sq, ◌⊞◌, ◌⊠◌, *-pos, <_cancel}
use Rattle.integers.proofs.Order.{sum_squares_zero, ≡_cancel}
use Rattle.geometry.specs.declared.Point.{Point}
use Rattle.geometry.specs.Plane.{Disk, distance, holds, on_boundary}
use Rattle.disks.specs.Smallest.{RationalDisk, far, reach, Fits, SmallestWith}
use Rattle.disks.proofs.Lifted.{Lifted, value, squared_radius, gap}
use Rattle.disks.proofs.Minimal.{Feasible, StronglyMinimal}
use Rattle.disks.proofs.Base.{positive_not_zero}
use Rattle.disks.proofs.LowestTerms.{Written, written_value, square_factor}

-- ---- a rational disk, lifted

abbrev lift_of : ℤ → ℤ → ℤ → ℤ → ℤ → Lifted
lift_of X Y E A B = record { e = (E *ℤ E) *ℤ B; cx = (X *ℤ E) *ℤ B; cy = (Y *ℤ E) *ℤ B; k = (X *ℤ X +ℤ Y *ℤ Y) *ℤ B -ℤ A *ℤ (E *ℤ E) }

abbrev pub lift : RationalDisk → Lifted
lift c = lift_of c.x c.y (pos c.e) c.a (pos c.b)

lift_value : (X Y E A B : ℤ) (p : Point) → value (lift_of X Y E A B) p
    ≡ B *ℤ ((p.x *ℤ E -ℤ X) *ℤ (p.x *ℤ E -ℤ X) +ℤ (p.y *ℤ E -ℤ Y) *ℤ (p.y *ℤ E -ℤ Y)) -ℤ A *ℤ (E *ℤ E)
lift_value X Y E A B p = ring (X ∷ Y ∷ E ∷ A ∷ B ∷ p.x ∷ p.y ∷ []) (search poly depth 30) tt

lift_gap : (F : Lifted) (X Y E A B : ℤ) → gap F (lift_of X Y E A B)
    ≡ (E *ℤ E) *ℤ (A *ℤ (F.e *ℤ F.e) -ℤ squared_radius F *ℤ B)
    -ℤ B *ℤ ((F.cx *ℤ E -ℤ X *ℤ F.e) *ℤ (F.cx *ℤ E -ℤ X *ℤ F.e) +ℤ (F.cy *ℤ E -ℤ Y *ℤ F.e) *ℤ (F.cy *ℤ E -ℤ Y *ℤ F.e))
lift_gap F X Y E A B = ring (F.e ∷ F.cx ∷ F.cy ∷ F.k ∷ X ∷ Y ∷ E ∷ A ∷ B ∷ []) (search poly depth 30) tt

below-zero : (a b : ℤ) → a ≤ℤ b → (a -ℤ b) ≤ℤ pos 0
below-zero a b h = nonneg (a ∷ b ∷ []) (le h) (search poly depth 30) tt

at_zero : (a b : ℤ) → a ≡ b → a -ℤ b ≡ pos 0
at_zero a b h = linear (a ∷ b ∷ []) (eqn (pos 1) h) (search poly depth 30) tt

pub some_positive : {n : ℕ} → 1 ≤ n → pos 0 <ℤ pos n
some_positive h = ≤_to_< (pos_le h)

pub lift_feasible : {P R : List Point} {c : RationalDisk} → Fits c P R → Feasible P R (lift c)
lift_feasible {P} {R} {c} f = record {
  proper = *-pos (*-pos (some_positive c.e_some) (some_positive c.e_some)) (some_positive c.b_some);
  holds = λ p m. subst (λ (z : ℤ). z ≤ℤ pos 0) (sym (lift_value c.x c.y (pos c.e) c.a (pos c.b) p))
      (below-zero (far c p) (reach c) (f.holds_all p m));
  on_boundary_is = λ q m. lift_value c.x c.y (pos c.e) c.a (pos c.b) q ∙ at_zero (far c q) (reach c) (f.through_all q m);
}

-- ---- value, and the tests of specs/

held_by : (E v n d s : ℤ) → E *ℤ v ≡ n *ℤ (d -ℤ s) → pos 0 <ℤ E → pos 0 <ℤ n → v ≤ℤ pos 0 → d ≤ℤ s
held_by E v n d s q h_e hn h = nonneg_by (E ∷ v ∷ n ∷ d ∷ s ∷ []) n hn (le (≤_of_< h_e) ⊠ le h ⊞ eq (pos 1) q) (search poly depth 30) tt

on_by : (E v n d s : ℤ) → E *ℤ v ≡ n *ℤ (d -ℤ s) → pos 0 <ℤ n → v ≡ pos 0 → d ≡ s
on_by E v n d s q hn h = ≡_cancel (positive_not_zero hn) (linear (E ∷ v ∷ n ∷ d ∷ s ∷ []) (eqn (negsuc 0) q & eqn E h) (search poly depth 30) tt)

module _ {F : Lifted} {d : Disk} (proper : pos 0 <ℤ F.e) (w : Written F d) where
  abbrev n : ℤ
  n = pos w.g *ℤ pos w.g

  pub written_holds : (p : Point) → value F p ≤ℤ pos 0 → T (holds d p)
  unfolding holds
  written_holds p h = (held_by F.e (value F p) n (distance d p) (pos d.s) (written_value w p) proper (square_factor w) h).le

  pub written_on : (p : Point) → value F p ≡ pos 0 → on_boundary d p
  written_on p h = on_by F.e (value F p) n (distance d p) (pos d.s) (written_value w p) (square_factor w) h

  pub written_some : 1 ≤ d.e
  written_some = le_pos (<_to_≤ {a = pos 0} {b = pos d.e} (<_cancel {k = pos w.g} {a = pos 0} {b = pos d.e} (some_positive w.g_some)
      (subst₂ ◌<ℤ◌ (sym (none (pos w.g))) w.e_is proper)))
    where
      none : (g : ℤ) → g *ℤ pos 0 ≡ pos 0
      none g = ring (g ∷ []) (search poly depth 30) tt

-- ---- smallest

-- from the gap g, where it is not negative
radius_least : (g E B a s u v : ℤ) → g ≡ (E *ℤ E) *ℤ (a -ℤ s) -ℤ B *ℤ (u *ℤ u +ℤ v *ℤ v) → pos 0 <ℤ E → pos 0 <ℤ B → pos 0 ≤ℤ g → s ≤ℤ a
radius_least g E B a s u v q h_e h_b h = nonneg_by (g ∷ E ∷ B ∷ a ∷ s ∷ u ∷ v ∷ []) (E *ℤ E) (*-pos h_e h_e)
    (h ⊞ le (≤_of_< h_b) ⊠ (sq u ⊞ sq v) ⊞ eq (negsuc 0) q) (search poly depth 30) tt

centre_only : (g E B a s u v : ℤ) → g ≡ (E *ℤ E) *ℤ (a -ℤ s) -ℤ B *ℤ (u *ℤ u +ℤ v *ℤ v) → pos 0 <ℤ B → pos 0 ≤ℤ g → s ≡ a → u *ℤ u +ℤ v *ℤ v ≡ pos 0
centre_only g E B a s u v q h_b h e = ≤_antisym (nonneg_by (g ∷ E ∷ B ∷ a ∷ s ∷ u ∷ v ∷ []) B h_b (h ⊞ eq (negsuc 0) q ⊞ eq (E *ℤ E) e)
    (search poly depth 30) tt) (sq u ⊞ sq v)

-- divided by g²
radius_divided : (g E S e s A B : ℤ) → pos 0 <ℤ (g *ℤ g) → E ≡ g *ℤ e → S ≡ (g *ℤ g) *ℤ s → (S *ℤ B) ≤ℤ (A *ℤ (E *ℤ E)) → (s *ℤ B) ≤ℤ (A *ℤ (e *ℤ e))
radius_divided g E S e s A B hg he hs h = nonneg_by (g ∷ E ∷ S ∷ e ∷ s ∷ A ∷ B ∷ []) (g *ℤ g) hg (le h ⊞ eq B hs ⊞ eq (neg_ℤ (A *ℤ (E +ℤ g *ℤ e))) he)
    (search poly depth 30) tt

radius_times : (g E S e s A B : ℤ) → E ≡ g *ℤ e → S ≡ (g *ℤ g) *ℤ s → s *ℤ B ≡ A *ℤ (e *ℤ e) → S *ℤ B ≡ A *ℤ (E *ℤ E)
radius_times g E S e s A B he hs h = linear (g ∷ E ∷ S ∷ e ∷ s ∷ A ∷ B ∷ []) (eqn (g *ℤ g) h & eqn B hs & eqn (neg_ℤ (A *ℤ (E +ℤ g *ℤ e))) he)
    (search poly depth 30) tt

centre_divided : (g X E x e z f : ℤ) → pos 0 <ℤ g → X ≡ g *ℤ x → E ≡ g *ℤ e → X *ℤ f ≡ z *ℤ E → x *ℤ f ≡ z *ℤ e
centre_divided g X E x e z f hg hx he h = ≡_cancel (positive_not_zero hg)
    (linear (g ∷ X ∷ E ∷ x ∷ e ∷ z ∷ f ∷ []) (eqn (pos 1) h & eqn (neg_ℤ f) hx & eqn z he) (search poly depth 30) tt)

module _ {P R : List Point} {F : Lifted} (m : StronglyMinimal P R F) (c : RationalDisk) (f : Fits c P R) where
  abbrev across : ℤ
  across = F.cx *ℤ pos c.e -ℤ c.x *ℤ F.e

  abbrev along : ℤ
  along = F.cy *ℤ pos c.e -ℤ c.y *ℤ F.e

  gap_is : gap F (lift c) ≡ (pos c.e *ℤ pos c.e) *ℤ (c.a *ℤ (F.e *ℤ F.e) -ℤ squared_radius F *ℤ pos c.b)
      -ℤ pos c.b *ℤ (across *ℤ across +ℤ along *ℤ along)
  gap_is = lift_gap F c.x c.y (pos c.e) c.a (pos c.b)

  gap-least : pos 0 ≤ℤ gap F (lift c)
  gap-least = m.least (lift c) (lift_feasible f)

  pub lifted_least : (squared_radius F *ℤ pos c.b) ≤ℤ (c.a *ℤ (F.e *ℤ F.e))
  lifted_least = radius_least (gap F (lift c)) (pos c.e) (pos c.b) (c.a *ℤ (F.e *ℤ F.e)) (squared_radius F *ℤ pos c.b) across along gap_is
      (some_positive c.e_some) (some_positive c.b_some) gap-least

  pub lifted_only : squared_radius F *ℤ pos c.b ≡ c.a *ℤ (F.e *ℤ F.e)
      → (F.cx *ℤ pos c.e ≡ c.x *ℤ F.e) × (F.cy *ℤ pos c.e ≡ c.y *ℤ F.e)
  lifted_only e = (eq_of_sub (F.cx *ℤ pos c.e) (c.x *ℤ F.e) zero.0, eq_of_sub (F.cy *ℤ pos c.e) (c.y *ℤ F.e) zero.1)
    where
      zero : (across ≡ pos 0) × (along ≡ pos 0)
      zero = sum_squares_zero across along (centre_only (gap F (lift c)) (pos c.e) (pos c.b) (c.a *ℤ (F.e *ℤ F.e))
          (squared_radius F *ℤ pos c.b) across along gap_is (some_positive c.b_some) gap-least e)

module _ {P R : List Point} {F : Lifted} {d : Disk} (m : StronglyMinimal P R F) (w : Written F d) (c : RationalDisk) (f : Fits c P R) where
  abbrev g : ℤ
  g = pos w.g

  least : pos (d.s * c.b) ≤ℤ (c.a *ℤ pos (d.e * d.e))
  least = radius_divided g F.e (squared_radius F) (pos d.e) (pos d.s) c.a (pos c.b) (square_factor w) w.e_is w.s_is
      (lifted_least m c f)

  only : pos (d.s * c.b) ≡ c.a *ℤ pos (d.e * d.e) → (d.x *ℤ pos c.e ≡ c.x *ℤ pos d.e) × (d.y *ℤ pos c.e ≡ c.y *ℤ pos d.e)
  only e = (
    centre_divided g F.cx F.e d.x (pos d.e) c.x (pos c.e) (some_positive w.g_some) w.x_is w.e_is centre.0,
    centre_divided g F.cy F.e d.y (pos d.e) c.y (pos c.e) (some_positive w.g_some) w.y_is w.e_is centre.1,
  )
    where
      centre : (F.cx *ℤ pos c.e ≡ c.x *ℤ F.e) × (F.cy *ℤ pos c.e ≡ c.y *ℤ F.e)
      centre = lifted_only m c f (radius_times g F.e (squared_radius F) (pos d.e) (pos d.s) c.a (pos c.b) w.e_is w.s_is e)

pub strong_smallest : {P R : List Point} {F : Lifted} {d : Disk} → StronglyMinimal P R F → Written F d → SmallestWith P R d
strong_smallest {P} {R} {F} {d} m w = record {
  proper = written_some m.feasible.proper w;
  lowest = w.reduced;
  holds_all = λ p i. written_holds m.feasible.proper w p (m.feasible.holds p i);
  through_all = λ q i. written_on m.feasible.proper w q (m.feasible.on_boundary_is q i);
  least = λ c f. least m w c f;
  only = λ c f e. only m w c f e;
}
