-- The smallest disk with one or two given points on its boundary, and multiples of a form.
--
--   point_form, pair_form    == the point itself; the disk over a diameter
--   Multiple F G           == G is F times a factor: the same disk
--   point_strong, pair_strong        : the two disks are strongly minimal, with no further points
--   multiple_value, holds_by         : a multiple of a disk holds the same points
--   multiple_no_gap                  : and has no gap to it
use mathlib.Core.Path.{◌≡◌, refl, sym, ◌∙◌, ap, ap₂}
use mathlib.Core.Logic.{◌≢◌}
use mathlib.Core.List.Memᴰ
use mathlib.Core.List.{[], ◌∷◌}
use lib.IntN.{ℤ, pos, neg_ℤ, ◌+ℤ◌, ◌*ℤ◌}
use lib.Signed.{◌≤ℤ◌, ◌<ℤ◌}
use Rattle.integers.proofs.Ring.{ring, poly, linear, eqn, ◌&◌}
use Rattle.integers.proofs.Order.{≤_of_eq, ≤_of_<, positive, nonneg_by, le, eq, nn, ◌⊞◌, ◌⊠◌, <-≤_clash, ≡_cancel}
use Rattle.geometry.specs.declared.Point.{Point}
use Rattle.point_lists.proofs.Sets.{none_of, also}
use Rattle.disks.proofs.Lifted.{Lifted, value, gap}
use Rattle.disks.proofs.Minimal.{StronglyMinimal}

-- ---- one point

abbrev pub point_form : Point → Lifted
point_form q = record { e = pos 1; cx = q.x; cy = q.y; k = q.x *ℤ q.x +ℤ q.y *ℤ q.y }

pub point_value : (q : Point) → value (point_form q) q ≡ pos 0
point_value q = ring (q.x ∷ q.y ∷ []) (search poly depth 30) tt

pub point_gap : (q : Point) (G : Lifted) → gap (point_form q) G ≡ neg_ℤ (value G q)
point_gap q G = ring (q.x ∷ q.y ∷ G.e ∷ G.cx ∷ G.cy ∷ G.k ∷ []) (search poly depth 30) tt

pub positive_one : pos 0 <ℤ pos 1
positive_one = positive [] (nn 0) (search poly depth 30) tt

pub point_strong : (q : Point) → StronglyMinimal [] (q ∷ []) (point_form q)
point_strong q = record {
  feasible = record { proper = positive_one; holds = none_of (λ p. value (point_form q) p ≤ℤ pos 0); on_boundary_is = also On (point_value q) (none_of On) };
  least = λ G f. ≤_of_eq (sym (point_gap q G ∙ ap neg_ℤ (f.on_boundary_is q (Memᴰ.head refl))));
}
  where
    On : Point → Type 0
    On p = value (point_form q) p ≡ pos 0

-- ---- two points

abbrev pub pair_form : Point → Point → Lifted
pair_form q r = record { e = pos 2; cx = q.x +ℤ r.x; cy = q.y +ℤ r.y; k = pos 2 *ℤ (q.x *ℤ r.x +ℤ q.y *ℤ r.y) }

pub pair_first : (q r : Point) → value (pair_form q r) q ≡ pos 0
pair_first q r = ring (q.x ∷ q.y ∷ r.x ∷ r.y ∷ []) (search poly depth 30) tt

pub pair_second : (q r : Point) → value (pair_form q r) r ≡ pos 0
pair_second q r = ring (q.x ∷ q.y ∷ r.x ∷ r.y ∷ []) (search poly depth 30) tt

pub pair-gap : (q r : Point) (G : Lifted) → gap (pair_form q r) G ≡ neg_ℤ (pos 2 *ℤ value G q +ℤ pos 2 *ℤ value G r)
pair-gap q r G = ring (q.x ∷ q.y ∷ r.x ∷ r.y ∷ G.e ∷ G.cx ∷ G.cy ∷ G.k ∷ []) (search poly depth 30) tt

pub positive_two : pos 0 <ℤ pos 2
positive_two = positive [] (nn 1) (search poly depth 30) tt

twice_none : {v w : ℤ} → v ≡ pos 0 → w ≡ pos 0 → neg_ℤ (pos 2 *ℤ v +ℤ pos 2 *ℤ w) ≡ pos 0
twice_none p q = ap₂ (λ (v w : ℤ). neg_ℤ (pos 2 *ℤ v +ℤ pos 2 *ℤ w)) p q

pub pair_strong : (q r : Point) → StronglyMinimal [] (q ∷ r ∷ []) (pair_form q r)
pair_strong q r = record {
  feasible = record {
    proper = positive_two;
    holds = none_of (λ p. value (pair_form q r) p ≤ℤ pos 0);
    on_boundary_is = also On (pair_first q r)
        (also On (pair_second q r) (none_of On));
  };
  least = λ G f. ≤_of_eq (sym (pair-gap q r G ∙ twice_none (f.on_boundary_is q (Memᴰ.head refl))
      (f.on_boundary_is r (Memᴰ.tail (Memᴰ.head refl)))));
}
  where
    On : Point → Type 0
    On p = value (pair_form q r) p ≡ pos 0

-- ---- a multiple

pub record Multiple (F G : Lifted) : Type 0 where
  pub same_x : F.e *ℤ G.cx ≡ G.e *ℤ F.cx
  pub same_y : F.e *ℤ G.cy ≡ G.e *ℤ F.cy
  pub same_k : F.e *ℤ G.k ≡ G.e *ℤ F.k

pub multiple_value : {F G : Lifted} → Multiple F G → (p : Point) → F.e *ℤ value G p ≡ G.e *ℤ value F p
multiple_value {F} {G} m p = linear (F.e ∷ F.cx ∷ F.cy ∷ F.k ∷ G.e ∷ G.cx ∷ G.cy ∷ G.k ∷ p.x ∷ p.y ∷ [])
    (eqn (neg_ℤ (pos 2 *ℤ p.x)) m.same_x & eqn (neg_ℤ (pos 2 *ℤ p.y)) m.same_y & eqn (pos 1) m.same_k) (search poly depth 30) tt

multiple_gap : {F G : Lifted} → Multiple F G → F.e *ℤ gap F G ≡ F.e *ℤ pos 0
multiple_gap {F} {G} m = linear (F.e ∷ F.cx ∷ F.cy ∷ F.k ∷ G.e ∷ G.cx ∷ G.cy ∷ G.k ∷ [])
    (eqn (F.e *ℤ (pos 2 *ℤ F.cx)) m.same_x & eqn (F.e *ℤ (pos 2 *ℤ F.cy)) m.same_y & eqn (neg_ℤ (F.e *ℤ F.e)) m.same_k)
    (search poly depth 30) tt

pub positive_not_zero : {a : ℤ} → pos 0 <ℤ a → a ≢ pos 0
positive_not_zero h e = <-≤_clash h (≤_of_eq e)

pub multiple_no_gap : {F G : Lifted} → pos 0 <ℤ F.e → Multiple F G → gap F G ≡ pos 0
multiple_no_gap {F} {G} h m = ≡_cancel (positive_not_zero h) (multiple_gap m)

-- where one factor is positive and the other form holds p, so does this one
pub holds_by : {e f v w : ℤ} → pos 0 <ℤ e → pos 0 <ℤ f → e *ℤ w ≡ f *ℤ v → w ≤ℤ pos 0 → v ≤ℤ pos 0
holds_by {e} {f} {v} {w} he hf q h = nonneg_by (e ∷ f ∷ v ∷ w ∷ []) f hf (le (≤_of_< he) ⊠ le h ⊞ eq (pos 1) q) (search poly depth 30) tt
