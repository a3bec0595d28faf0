-- A disk relative to a point q on its boundary: centre q + g/E.
--
--   relative q e gx gy   == that disk, lifted
--   relative_radius      : S = |g|²
--   point_relative, pair_relative : the disks of one and two points are of this form (and `vanishing` by its definition)
--   turned_relative      : so is such a disk turned round
use mathlib.Core.Path.{◌≡◌, refl}
use mathlib.Core.Bool.{true}
use mathlib.Core.List.{[], ◌∷◌}
use lib.IntN.{ℤ, pos, neg_ℤ, ◌+ℤ◌, ◌-ℤ◌, ◌*ℤ◌}
use Rattle.integers.proofs.Ring.{ring, poly}
use Rattle.geometry.specs.declared.Point.{Point}
use Rattle.disks.proofs.Lifted.{Lifted, squared_radius}
use Rattle.disks.proofs.Base.{point_form, pair_form}
use Rattle.disks.proofs.Triple.{turned}

abbrev pub relative : Point → ℤ → ℤ → ℤ → Lifted
relative q e gx gy = record {
  e = e;
  cx = q.x *ℤ e +ℤ gx;
  cy = q.y *ℤ e +ℤ gy;
  k = e *ℤ (q.x *ℤ q.x +ℤ q.y *ℤ q.y) +ℤ pos 2 *ℤ (gx *ℤ q.x +ℤ gy *ℤ q.y);
}

pub relative_radius : (q : Point) (e gx gy : ℤ) → squared_radius (relative q e gx gy) ≡ gx *ℤ gx +ℤ gy *ℤ gy
relative_radius q e gx gy = ring (q.x ∷ q.y ∷ e ∷ gx ∷ gy ∷ []) (search poly depth 30) tt

lifted_path : {F G : Lifted} → F.e ≡ G.e → F.cx ≡ G.cx → F.cy ≡ G.cy → F.k ≡ G.k → F ≡ G
lifted_path a b c d = λ i. record { e = a i; cx = b i; cy = c i; k = d i }

pub point_relative : (q : Point) → point_form q ≡ relative q (pos 1) (pos 0) (pos 0)
point_relative q = lifted_path refl (ring (q.x ∷ q.y ∷ []) (search poly depth 30) tt) (ring (q.x ∷ q.y ∷ []) (search poly depth 60 fits 9000) tt)
    (ring (q.x ∷ q.y ∷ []) (search poly depth 60 fits 9000) tt)

pub pair_relative : (q r : Point) → pair_form q r ≡ relative q (pos 2) (r.x -ℤ q.x) (r.y -ℤ q.y)
pair_relative q r = lifted_path refl (ring (q.x ∷ q.y ∷ r.x ∷ r.y ∷ []) (search poly depth 30) tt)
    (ring (q.x ∷ q.y ∷ r.x ∷ r.y ∷ []) (search poly depth 60 fits 9000) tt)
    (ring (q.x ∷ q.y ∷ r.x ∷ r.y ∷ []) (search poly depth 60 fits 9000) tt)

-- turned round
pub turned_relative : (q : Point) (e gx gy : ℤ) → turned true (relative q e gx gy) ≡ relative q (neg_ℤ e) (neg_ℤ gx) (neg_ℤ gy)
turned_relative q e gx gy = lifted_path refl (ring (q.x ∷ e ∷ gx ∷ []) (search poly depth 30) tt) (ring (q.y ∷ e ∷ gy ∷ []) (search poly depth 30) tt)
    (ring (q.x ∷ q.y ∷ e ∷ gx ∷ gy ∷ []) (search poly depth 30) tt)
