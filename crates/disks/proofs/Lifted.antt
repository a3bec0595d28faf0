-- Disks lifted to forms that are linear: (E, X, Y, K), with S = X² + Y² − E-as-K.
--
--   Lifted             == a disk, or any form, by its four numbers
--   value F p          == E·|p|² − 2(X·x + Y·y) + K: not positive where the disk holds p, zero on its boundary
--   squared_radius F    == S, the squared radius times E²
--   gap F G            == E²E' times (r'² − r² − |c − c'|²), for the radii r, r' and centres c, c' of F and G
--   combine b F a G    == b·F + a·G, the disk D_λ of 000 with no fraction
--   no_disk             == the empty disk, (0, 0, 0, 1): every point is outside it
--   value_combine, gap_combine : value and gap are linear in the (second) form
--   gap_self, gap_both : the gap of a form to itself is zero; the two gaps of two forms
use mathlib.Core.Path.{◌≡◌}
use mathlib.Core.List.{[], ◌∷◌}
use lib.IntN.{ℤ, pos, neg_ℤ, ◌+ℤ◌, ◌-ℤ◌, ◌*ℤ◌}
use Rattle.integers.proofs.Ring.{ring, poly}
use Rattle.geometry.specs.declared.Point.{Point}

pub record Lifted : Type 0 where
  pub e : ℤ
  pub cx : ℤ
  pub cy : ℤ
  pub k : ℤ

abbrev pub value : Lifted → Point → ℤ
value F p = F.e *ℤ (p.x *ℤ p.x +ℤ p.y *ℤ p.y) -ℤ pos 2 *ℤ (F.cx *ℤ p.x +ℤ F.cy *ℤ p.y) +ℤ F.k

-- S, the squared radius times E²
abbrev pub squared_radius : Lifted → ℤ
squared_radius F = F.cx *ℤ F.cx +ℤ F.cy *ℤ F.cy -ℤ F.e *ℤ F.k

abbrev pub gap : Lifted → Lifted → ℤ
gap F G = F.e *ℤ (pos 2 *ℤ (F.cx *ℤ G.cx +ℤ F.cy *ℤ G.cy) -ℤ F.e *ℤ G.k)
    -ℤ G.e *ℤ (pos 2 *ℤ (F.cx *ℤ F.cx +ℤ F.cy *ℤ F.cy) -ℤ F.e *ℤ F.k)

abbrev pub combine : ℤ → Lifted → ℤ → Lifted → Lifted
combine b F a G = record { e = b *ℤ F.e +ℤ a *ℤ G.e; cx = b *ℤ F.cx +ℤ a *ℤ G.cx; cy = b *ℤ F.cy +ℤ a *ℤ G.cy; k = b *ℤ F.k +ℤ a *ℤ G.k }

abbrev pub no_disk : Lifted
no_disk = record { e = pos 0; cx = pos 0; cy = pos 0; k = pos 1 }

-- ---- linear

pub value_combine : (b : ℤ) (F : Lifted) (a : ℤ) (G : Lifted) (p : Point) → value (combine b F a G) p ≡ b *ℤ value F p +ℤ a *ℤ value G p
value_combine b F a G p = ring (b ∷ a ∷ F.e ∷ F.cx ∷ F.cy ∷ F.k ∷ G.e ∷ G.cx ∷ G.cy ∷ G.k ∷ p.x ∷ p.y ∷ []) (search poly depth 30) tt

pub gap_combine : (H : Lifted) (b : ℤ) (F : Lifted) (a : ℤ) (G : Lifted) → gap H (combine b F a G) ≡ b *ℤ gap H F +ℤ a *ℤ gap H G
gap_combine H b F a G = ring (b ∷ a ∷ F.e ∷ F.cx ∷ F.cy ∷ F.k ∷ G.e ∷ G.cx ∷ G.cy ∷ G.k ∷ H.e ∷ H.cx ∷ H.cy ∷ H.k ∷ [])
    (search poly depth 30) tt

-- ---- the gap

pub gap_self : (F : Lifted) → gap F F ≡ pos 0
gap_self F = ring (F.e ∷ F.cx ∷ F.cy ∷ F.k ∷ []) (search poly depth 30) tt

-- how far the centres are apart, times both E
abbrev pub apart_x : Lifted → Lifted → ℤ
apart_x F G = G.e *ℤ F.cx -ℤ F.e *ℤ G.cx

abbrev pub apart_y : Lifted → Lifted → ℤ
apart_y F G = G.e *ℤ F.cy -ℤ F.e *ℤ G.cy

pub gap_both : (F G : Lifted) → G.e *ℤ gap F G +ℤ F.e *ℤ gap G F ≡ neg_ℤ (pos 2 *ℤ (apart_x F G *ℤ apart_x F G +ℤ apart_y F G *ℤ apart_y F G))
gap_both F G = ring (F.e ∷ F.cx ∷ F.cy ∷ F.k ∷ G.e ∷ G.cx ∷ G.cy ∷ G.k ∷ []) (search poly depth 30) tt

pub gap_none : (F : Lifted) → gap F no_disk ≡ neg_ℤ (F.e *ℤ F.e)
gap_none F = ring (F.e ∷ F.cx ∷ F.cy ∷ F.k ∷ []) (search poly depth 30) tt

pub value_none : (p : Point) → value no_disk p ≡ pos 1
value_none p = ring (p.x ∷ p.y ∷ []) (search poly depth 30) tt
