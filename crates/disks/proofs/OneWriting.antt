-- Each disk has a single writing (01, "Disk and rim").
--
--   rational d     == a disk of four whole numbers, among the rational disks
--   rational_fits  : such a disk fits the points that it holds and those that are on its boundary
--   fits_own       : a smallest disk fits the points whose it is
--   smallest_same  : two smallest disks of the same points are equal in all four numbers
use mathlib.Core.Path.{◌≡◌, ap}
use mathlib.Core.List.{List, [], ◌∷◌}
use Prim.Native.Nat.{◌*◌, ◌≤◌}
use native.Mathlib.Nat.{mul-le-mul}
use lib.Dec.{T}
use lib.IntN.{ℤ, pos, nat_abs, ◌+ℤ◌, ◌*ℤ◌}
use lib.Signed.{◌≤ℤ◌, ◌<ℤ◌}
use Rattle.integers.proofs.Ring.{poly, linear, eqn, ◌&◌}
use Rattle.integers.proofs.Order.{≤_antisym, nonneg, le, sq, ◌⊠◌, ≡_cancel}
use Rattle.divisors.proofs.Reduced.{reduced_unique}
use Rattle.geometry.specs.declared.Point.{Point}
use Rattle.geometry.specs.Plane.{Disk, distance, holds, on_boundary}
use Rattle.point_lists.specs.Sets.{In, Same}
use Rattle.point_lists.proofs.Sets.{same_sym}
use Rattle.disks.specs.Smallest.{RationalDisk, Fits, SmallestWith}
use Rattle.disks.proofs.Base.{positive_not_zero}
use Rattle.disks.proofs.StrongSmallest.{some_positive}

-- a disk among the rational disks
abbrev pub rational : (d : Disk) → 1 ≤ d.e → RationalDisk
rational d h = record { x = d.x; y = d.y; e = d.e; a = pos d.s; b = d.e * d.e; e_some = h; b_some = mul-le-mul h h }

scaled : (e d s : ℤ) → d ≤ℤ s → ((e *ℤ e) *ℤ d) ≤ℤ (s *ℤ (e *ℤ e))
scaled e d s h = nonneg (e ∷ d ∷ s ∷ []) (sq e ⊠ le h) (search poly depth 30) tt

scaled_equal : (e d s : ℤ) → d ≡ s → (e *ℤ e) *ℤ d ≡ s *ℤ (e *ℤ e)
scaled_equal e d s h = linear (e ∷ d ∷ s ∷ []) (eqn (e *ℤ e) h) (search poly depth 30) tt

pub rational_fits : {P R : List Point} (d : Disk) (proper : 1 ≤ d.e) → ((p : Point) → In p P → T (holds d p)) → ((q : Point) → In q R → on_boundary d q)
    → Fits (rational d proper) P R
unfolding holds
rational_fits d proper held on = record {
  holds_all = λ p i. scaled (pos d.e) (distance d p) (pos d.s) (record { le = held p i });
  through_all = λ q i. scaled_equal (pos d.e) (distance d q) (pos d.s) (on q i);
}

pub fits_own : {P R Q S : List Point} {d : Disk} → Same Q P → Same S R → (m : SmallestWith P R d) → Fits (rational d m.proper) Q S
fits_own {d} t u m = rational_fits d m.proper (λ p i. m.holds_all p (t.to p i)) (λ q i. m.through_all q (u.to q i))

radius_same : (s z e f : ℤ) → pos 0 <ℤ e → s *ℤ (f *ℤ f) ≡ z *ℤ (e *ℤ e) → e ≡ f → s ≡ z
radius_same s z e f h k l = ≡_cancel (positive_not_zero h)
    (≡_cancel (positive_not_zero h) (linear (s ∷ z ∷ e ∷ f ∷ []) (eqn (pos 1) k & eqn (s *ℤ (e +ℤ f)) l) (search poly depth 30) tt))

pub smallest_same : {P R Q S : List Point} {d c : Disk} → Same P Q → Same R S → SmallestWith P R d → SmallestWith Q S c → d ≡ c
smallest_same {P} {R} {Q} {S} {d} {c} t u m n = λ i. record { x = w.0 i; y = w.1 i; e = w.2 i; s = radius i }
  where
    c_fits : Fits (rational c n.proper) P R
    c_fits = fits_own t u n

    d_fits : Fits (rational d m.proper) Q S
    d_fits = fits_own (same_sym t) (same_sym u) m

    equal : pos (d.s * (c.e * c.e)) ≡ pos c.s *ℤ pos (d.e * d.e)
    equal = ≤_antisym (m.least (rational c n.proper) c_fits) (n.least (rational d m.proper) d_fits)

    centre : (d.x *ℤ pos c.e ≡ c.x *ℤ pos d.e) × (d.y *ℤ pos c.e ≡ c.y *ℤ pos d.e)
    centre = m.only (rational c n.proper) c_fits equal

    w : (d.x ≡ c.x) × (d.y ≡ c.y) × (d.e ≡ c.e)
    w = reduced_unique d.x d.y d.e c.x c.y c.e m.proper n.proper m.lowest n.lowest centre.0 centre.1

    radius : d.s ≡ c.s
    radius = ap nat_abs (radius_same (pos d.s) (pos c.s) (pos d.e) (pos c.e) (some_positive m.proper) equal (ap pos w.2))
