-- The smallest disk over all possible tracings is that of the squares' corners.
--
--   corners-over, over-corners : the smallest disk of the corners is the smallest over all tracings, and the other way round
--   smallest_over   : so `disk_of (all_corners ss)` is, for at least one traced point
--   only_smallest   : and no other disk is
--   corners-place, place_corner : the corners of a square with t zero are its middle
--   read_same       : with every t zero the squares' corners are the points as they were read
use mathlib.Core.Path.{◌≡◌, refl, sym, ◌∙◌, ap, subst}
use mathlib.Core.Logic.{◌⊎◌, inl, inr}
use mathlib.Core.List.Memᴰ
use mathlib.Core.List.{List, [], ◌∷◌, Memᴰ}
use Prim.Native.Nat.{◌*◌}
use lib.IntN.{ℤ, pos, ◌+ℤ◌, ◌-ℤ◌, ◌*ℤ◌}
use lib.Signed.{◌≤ℤ◌, ◌<ℤ◌}
use Rattle.integers.proofs.Laws.{+-zero}
use Rattle.integers.proofs.Ring.{poly}
use Rattle.integers.proofs.Order.{nonneg, nonneg_by, le, sq, ◌⊠◌}
use Rattle.geometry.specs.declared.Point.{Point}
use Rattle.geometry.specs.Plane.{Disk, distance, holds}
use Rattle.point_lists.specs.Sets.{In, Same}
use Rattle.point_lists.proofs.Sets.{point_path, none_of, also, same_refl}
use Rattle.disks.specs.Smallest.{Smallest}
use Rattle.disks.specs.Procedure.{disk_of}
use Rattle.disks.proofs.Unique.{square_positive}
use Rattle.disks.proofs.StrongSmallest.{some_positive}
use Rattle.disks.proofs.OneWriting.{rational, rational_fits, smallest_same}
use Rattle.disks.proofs.Welzl.{smallest}
use Rattle.tracings.specs.declared.TracedPoint.{TracedPoint}
use Rattle.tracings.specs.Squares.{corners, all_corners, place, as_read}
use Rattle.tracings.specs.Tracings.{distance_at, SmallestOver}
use Rattle.tracings.proofs.Convex.{NoneNegative, holds_fits, fits-holds}

-- ---- a disk of four whole numbers among the rational disks: both sides times E²

unscaled : (e d s : ℤ) → pos 0 <ℤ (e *ℤ e) → ((e *ℤ e) *ℤ d) ≤ℤ (s *ℤ (e *ℤ e)) → d ≤ℤ s
unscaled e d s he h = nonneg_by (e ∷ d ∷ s ∷ []) (e *ℤ e) he (le h) (search poly depth 30) tt

-- the same at a rational point: n = k²
scaled_at : (e d s n : ℤ) → d ≤ℤ (s *ℤ n) → ((e *ℤ e) *ℤ d) ≤ℤ (s *ℤ ((e *ℤ e) *ℤ n))
scaled_at e d s n h = nonneg (e ∷ d ∷ s ∷ n ∷ []) (sq e ⊠ le h) (search poly depth 30) tt

unscaled_at : (e d s n : ℤ) → pos 0 <ℤ (e *ℤ e) → ((e *ℤ e) *ℤ d) ≤ℤ (s *ℤ ((e *ℤ e) *ℤ n)) → d ≤ℤ (s *ℤ n)
unscaled_at e d s n he h = nonneg_by (e ∷ d ∷ s ∷ n ∷ []) (e *ℤ e) he (le h) (search poly depth 30) tt

-- ---- over all tracings, and of the corners

module _ (ss : List TracedPoint) (n : NoneNegative ss) (d : Disk) where
  corners-over : Smallest (all_corners ss) d → SmallestOver ss d
  corners-over m = record {
    proper = m.proper;
    lowest = m.lowest;
    holds_all = λ ps t p i. unscaled_at (pos d.e) (distance_at d p) (pos d.s) (pos (p.k * p.k)) (square_positive (some_positive m.proper))
        (fits-holds (rational d m.proper) ss (rational_fits d m.proper m.holds_all m.through_all) ps t p i);
    least = λ c h. m.least c (holds_fits c ss n h);
    only = λ c h e. m.only c (holds_fits c ss n h) e;
  }

  over-corners : SmallestOver ss d → Smallest (all_corners ss) d
  unfolding holds
  over-corners m =
      let own = holds_fits (rational d m.proper) ss n (λ ps t p i.
      scaled_at (pos d.e) (distance_at d p) (pos d.s) (pos (p.k * p.k)) (m.holds_all ps t p i)) in
      record {
        proper = m.proper;
        lowest = m.lowest;
        holds_all = λ q i. (unscaled (pos d.e) (distance d q) (pos d.s) (square_positive (some_positive m.proper)) (own.holds_all q i)).le;
        through_all = λ q i. absurd (Memᴰ.not-nil i);
        least = λ c f. m.least c (fits-holds c ss f);
        only = λ c f e. m.only c (fits-holds c ss f) e;
      }

corners_smallest : (s : TracedPoint) (ss : List TracedPoint) → Smallest (all_corners (s ∷ ss)) (disk_of (all_corners (s ∷ ss)))
unfolding corners all_corners
corners_smallest s ss = smallest _ _

module _ (s : TracedPoint) (ss : List TracedPoint) (n : NoneNegative (s ∷ ss)) where
  pub smallest_over : SmallestOver (s ∷ ss) (disk_of (all_corners (s ∷ ss)))
  smallest_over = corners-over (s ∷ ss) n (disk_of (all_corners (s ∷ ss))) (corners_smallest s ss)

  pub only_smallest : {d : Disk} → SmallestOver (s ∷ ss) d → d ≡ disk_of (all_corners (s ∷ ss))
  only_smallest {d} m =
      smallest_same (same_refl (all_corners (s ∷ ss))) (same_refl []) (over-corners (s ∷ ss) n d m) (corners_smallest s ss)

-- ---- with every t zero

-- the four corners of a square of no size are its middle
module _ (s : TracedPoint) (zero_t : s.t ≡ pos 0) where
  minus : (z : ℤ) → z -ℤ s.t ≡ z
  minus z = ap (λ (t : ℤ). z -ℤ t) zero_t ∙ +-zero z

  plus : (z : ℤ) → z +ℤ s.t ≡ z
  plus z = ap (λ (t : ℤ). z +ℤ t) zero_t ∙ +-zero z

  pub corners-place : (p : Point) → In p (corners s) → p ≡ place s
  unfolding corners
  corners-place =
      also Is (point_path (minus s.x) (minus s.y)) (also Is (point_path (minus s.x) (plus s.y))
      (also Is (point_path (plus s.x) (minus s.y)) (also Is (point_path (plus s.x) (plus s.y)) (none_of Is))))
    where
      Is : Point → Type 0
      Is p = p ≡ place s

  pub place_corner : In (place s) (corners s)
  unfolding corners
  place_corner = Memᴰ.head (point_path (sym (minus s.x)) (sym (minus s.y)))

abbrev pub Exact : List TracedPoint → Type 0
Exact ss = (s : TracedPoint) → Memᴰ s ss → s.t ≡ pos 0

corners_read : (ss : List TracedPoint) → Exact ss → (p : Point) → In p (all_corners ss) → In p (as_read ss)
unfolding all_corners
corners_read [] f p i = i
corners_read (s ∷ ss) f p i = go (λ (k : In p (all_corners ss)). corners_read ss (λ r m. f r (Memᴰ.tail m)) p k) (Memᴰ.append_cases (corners s) i)
  where
    go : (In p (all_corners ss) → In p (as_read ss)) → In p (corners s) ⊎ In p (all_corners ss) → In p (as_read (s ∷ ss))
    go rest (inl k) = Memᴰ.head (corners-place s (f s (Memᴰ.head refl)) p k)
    go rest (inr k) = Memᴰ.tail (rest k)

read_corners : (ss : List TracedPoint) → Exact ss → (p : Point) → In p (as_read ss) → In p (all_corners ss)
unfolding all_corners
read_corners [] f p i = i
read_corners (s ∷ ss) f p (Memᴰ.head e) =
    Memᴰ.append_left (all_corners ss) (subst (λ (q : Point). In q (corners s)) (sym e) (place_corner s (f s (Memᴰ.head refl))))
read_corners (s ∷ ss) f p (Memᴰ.tail i) = Memᴰ.append_right (corners s) (read_corners ss (λ r m. f r (Memᴰ.tail m)) p i)

pub read_same : (ss : List TracedPoint) → Exact ss → Same (all_corners ss) (as_read ss)
read_same ss f = record { to = corners_read ss f; from = read_corners ss f }
