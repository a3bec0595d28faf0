-- A square lies in the em box exactly where its middle lies in the box that is narrower by t on each side.
--
--   narrower l t  == this box
--   middle_in     : so it is, by the tests
use mathlib.Core.Path.{◌≡◌, refl}
use mathlib.Core.List.Memᴰ
use mathlib.Core.List.{[], ◌∷◌}
use lib.IntN.{ℤ, pos, ◌+ℤ◌, ◌-ℤ◌, ◌*ℤ◌}
use lib.Signed.{◌≤ℤ◌}
use Rattle.integers.proofs.Tests.{same_test, test_true, true_test}
use Rattle.integers.proofs.Ring.{poly}
use Rattle.integers.proofs.Order.{nonneg, le, ◌⊞◌}
use Rattle.geometry.specs.declared.Point.{Point}
use Rattle.geometry.specs.declared.Limits.{Limits}
use Rattle.geometry.specs.EmBox.{em, in_box, Inside, all_in_em_box}
use Rattle.geometry.proofs.EmBox.{inside, inside_test, all_inside, inside_all}
use Rattle.point_lists.specs.Sets.{In}
use Rattle.tracings.specs.declared.TracedPoint.{TracedPoint}
use Rattle.tracings.specs.Squares.{corners, place}
use Rattle.tracings.proofs.Convex.{at-corners}

abbrev pub narrower : Limits → ℤ → Limits
narrower l t = record { left = l.left +ℤ t; right = l.right -ℤ t; foot = l.foot +ℤ t; top = l.top -ℤ t; scale = l.scale; square = l.square }

-- ---- one coordinate

module _ (a z t : ℤ) where
  up : a ≤ℤ (z -ℤ t) → (a +ℤ t) ≤ℤ z
  up h = nonneg (a ∷ z ∷ t ∷ []) (le h) (search poly depth 30) tt

  down : (z +ℤ t) ≤ℤ a → z ≤ℤ (a -ℤ t)
  down h = nonneg (a ∷ z ∷ t ∷ []) (le h) (search poly depth 30) tt

  -- a whole place m from z − t on, and up to z + t
  above : (m : ℤ) → (a +ℤ t) ≤ℤ z → ((z -ℤ t) *ℤ pos 1) ≤ℤ m → a ≤ℤ m
  above m h w = nonneg (a ∷ z ∷ t ∷ m ∷ []) (le h ⊞ le w) (search poly depth 30) tt

  below : (m : ℤ) → z ≤ℤ (a -ℤ t) → m ≤ℤ ((z +ℤ t) *ℤ pos 1) → m ≤ℤ a
  below m h w = nonneg (a ∷ z ∷ t ∷ m ∷ []) (le h ⊞ le w) (search poly depth 30) tt

-- ---- the square

module _ (s : TracedPoint) (h : pos 0 ≤ℤ s.t) where
  to_middle : ((p : Point) → In p (corners s) → Inside em p) → Inside (narrower em s.t) (place s)
  unfolding corners
  to_middle f =
      let a = f _ (Memᴰ.head refl) in
      let b = f _ (Memᴰ.tail (Memᴰ.tail (Memᴰ.tail (Memᴰ.head refl)))) in
      record {
        from_left = up em.left s.x s.t a.from_left;
        to_right = down em.right s.x s.t b.to_right;
        from_foot = up em.foot s.y s.t a.from_foot;
        to_top = down em.top s.y s.t b.to_top;
      }

  to_corners : Inside (narrower em s.t) (place s) → (p : Point) → In p (corners s) → Inside em p
  to_corners i = at-corners s h (Inside em) (λ m n w. record {
    from_left = above em.left s.x s.t m i.from_left w.from_left;
    to_right = below em.right s.x s.t m i.to_right w.to_right;
    from_foot = above em.foot s.y s.t n i.from_foot w.from_low;
    to_top = below em.top s.y s.t n i.to_top w.to_high;
  })

  pub middle_in : in_box (narrower em s.t) (place s) ≡ all_in_em_box (corners s)
  middle_in = same_test (in_box (narrower em s.t) (place s)) (all_in_em_box (corners s))
      (λ t. true_test (inside_all (corners s) (to_corners (inside (narrower em s.t) (place s) (test_true (in_box (narrower em s.t) (place s)) t)))))
      (λ t. true_test (inside_test (narrower em s.t) (place s) (to_middle (all_inside (corners s) (test_true (all_in_em_box (corners s)) t)))))
