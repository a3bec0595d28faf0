-- A square keeps to a box exactly where its corners do.
--
--   places_in   : where they do, every place of it does
--   corners_in  : and the other way round
use mathlib.Core.Path.{refl}
use mathlib.Core.List.Memᴰ
use mathlib.Core.List.{[], ◌∷◌}
use lib.IntN.{ℤ, pos, ◌*ℤ◌}
use lib.Signed.{◌≤ℤ◌}
use Rattle.integers.specs.Order.{◌≼◌}
use Rattle.integers.proofs.Ring.{poly}
use Rattle.integers.proofs.Order.{nonneg, le, nn, ◌⊞◌, ◌⊠◌}
use Rattle.geometry.specs.declared.Point.{Point}
use Rattle.geometry.specs.declared.Limits.{Limits}
use Rattle.geometry.specs.EmBox.{Inside}
use Rattle.point_lists.specs.Sets.{In}
use Rattle.tracings.specs.declared.TracedPoint.{TracedPoint}
use Rattle.tracings.specs.Squares.{corners}
use Rattle.tracings.specs.Tracings.{RationalPoint, InSquare, InBox}
use Rattle.tracings.proofs.Convex.{whole, at-corners}

-- a place u/k beyond m, which is beyond a
above : (a m k u : ℤ) → pos 0 ≤ℤ k → a ≤ℤ m → (m *ℤ k) ≤ℤ u → (a *ℤ k) ≤ℤ u
above a m k u hk h w = nonneg (a ∷ m ∷ k ∷ u ∷ []) (le h ⊠ hk ⊞ le w) (search poly depth 30) tt

below : (a m k u : ℤ) → pos 0 ≤ℤ k → u ≤ℤ (m *ℤ k) → m ≤ℤ a → u ≤ℤ (a *ℤ k)
below a m k u hk w h = nonneg (a ∷ m ∷ k ∷ u ∷ []) (le h ⊠ hk ⊞ le w) (search poly depth 30) tt

module _ (l : Limits) (s : TracedPoint) where
  pub places_in : ((q : Point) → In q (corners s) → Inside l q) → (p : RationalPoint) → InSquare s p → InBox l p
  unfolding corners
  places_in h p w =
      let a = h _ (Memᴰ.head refl) in
      let b = h _ (Memᴰ.tail (Memᴰ.tail (Memᴰ.tail (Memᴰ.head refl)))) in
      let k = pos p.k in
      record {
        from_left = above l.left _ k p.x (nn p.k) a.from_left w.from_left;
        to_right = below l.right _ k p.x (nn p.k) w.to_right b.to_right;
        from_foot = above l.foot _ k p.y (nn p.k) a.from_foot w.from_low;
        to_top = below l.top _ k p.y (nn p.k) w.to_high b.to_top;
      }

  pub corners_in : pos 0 ≼ s.t → ((p : RationalPoint) → InSquare s p → InBox l p) → (q : Point) → In q (corners s) → Inside l q
  corners_in nn_t h = at-corners s nn_t (Inside l) (λ m n w. at m n (h (whole m n) w))
    where
      from : (a m : ℤ) → (a *ℤ pos 1) ≤ℤ m → a ≤ℤ m
      from a m h = nonneg (a ∷ m ∷ []) (le h) (search poly depth 30) tt

      to : (a m : ℤ) → m ≤ℤ (a *ℤ pos 1) → m ≤ℤ a
      to a m h = nonneg (a ∷ m ∷ []) (le h) (search poly depth 30) tt

      at : (m n : ℤ) → InBox l (whole m n) → Inside l (record { x = m; y = n })
      at m n i = record {
        from_left = from l.left m i.from_left;
        to_right = to l.right m i.to_right;
        from_foot = from l.foot n i.from_foot;
        to_top = to l.top n i.to_top;
      }
