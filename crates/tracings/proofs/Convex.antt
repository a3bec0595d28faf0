-- A disk holds a whole square where and only where it holds the square's four corners.
--
--   side           : in one coordinate, an end of an interval is at least as far from the centre as any place in it
--   square_held    : a disk that holds the corners holds every rational point of the square
--   corners_held   : and the other way round
--   at-corners     : what holds of each whole place of a square holds of its corners
--   holds_fits, fits-holds : a rational disk holds every possible tracing where and only where it holds `all_corners`
use mathlib.Core.Path.{refl, sym, subst}
use mathlib.Core.Logic.{◌⊎◌, inl, inr}
use mathlib.Core.List.Memᴰ
use mathlib.Core.List.{List, [], ◌∷◌, Memᴰ}
use native.Mathlib.Omega.{arith}
use lib.IntN.{ℤ, pos, ◌+ℤ◌, ◌-ℤ◌, ◌*ℤ◌}
use lib.Signed.{◌≤ℤ◌, ◌<ℤ◌}
use Rattle.integers.specs.Order.{◌≼◌}
use Rattle.integers.proofs.Ring.{poly}
use Rattle.integers.proofs.Order.{≤-or-<, ≤_of_<, nonneg, le, sq, nn, ◌⊞◌, ◌⊠◌}
use Rattle.geometry.specs.declared.Point.{Point}
use Rattle.point_lists.specs.Sets.{In}
use Rattle.point_lists.proofs.Sets.{none_of, also}
use Rattle.disks.specs.Smallest.{RationalDisk, far, reach, Fits}
use Rattle.tracings.specs.declared.TracedPoint.{TracedPoint}
use Rattle.tracings.specs.Squares.{corners, all_corners}
use Rattle.tracings.specs.Tracings.{RationalPoint, InSquare, Tracing, none, next, far_at, reach_at, HoldsTracings}

-- ---- one coordinate

abbrev square : ℤ → ℤ
square z = z *ℤ z

-- u/k, from l to h, is no farther from x/e than m is
abbrev NoFarther : ℤ → ℤ → ℤ → ℤ → ℤ → Type 0
NoFarther u k x e m = square (u *ℤ e -ℤ x *ℤ k) ≤ℤ (square (m *ℤ e -ℤ x) *ℤ (k *ℤ k))

side : (u k x e l h : ℤ) → pos 0 ≤ℤ e → (l *ℤ k) ≤ℤ u → u ≤ℤ (h *ℤ k) → NoFarther u k x e l ⊎ NoFarther u k x e h
side u k x e l h he hl hh = go (≤-or-< (pos 0) (u *ℤ e -ℤ x *ℤ k))
  where
    go : (pos 0 ≤ℤ (u *ℤ e -ℤ x *ℤ k)) ⊎ ((u *ℤ e -ℤ x *ℤ k) <ℤ pos 0) → NoFarther u k x e l ⊎ NoFarther u k x e h
    go (inl d) = inr (nonneg (u ∷ k ∷ x ∷ e ∷ l ∷ h ∷ []) (sq (e *ℤ (h *ℤ k -ℤ u)) ⊞ nn 2 ⊠ (he ⊠ le hh ⊠ d)) (search poly depth 30) tt)
    go (inr d) =
        inl (nonneg (u ∷ k ∷ x ∷ e ∷ l ∷ h ∷ []) (sq (e *ℤ (u -ℤ l *ℤ k)) ⊞ nn 2 ⊠ (he ⊠ le hl ⊠ le (≤_of_< d))) (search poly depth 30) tt)

-- ---- a square

-- a corner (m, n) that is held, and a point no farther from the centre in either coordinate
held_by : (b a e k x y m n u v : ℤ) → pos 0 ≤ℤ b
    → (b *ℤ (square (m *ℤ e -ℤ x) +ℤ square (n *ℤ e -ℤ y))) ≤ℤ (a *ℤ (e *ℤ e))
    → NoFarther u k x e m → NoFarther v k y e n
    → (b *ℤ (square (u *ℤ e -ℤ x *ℤ k) +ℤ square (v *ℤ e -ℤ y *ℤ k))) ≤ℤ (a *ℤ ((e *ℤ e) *ℤ (k *ℤ k)))
held_by b a e k x y m n u v hb h hu hv =
    nonneg (b ∷ a ∷ e ∷ k ∷ x ∷ y ∷ m ∷ n ∷ u ∷ v ∷ []) (sq k ⊠ le h ⊞ hb ⊠ (le hu ⊞ le hv)) (search poly depth 30) tt

abbrev at : ℤ → ℤ → Point
at x y = record { x = x; y = y }

abbrev Held : RationalDisk → Point → Type 0
Held c p = far c p ≼ reach c

abbrev HeldAt : RationalDisk → RationalPoint → Type 0
HeldAt c p = far_at c p ≼ reach_at c p

module _ (c : RationalDisk) (s : TracedPoint) where
  square_held : ((q : Point) → In q (corners s) → Held c q) → (p : RationalPoint) → InSquare s p → HeldAt c p
  unfolding corners
  square_held h p w = go (beside p.x c.x s.x w.from_left w.to_right) (beside p.y c.y s.y w.from_low w.to_high)
    where
      Beside : ℤ → ℤ → ℤ → Type 0
      Beside u x m = NoFarther u (pos p.k) x (pos c.e) m

      beside : (u x m : ℤ) → ((m -ℤ s.t) *ℤ pos p.k) ≤ℤ u → u ≤ℤ ((m +ℤ s.t) *ℤ pos p.k)
          → Beside u x (m -ℤ s.t) ⊎ Beside u x (m +ℤ s.t)
      beside u x m = side u (pos p.k) x (pos c.e) (m -ℤ s.t) (m +ℤ s.t) (nn c.e)

      by : (m n : ℤ) → Held c (at m n) → Beside p.x c.x m → Beside p.y c.y n → HeldAt c p
      by m n = held_by (pos c.b) c.a (pos c.e) (pos p.k) c.x c.y m n p.x p.y (nn c.b)

      go : Beside p.x c.x (s.x -ℤ s.t) ⊎ Beside p.x c.x (s.x +ℤ s.t)
          → Beside p.y c.y (s.y -ℤ s.t) ⊎ Beside p.y c.y (s.y +ℤ s.t) → HeldAt c p
      go (inl u) (inl v) = by (s.x -ℤ s.t) (s.y -ℤ s.t) (h _ (Memᴰ.head refl)) u v
      go (inl u) (inr v) = by (s.x -ℤ s.t) (s.y +ℤ s.t) (h _ (Memᴰ.tail (Memᴰ.head refl))) u v
      go (inr u) (inl v) = by (s.x +ℤ s.t) (s.y -ℤ s.t) (h _ (Memᴰ.tail (Memᴰ.tail (Memᴰ.head refl)))) u v
      go (inr u) (inr v) = by (s.x +ℤ s.t) (s.y +ℤ s.t) (h _ (Memᴰ.tail (Memᴰ.tail (Memᴰ.tail (Memᴰ.head refl))))) u v

-- ---- whole points, and the corners among them

abbrev pub whole : ℤ → ℤ → RationalPoint
whole x y = record { x = x; y = y; k = 1; k_some = omega arith }

whole_by : (b a e x y m n : ℤ)
    → (b *ℤ (square (m *ℤ e -ℤ x *ℤ pos 1) +ℤ square (n *ℤ e -ℤ y *ℤ pos 1))) ≤ℤ (a *ℤ ((e *ℤ e) *ℤ (pos 1 *ℤ pos 1)))
    → (b *ℤ (square (m *ℤ e -ℤ x) +ℤ square (n *ℤ e -ℤ y))) ≤ℤ (a *ℤ (e *ℤ e))
whole_by b a e x y m n h = nonneg (b ∷ a ∷ e ∷ x ∷ y ∷ m ∷ n ∷ []) (le h) (search poly depth 30) tt

whole_held : (c : RationalDisk) (m n : ℤ) → HeldAt c (whole m n) → Held c (at m n)
whole_held c m n h = whole_by (pos c.b) c.a (pos c.e) c.x c.y m n h

-- m lies from x − t to x + t; so do both ends, and x itself
abbrev Reached : ℤ → ℤ → ℤ → Type 0
Reached x t m = (((x -ℤ t) *ℤ pos 1) ≤ℤ m) × (m ≤ℤ ((x +ℤ t) *ℤ pos 1))

module _ (x t : ℤ) (h : pos 0 ≤ℤ t) where
  lower : Reached x t (x -ℤ t)
  lower = (nonneg (x ∷ t ∷ []) (nn 0) (search poly depth 30) tt, nonneg (x ∷ t ∷ []) (nn 2 ⊠ h) (search poly depth 30) tt)

  upper : Reached x t (x +ℤ t)
  upper = (nonneg (x ∷ t ∷ []) (nn 2 ⊠ h) (search poly depth 30) tt, nonneg (x ∷ t ∷ []) (nn 0) (search poly depth 30) tt)

  middle : Reached x t x
  middle = (nonneg (x ∷ t ∷ []) h (search poly depth 30) tt, nonneg (x ∷ t ∷ []) h (search poly depth 30) tt)

reached : (s : TracedPoint) {m n : ℤ} → Reached s.x s.t m → Reached s.y s.t n → InSquare s (whole m n)
reached s h k = record { from_left = h.0; to_right = h.1; from_low = k.0; to_high = k.1 }

module _ (s : TracedPoint) (nn_t : pos 0 ≤ℤ s.t) where
  -- what holds of each whole place of the square holds of the corners
  pub at-corners : (Z : Point → Type 0) → ((m n : ℤ) → InSquare s (whole m n) → Z (at m n)) → (q : Point) → In q (corners s) → Z q
  unfolding corners
  at-corners Z h =
      also Z (h _ _ (reached s left low)) (also Z (h _ _ (reached s left high))
      (also Z (h _ _ (reached s right low)) (also Z (h _ _ (reached s right high)) (none_of Z))))
    where
      left : Reached s.x s.t (s.x -ℤ s.t)
      left = lower s.x s.t nn_t

      right : Reached s.x s.t (s.x +ℤ s.t)
      right = upper s.x s.t nn_t

      low : Reached s.y s.t (s.y -ℤ s.t)
      low = lower s.y s.t nn_t

      high : Reached s.y s.t (s.y +ℤ s.t)
      high = upper s.y s.t nn_t

  corners_held : (c : RationalDisk) → ((p : RationalPoint) → InSquare s p → HeldAt c p) → (q : Point) → In q (corners s) → Held c q
  corners_held c h = at-corners (Held c) (λ m n w. whole_held c m n (h (whole m n) w))

-- ---- all squares

abbrev pub NoneNegative : List TracedPoint → Type 0
NoneNegative ss = (s : TracedPoint) → Memᴰ s ss → pos 0 ≼ s.t

-- the points as they were read are one tracing
read_in : (s : TracedPoint) → pos 0 ≼ s.t → InSquare s (whole s.x s.y)
read_in s h = reached s (middle s.x s.t h) (middle s.y s.t h)

read_all : List TracedPoint → List RationalPoint
read_all [] = []
read_all (s ∷ ss) = whole s.x s.y ∷ read_all ss

read_tracing : (ss : List TracedPoint) → NoneNegative ss → Tracing ss (read_all ss)
unfolding read_all
read_tracing [] n = none
read_tracing (s ∷ ss) n = next (read_in s (n s (Memᴰ.head refl))) (read_tracing ss (λ r i. n r (Memᴰ.tail i)))

module _ (c : RationalDisk) where
  all_corners_lem : (ss : List TracedPoint) → NoneNegative ss → HoldsTracings c ss → (q : Point) → In q (all_corners ss) → Held c q
  unfolding all_corners
  all_corners_lem [] n h q i = absurd (Memᴰ.not-nil i)
  all_corners_lem (s ∷ ss) n h q i =
      let behind : HoldsTracings c ss = λ ps t p m. h (first ∷ ps) (next in_first t) p (Memᴰ.tail m) in
      go (λ (k : In q (all_corners ss)). all_corners_lem ss later behind q k) (Memᴰ.append_cases (corners s) i)
    where
      nn_t : pos 0 ≼ s.t
      nn_t = n s (Memᴰ.head refl)

      later : NoneNegative ss
      later r m = n r (Memᴰ.tail m)

      first : RationalPoint
      first = whole s.x s.y

      in_first : InSquare s first
      in_first = read_in s nn_t

      here : (p : RationalPoint) → InSquare s p → HeldAt c p
      here p w = h (p ∷ read_all ss) (next w (read_tracing ss later)) p (Memᴰ.head refl)

      go : (In q (all_corners ss) → Held c q) → In q (corners s) ⊎ In q (all_corners ss) → Held c q
      go rest (inl k) = corners_held s nn_t c here q k
      go rest (inr k) = rest k

  pub holds_fits : (ss : List TracedPoint) → NoneNegative ss → HoldsTracings c ss → Fits c (all_corners ss) []
  holds_fits ss n h = record { holds_all = all_corners_lem ss n h; through_all = λ q i. absurd (Memᴰ.not-nil i) }

  corners_hold : {ss : List TracedPoint} {ps : List RationalPoint} → Tracing ss ps → ((q : Point) → In q (all_corners ss) → Held c q)
      → (p : RationalPoint) → Memᴰ p ps → HeldAt c p
  unfolding all_corners
  corners_hold none f p i = absurd (Memᴰ.not-nil i)
  corners_hold (next {s} {ss} {p = r} w t) f p (Memᴰ.head e) =
      subst (HeldAt c) (sym e) (square_held c s (λ q k. f q (Memᴰ.append_left (all_corners ss) k)) r w)
  corners_hold (next {s} {ss} w t) f p (Memᴰ.tail i) = corners_hold t (λ q k. f q (Memᴰ.append_right (corners s) k)) p i

  pub fits-holds : (ss : List TracedPoint) → Fits c (all_corners ss) [] → HoldsTracings c ss
  fits-holds ss f ps t = corners_hold t f.holds_all
