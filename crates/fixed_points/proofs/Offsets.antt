-- The centre of the circle through three points of a square, relative to one of them and times E: how far it can be.
--
--   Span m z            == z is from −m to m
--   offset_x, offset_y  : in each coordinate it is at most twice the cube of the side
use mathlib.Core.Path.{◌≡◌, subst}
use mathlib.Core.Logic.{◌⊎◌, inl, inr}
use mathlib.Core.List.{[], ◌∷◌}
use lib.IntN.{ℤ, pos, neg_ℤ, ◌+ℤ◌, ◌-ℤ◌, ◌*ℤ◌}
use lib.Signed.{◌≤ℤ◌, ◌<ℤ◌}
use Rattle.integers.proofs.Ring.{ring, poly}
use Rattle.integers.proofs.Order.{≤_of_<, ≤-or-<, nonneg, nonneg_by, le, sq, ◌⊞◌, ◌⊠◌}
use Rattle.geometry.specs.declared.Point.{Point}
use Rattle.disks.specs.Procedure.{norm}
use Rattle.disks.proofs.BoxLimits.{Box}

-- a number from −m to m
pub record Span (m z : ℤ) : Type 0 where
  pub from : neg_ℤ m ≤ℤ z
  pub to : z ≤ℤ m

-- a coordinate of the centre, for the sides u and v: the first; the second with x and y swapped, and the sides
abbrev offset : ℤ → ℤ → ℤ → ℤ → ℤ
offset ux uy vx vy = norm ux uy *ℤ vy -ℤ norm vx vy *ℤ uy

swapped : (ux uy vx vy : ℤ) → offset vy vx uy ux ≡ norm vx vy *ℤ ux -ℤ norm ux uy *ℤ vx
swapped ux uy vx vy = ring (ux ∷ uy ∷ vx ∷ vy ∷ []) (search poly depth 30) tt

module _ (l : ℤ) (hl : pos 0 ≤ℤ l) where
  abbrev most : ℤ
  most = pos 2 *ℤ (l *ℤ l *ℤ l)

  -- u.x²·v.y − v.x²·u.y, by the signs of u.y and v.y
  squares_bound : (ux uy vx vy : ℤ) → Span l ux → Span l uy → Span l vx → Span l vy → Span l (vy -ℤ uy)
      → (ux *ℤ ux *ℤ vy -ℤ vx *ℤ vx *ℤ uy) ≤ℤ (l *ℤ l *ℤ l)
  squares_bound ux uy vx vy a b c d s = go (≤-or-< (pos 0) uy) (≤-or-< (pos 0) vy)
    where
      go : (pos 0 ≤ℤ uy) ⊎ (uy <ℤ pos 0) → (pos 0 ≤ℤ vy) ⊎ (vy <ℤ pos 0) → (ux *ℤ ux *ℤ vy -ℤ vx *ℤ vx *ℤ uy) ≤ℤ (l *ℤ l *ℤ l)
      go (inl h) (inl k) = nonneg (l ∷ ux ∷ uy ∷ vx ∷ vy ∷ [])
          (le a.from ⊠ le a.to ⊠ k ⊞ hl ⊠ hl ⊠ le d.to ⊞ sq vx ⊠ h) (search poly depth 30) tt
      go (inl h) (inr k) = nonneg (l ∷ ux ∷ uy ∷ vx ∷ vy ∷ []) (hl ⊠ hl ⊠ hl ⊞ sq ux ⊠ le (≤_of_< k) ⊞ sq vx ⊠ h) (search poly depth 30) tt
      go (inr h) (inl k) = nonneg (l ∷ ux ∷ uy ∷ vx ∷ vy ∷ [])
          (le a.from ⊠ le a.to ⊠ k ⊞ le c.from ⊠ le c.to ⊠ le (≤_of_< h) ⊞ hl ⊠ hl ⊠ le s.to) (search poly depth 30) tt
      go (inr h) (inr k) = nonneg (l ∷ ux ∷ uy ∷ vx ∷ vy ∷ [])
          (sq ux ⊠ le (≤_of_< k) ⊞ le c.from ⊠ le c.to ⊠ le (≤_of_< h) ⊞ hl ⊠ hl ⊠ le b.from) (search poly depth 30) tt

  product_bound : (a b c : ℤ) → Span l a → Span l b → Span l c → neg_ℤ (a *ℤ b *ℤ c) ≤ℤ (l *ℤ l *ℤ l)
  product_bound a b c h k m =
      nonneg_by (l ∷ a ∷ b ∷ c ∷ []) (pos 4) (record { lt = tt })
      ((le h.to ⊠ le k.from ⊞ le h.from ⊠ le k.to) ⊠ le m.to ⊞ (le h.from ⊠ le k.from ⊞ le h.to ⊠ le k.to) ⊠ le m.from)
      (search poly depth 30) tt

  -- |u|²·v.y − |v|²·u.y is the first and (u.y·v.y)(u.y − v.y): the cube of l at most, each
  offset_bound : (ux uy vx vy : ℤ) → Span l ux → Span l uy → Span l vx → Span l vy → Span l (vy -ℤ uy) → offset ux uy vx vy ≤ℤ most
  offset_bound ux uy vx vy a b c d s =
      nonneg (l ∷ ux ∷ uy ∷ vx ∷ vy ∷ []) (le (squares_bound ux uy vx vy a b c d s) ⊞ le (product_bound uy vy (vy -ℤ uy) b d s)) (search poly depth 30) tt

  span-back : (a b : ℤ) → Span l (b -ℤ a) → Span l (a -ℤ b)
  span-back a b s = record {
    from = nonneg (l ∷ a ∷ b ∷ []) (le s.to) (search poly depth 30) tt;
    to = nonneg (l ∷ a ∷ b ∷ []) (le s.from) (search poly depth 30) tt;
  }

  offset_span : (ux uy vx vy : ℤ) → Span l ux → Span l uy → Span l vx → Span l vy → Span l (vy -ℤ uy) → Span most (offset ux uy vx vy)
  offset_span ux uy vx vy a b c d s = record {
    from = nonneg (l ∷ ux ∷ uy ∷ vx ∷ vy ∷ []) (le (offset_bound vx vy ux uy c d a b (span-back uy vy s))) (search poly depth 30) tt;
    to = offset_bound ux uy vx vy a b c d s;
  }

  -- of two numbers from o to o + l, and of their differences from a third
  span : (o a b : ℤ) → o ≤ℤ a → a ≤ℤ (o +ℤ l) → o ≤ℤ b → b ≤ℤ (o +ℤ l) → Span l (b -ℤ a)
  span o a b ha ka hb kb = record {
    from = nonneg (o ∷ l ∷ a ∷ b ∷ []) (le ka ⊞ le hb) (search poly depth 30) tt;
    to = nonneg (o ∷ l ∷ a ∷ b ∷ []) (le ha ⊞ le kb) (search poly depth 30) tt;
  }

  span-apart : (a b c : ℤ) → Span l (c -ℤ b) → Span l ((c -ℤ a) -ℤ (b -ℤ a))
  span-apart a b c s = subst (Span l) (ring (a ∷ b ∷ c ∷ []) (search poly depth 30) tt) s

  module _ (x0 y0 : ℤ) where
    across : (a b : Point) → Box x0 y0 l a → Box x0 y0 l b → Span l (b.x -ℤ a.x)
    across a b h k = span x0 a.x b.x h.left h.right k.left k.right

    up : (a b : Point) → Box x0 y0 l a → Box x0 y0 l b → Span l (b.y -ℤ a.y)
    up a b h k = span y0 a.y b.y h.low h.high k.low k.high

    module _ (a b c : Point) (ha : Box x0 y0 l a) (hb : Box x0 y0 l b) (hc : Box x0 y0 l c) where
      pub offset_x : Span most (norm (b.x -ℤ a.x) (b.y -ℤ a.y) *ℤ (c.y -ℤ a.y) -ℤ norm (c.x -ℤ a.x) (c.y -ℤ a.y) *ℤ (b.y -ℤ a.y))
      offset_x =
          offset_span (b.x -ℤ a.x) (b.y -ℤ a.y) (c.x -ℤ a.x) (c.y -ℤ a.y) (across a b ha hb) (up a b ha hb) (across a c ha hc) (up a c ha hc)
          (span-apart a.y b.y c.y (up b c hb hc))

      pub offset_y : Span most (norm (c.x -ℤ a.x) (c.y -ℤ a.y) *ℤ (b.x -ℤ a.x) -ℤ norm (b.x -ℤ a.x) (b.y -ℤ a.y) *ℤ (c.x -ℤ a.x))
      offset_y =
          subst (Span most) (swapped (b.x -ℤ a.x) (b.y -ℤ a.y) (c.x -ℤ a.x) (c.y -ℤ a.y))
          (offset_span (c.y -ℤ a.y) (c.x -ℤ a.x) (b.y -ℤ a.y) (b.x -ℤ a.x) (up a c ha hc) (across a c ha hc) (up a b ha hb) (across a b ha hb)
          (span-apart a.x c.x b.x (across c b hc hb)))
