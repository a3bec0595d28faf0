-- Every possible tracing, and the smallest disk that holds them all (02, item 7: "the smallest disk that holds every corner wherever it may really be
-- within its square").
--
--   RationalPoint        == any point (x/k, y/k), with fractional coordinates
--   InSquare s p         == p lies in the square of the traced point s: it may really be at p
--   InBox l p            == p lies in the box of the limits l
--   Tracing ss ps        == ps is a possible tracing of ss: for each traced point a point of its square
--   distance_at, Holds d p == document 01's inequality for the disk d, at a rational point and times k²
--   far_at, reach_at       == the squared distance of p from a rational disk's centre, and its squared radius, both times e², k² and b
--   HoldsTracings c ss   == the rational disk c holds every possible tracing of ss
--   SmallestOver ss d    == d holds every possible tracing of ss, no rational disk that does has a smaller squared radius, only the same disk has
--                           an equal one, and d is written without a common divisor of X, Y and E
--
-- `RationalDisk` (disks/specs/Smallest.antt): any disk with a fractional centre (x/e, y/e) and a fractional squared radius a/b.
use Rattle.std.specs.Prelude.{◌≡◌, ℕ, ◌*◌, ◌≤◌, ℤ, pos, ◌+ℤ◌, ◌-ℤ◌, ◌*ℤ◌}
use mathlib.Core.List.{List, [], ◌∷◌, Memᴰ}
use Rattle.divisors.specs.Divisor.{Reduced}
use Rattle.integers.specs.Order.{◌≼◌}
use Rattle.geometry.specs.Plane.{Disk}
use Rattle.geometry.specs.declared.Limits.{Limits}
use Rattle.disks.specs.Smallest.{RationalDisk}
use Rattle.tracings.specs.declared.TracedPoint.{TracedPoint}

pub record RationalPoint : Type 0 where
  pub x : ℤ
  pub y : ℤ
  pub k : ℕ
  pub k_some : 1 ≤ k

-- s.x − t ≤ x/k ≤ s.x + t, and the same of y
pub record InSquare (s : TracedPoint) (p : RationalPoint) : Type 0 where
  pub from_left : (s.x -ℤ s.t) *ℤ pos p.k ≼ p.x
  pub to_right : p.x ≼ (s.x +ℤ s.t) *ℤ pos p.k
  pub from_low : (s.y -ℤ s.t) *ℤ pos p.k ≼ p.y
  pub to_high : p.y ≼ (s.y +ℤ s.t) *ℤ pos p.k

-- left ≤ x/k ≤ right and foot ≤ y/k ≤ top
pub record InBox (l : Limits) (p : RationalPoint) : Type 0 where
  pub from_left : l.left *ℤ pos p.k ≼ p.x
  pub to_right : p.x ≼ l.right *ℤ pos p.k
  pub from_foot : l.foot *ℤ pos p.k ≼ p.y
  pub to_top : p.y ≼ l.top *ℤ pos p.k

pub data Tracing : List TracedPoint → List RationalPoint → Type 0 where
  none : Tracing [] []
  next : {s : TracedPoint} {ss : List TracedPoint} {p : RationalPoint} {ps : List RationalPoint} → InSquare s p → Tracing ss ps → Tracing (s ∷ ss) (p ∷ ps)

abbrev pub distance_at : Disk → RationalPoint → ℤ
distance_at d p =
    (p.x *ℤ pos d.e -ℤ d.x *ℤ pos p.k) *ℤ (p.x *ℤ pos d.e -ℤ d.x *ℤ pos p.k)
    +ℤ (p.y *ℤ pos d.e -ℤ d.y *ℤ pos p.k) *ℤ (p.y *ℤ pos d.e -ℤ d.y *ℤ pos p.k)

abbrev pub Holds : Disk → RationalPoint → Type 0
Holds d p = distance_at d p ≼ pos (d.s * (p.k * p.k))

abbrev pub far_at : RationalDisk → RationalPoint → ℤ
far_at c p =
    pos c.b
    *ℤ ((p.x *ℤ pos c.e -ℤ c.x *ℤ pos p.k) *ℤ (p.x *ℤ pos c.e -ℤ c.x *ℤ pos p.k)
    +ℤ (p.y *ℤ pos c.e -ℤ c.y *ℤ pos p.k) *ℤ (p.y *ℤ pos c.e -ℤ c.y *ℤ pos p.k))

abbrev pub reach_at : RationalDisk → RationalPoint → ℤ
reach_at c p = c.a *ℤ pos ((c.e * c.e) * (p.k * p.k))

abbrev pub HoldsTracings : RationalDisk → List TracedPoint → Type 0
HoldsTracings c ss = (ps : List RationalPoint) → Tracing ss ps → (p : RationalPoint) → Memᴰ p ps → far_at c p ≼ reach_at c p

pub record SmallestOver (ss : List TracedPoint) (d : Disk) : Type 0 where
  pub proper : 1 ≤ d.e
  -- no whole number above 1 divides X, Y and E all together
  pub lowest : Reduced d.x d.y d.e
  pub holds_all : (ps : List RationalPoint) → Tracing ss ps → (p : RationalPoint) → Memᴰ p ps → Holds d p
  -- S/E² ≤ a/b
  pub least : (c : RationalDisk) → HoldsTracings c ss → pos (d.s * c.b) ≼ c.a *ℤ pos (d.e * d.e)
  -- where S/E² = a/b, X/E = x/e and Y/E = y/e
  pub only :
      (c : RationalDisk) → HoldsTracings c ss → pos (d.s * c.b) ≡ c.a *ℤ pos (d.e * d.e)
      → (d.x *ℤ pos c.e ≡ c.x *ℤ pos d.e) × (d.y *ℤ pos c.e ≡ c.y *ℤ pos d.e)
