-- The smallest enclosing disk (000, section 2, md(P) and b_md(P, R); 01, "Disk and rim"; demand 2).
--
--   RationalDisk           == any disk with a fractional centre (x/e, y/e) and a fractional squared radius a/b
--   Fits c P R             == the rational disk c holds every point of P and has every point of R on its boundary
--   SmallestWith P R d     == d fits (P, R), no rational disk that does has a smaller squared radius, only the same disk has an equal
--                             one, and d is written without a common divisor of X, Y and E
--   Smallest P d           == d is the smallest disk that holds P
use Rattle.std.specs.Prelude.{◌≡◌, List, [], ℕ, ◌*◌, ◌≤◌, T, ℤ, pos, ◌+ℤ◌, ◌-ℤ◌, ◌*ℤ◌}
use Rattle.divisors.specs.Divisor.{Reduced}
use Rattle.integers.specs.Order.{◌≼◌}
use Rattle.geometry.specs.declared.Point.{Point}
use Rattle.geometry.specs.Plane.{Disk, holds, on_boundary}
use Rattle.point_lists.specs.Sets.{In}

pub record RationalDisk : Type 0 where
  pub x : ℤ
  pub y : ℤ
  pub e : ℕ
  pub a : ℤ
  pub b : ℕ
  pub e_some : 1 ≤ e
  pub b_some : 1 ≤ b

-- the squared distance of p from c's centre, and c's squared radius, both times e² and b
abbrev pub far : RationalDisk → Point → ℤ
far c p =
    pos c.b
    *ℤ ((p.x *ℤ pos c.e -ℤ c.x) *ℤ (p.x *ℤ pos c.e -ℤ c.x)
    +ℤ (p.y *ℤ pos c.e -ℤ c.y) *ℤ (p.y *ℤ pos c.e -ℤ c.y))

abbrev pub reach : RationalDisk → ℤ
reach c = c.a *ℤ pos (c.e * c.e)

pub record Fits (c : RationalDisk) (P R : List Point) : Type 0 where
  pub holds_all : (p : Point) → In p P → far c p ≼ reach c
  pub through_all : (q : Point) → In q R → far c q ≡ reach c

pub record SmallestWith (P R : List Point) (d : Disk) : Type 0 where
  pub proper : 1 ≤ d.e
  -- no whole number above 1 divides X, Y and E all together
  pub lowest : Reduced d.x d.y d.e
  pub holds_all : (p : Point) → In p P → T (holds d p)
  pub through_all : (q : Point) → In q R → on_boundary d q
  -- S/E² ≤ a/b
  pub least : (c : RationalDisk) → Fits c P R → pos (d.s * c.b) ≼ c.a *ℤ pos (d.e * d.e)
  -- where S/E² = a/b, X/E = x/e and Y/E = y/e
  pub only :
      (c : RationalDisk) → Fits c P R → pos (d.s * c.b) ≡ c.a *ℤ pos (d.e * d.e)
      → (d.x *ℤ pos c.e ≡ c.x *ℤ pos d.e) × (d.y *ℤ pos c.e ≡ c.y *ℤ pos d.e)

abbrev pub Smallest : List Point → Disk → Type 0
Smallest P d = SmallestWith P [] d
