-- Disks as the procedure keeps them: relative to a point q on the boundary, centre q + g/e.
--
--   beyond e q g p, is_outside d p == |p − q|²·e > 2 (p − q)·g
--   nothing                       == the empty disk: every point of the em box is outside it
--   point_about, diameter_about     == the disks of one point and of a diameter
--   circle_about q u v             == the circle through q, q + u and q + v; where the three are in a row, e = 0 and g = 0
--   largest_coordinate, largest_difference, largest_offset == how large a coordinate, a difference of two and a number of g can be
--   Coordinates x y, Differences x y, Near p, Small d == numbers with which no step of the test overflows
--   StandsFor d c                 == d is the text's cover c
--   Keeps d c                     == and its numbers are small
use Rattle.std.specs.Prelude.{◌≡◌, Bool, true, false, ℕ, ◌*◌, ℤ, pos, negsuc, neg_ℤ, nat_abs, ◌+ℤ◌, ◌-ℤ◌, ◌*ℤ◌}
use Rattle.std.specs.Int.Signed.{lt_z}
use Rattle.integers.specs.Order.{Within, ◌≺◌}
use Rattle.geometry.specs.declared.Point.{Point}
use Rattle.geometry.specs.EmBox.{em, left_of_box, largest}
use Rattle.geometry.specs.Plane.{Disk, holds}
use Rattle.disks.specs.Procedure.{Cover, empty, disk, lowest_terms, norm}
use Rattle.relative_disks.specs.declared.RelativeDisk.{RelativeDisk}

unfoldable pub beyond : ℤ → ℤ → ℤ → ℤ → ℤ → ℤ → ℤ → Bool
beyond e qx qy gx gy x y =
    lt_z (pos 0) ((x -ℤ qx) *ℤ ((x -ℤ qx) *ℤ e -ℤ pos 2 *ℤ gx) +ℤ (y -ℤ qy) *ℤ ((y -ℤ qy) *ℤ e -ℤ pos 2 *ℤ gy))

abbrev pub is_outside : RelativeDisk → Point → Bool
is_outside d p = beyond d.e d.qx d.qy d.gx d.gy p.x p.y

-- ---- the disks of none to three points

-- q is to the left of the em box, and g points away from it
abbrev pub nothing : RelativeDisk
nothing = record { e = pos 0; qx = left_of_box; qy = pos 0; gx = negsuc 0; gy = pos 0 }

abbrev pub point_about : ℤ → ℤ → RelativeDisk
point_about x y = record { e = pos 1; qx = x; qy = y; gx = pos 0; gy = pos 0 }

abbrev pub diameter_about : ℤ → ℤ → ℤ → ℤ → RelativeDisk
diameter_about ax ay bx by = record { e = pos 2; qx = ax; qy = ay; gx = bx -ℤ ax; gy = by -ℤ ay }

-- by whether e is positive, and whether it is negative: the numbers as they are; turned round; and where e is zero, no circle
abbrev pub by_sign : Bool → Bool → ℤ → ℤ → ℤ → ℤ → ℤ → RelativeDisk
by_sign true n e qx qy gx gy = record { e = e; qx = qx; qy = qy; gx = gx; gy = gy }
by_sign false true e qx qy gx gy = record { e = neg_ℤ e; qx = qx; qy = qy; gx = neg_ℤ gx; gy = neg_ℤ gy }
by_sign false false e qx qy gx gy = record { e = e; qx = qx; qy = qy; gx = pos 0; gy = pos 0 }

unfoldable pub circle_about : ℤ → ℤ → ℤ → ℤ → ℤ → ℤ → RelativeDisk
circle_about qx qy ux uy vx vy =
    let e = pos 2 *ℤ (ux *ℤ vy -ℤ uy *ℤ vx) in
    by_sign (lt_z (pos 0) e) (lt_z e (pos 0)) e qx qy (norm ux uy *ℤ vy -ℤ norm vx vy *ℤ uy) (norm vx vy *ℤ ux -ℤ norm ux uy *ℤ vx)

-- ---- the size of the numbers: this is where the figures come from the em box

abbrev pub largest_coordinate : ℕ
largest_coordinate = largest em

abbrev pub largest_difference : ℕ
largest_difference = 2 * largest_coordinate

-- |u|²·v − |v|²·u for the sides u and v of a triangle in the em box: twice the cube of the box's side
abbrev pub largest_offset : ℕ
largest_offset = largest_coordinate * em.scale

abbrev pub Coordinates : ℤ → ℤ → Type 0
Coordinates x y = Within largest_coordinate x × Within largest_coordinate y

abbrev pub Differences : ℤ → ℤ → Type 0
Differences x y = Within largest_difference x × Within largest_difference y

pub record Near (p : Point) : Type 0 where
  pub x_near : Within largest_coordinate p.x
  pub y_near : Within largest_coordinate p.y

pub record SmallNumbers (e qx qy gx gy : ℤ) : Type 0 where
  pub e_small : Within em.scale e
  pub qx_small : Within largest_coordinate qx
  pub qy_small : Within largest_coordinate qy
  pub gx_small : Within largest_offset gx
  pub gy_small : Within largest_offset gy

abbrev pub Small : RelativeDisk → Type 0
Small d = SmallNumbers d.e d.qx d.qy d.gx d.gy

-- ---- the text's disks

abbrev pub in_lowest_terms : RelativeDisk → Disk
in_lowest_terms d = lowest_terms (d.qx *ℤ d.e +ℤ d.gx) (d.qy *ℤ d.e +ℤ d.gy) (nat_abs d.e) (nat_abs (norm d.gx d.gy))

pub data StandsFor (d : RelativeDisk) (c : Cover) : Type 0 where
  none : d ≡ nothing → c ≡ empty → StandsFor d c
  proper : pos 0 ≺ d.e → c ≡ disk (in_lowest_terms d) → StandsFor d c
  -- three points in a row have no circle: the text's formula gives a disk with E = 0 there, and that holds every point
  row : d.e ≡ pos 0 → d.gx ≡ pos 0 → d.gy ≡ pos 0 → (k : Disk) → c ≡ disk k → k.e ≡ 0 → ((p : Point) → holds k p ≡ true) → StandsFor d c

pub record Keeps (d : RelativeDisk) (c : Cover) : Type 0 where
  pub small : Small d
  pub stands : StandsFor d c
