-- The tests of a set of one to three points on a disk's boundary, by their coordinates and the disk's numbers: whether the disk is the set's own
-- smallest disk, without working that out (proofs/SetTests.antt).
--
--   on_boundary_test d p  == p is on d's boundary (01: on the rim), as a test
--   midway a b e c      == c/e is midway between a and b
--   opposite d p q      == d's centre is midway between p and q
--   acute_at a b c       == the angle at a of the triangle a b c is acute
--   acute p q r         == its three angles are
--   fits d T            == the test of a set of one, two or three points on d's boundary: the radius is 0, the two are opposite, the
--                          three angles are acute
--   SmallPair e c           == e and c are small enough that the tests of v·e − c and 2c fit 64 bits; SmallDisk d: those of d are
use Rattle.std.specs.Prelude.{Bool, false, ◌&&◌, List, [], ◌∷◌, ℕ, ◌*◌, ◌≤◌, eqb, ℤ, pos, nat_abs, ◌+ℤ◌, ◌-ℤ◌, ◌*ℤ◌}
use Rattle.std.specs.Int.Signed.{lt_z}
use Rattle.integers.specs.Order.{eq_z}
use Rattle.geometry.specs.declared.Point.{Point}
use Rattle.geometry.specs.EmBox.{em, largest}
use Rattle.geometry.specs.Plane.{Disk, distance}

unfoldable pub on_boundary_test : Disk → Point → Bool
on_boundary_test d p = eq_z (distance d p) (pos d.s)

-- (a + b)e = 2c
unfoldable pub midway : ℤ → ℤ → ℕ → ℤ → Bool
midway a b e c = eq_z ((a +ℤ b) *ℤ pos e) (pos 2 *ℤ c)

unfoldable pub opposite : Disk → Point → Point → Bool
opposite d p q = midway p.x q.x d.e d.x && midway p.y q.y d.e d.y

-- (b − a)·(c − a) > 0
unfoldable pub acute_at : Point → Point → Point → Bool
acute_at a b c = lt_z (pos 0) ((b.x -ℤ a.x) *ℤ (c.x -ℤ a.x) +ℤ (b.y -ℤ a.y) *ℤ (c.y -ℤ a.y))

unfoldable pub acute : Point → Point → Point → Bool
acute p q r = acute_at p q r && (acute_at q r p && acute_at r p q)

-- a set has one to three points: the other clauses are never reached
unfoldable pub fits : Disk → List Point → Bool
fits d [] = false
fits d (p ∷ []) = eqb d.s 0
fits d (p ∷ q ∷ []) = opposite d p q
fits d (p ∷ q ∷ r ∷ []) = acute p q r
fits d (p ∷ q ∷ r ∷ t ∷ T) = false

pub record SmallPair (e : ℕ) (c : ℤ) : Type 0 where
  pub e_most : e ≤ em.scale
  pub c_most : nat_abs c ≤ largest em * em.scale

abbrev pub SmallDisk : Disk → Type 0
SmallDisk d = SmallPair d.e d.x × SmallPair d.e d.y
