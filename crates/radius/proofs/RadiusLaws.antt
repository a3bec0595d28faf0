-- The whole radius is the least number whose circle keeps clear of the disk.
--
--   clears_less       : a number that is not larger than one that does not clear does not either
--   clears_limit      : `max_radius` clears, where S/E² keeps to its limit
--   radius_is_least   : `whole_radius d` is the least number that clears, where E is at least 1
--   radius_only       : and the only one
--   radius_limit      : no whole radius is larger than `max_radius`
use mathlib.Core.Path.{◌≡◌}
use mathlib.Core.Bool.{true, false}
use Prim.Native.Nat.{ℕ, suc, ◌*◌, ◌≤◌}
use native.Mathlib.Nat.{mul-le-mul, mul-le-mul_right, mul-lt-mul_of_pos_right, le-mul_of_pos_right, le_trans, lt_of_le_of_lt}
use native.Mathlib.Omega.{arith}
use borrow.Author.Tests.{lt-ltb, le-ltb, ltb-false}
use lib.Dec.{lit<}
use Rattle.geometry.specs.Plane.{Disk}
use Rattle.geometry.specs.EmBox.{em}
use Rattle.integers.specs.Least.{IsLeast}
use Rattle.radius.specs.Radius.{clears, whole_radius, max_radius}
use Rattle.integers.proofs.LeastLaws.{least_is, least_most, only_least}
use Rattle.validity.proofs.ValidLaws.{DiskBounds}

pub clears_less : (d : Disk) {r q : ℕ} → r ≤ q → clears d q ≡ false → clears d r ≡ false
clears_less d {r} {q} l h =
    le-ltb d.s (r * r * (d.e * d.e))
    (le_trans (mul-le-mul_right (d.e * d.e) (mul-le-mul l l)) (ltb-false d.s (q * q * (d.e * d.e)) h))

pub clears_limit : (d : Disk) → DiskBounds em d → clears d max_radius ≡ true
clears_limit d k =
    lt-ltb d.s (max_radius * max_radius * (d.e * d.e))
    (lt_of_le_of_lt k.s_small (mul-lt-mul_of_pos_right (lit< {m = em.square} {n = max_radius * max_radius} tt) (mul-le-mul k.e_some k.e_some)))

-- S + 1 clears
pub radius_is_least : (d : Disk) → 1 ≤ d.e → IsLeast (clears d) (whole_radius d)
radius_is_least d h =
    let n = suc d.s in
    least_is (clears d) n
    (lt-ltb d.s (n * n * (d.e * d.e)) (le_trans (le-mul_of_pos_right n (omega arith)) (le-mul_of_pos_right (n * n) (mul-le-mul h h))))

pub radius_only : (d : Disk) {r : ℕ} → 1 ≤ d.e → IsLeast (clears d) r → r ≡ whole_radius d
radius_only d h i = only_least i (radius_is_least d h)

pub radius_limit : (d : Disk) → DiskBounds em d → whole_radius d ≤ max_radius
radius_limit d k = least_most (radius_is_least d k.e_some) (clears_limit d k)
