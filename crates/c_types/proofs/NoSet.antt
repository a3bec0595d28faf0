-- A size that no support set has.
--
--   other_size : a size other than 1, 2 and 3 counts no points
--   no_points  : no record holds a set of no points
use mathlib.Core.Path.{◌≡◌, refl}
use mathlib.Core.Bool.{Bool, true, false, ◌&&◌}
use mathlib.Core.List.{[]}
use Prim.Native.Nat.{ℕ, zero, suc}
use Rattle.geometry.specs.declared.Point.{Point}
use Rattle.geometry.specs.Plane.{Disk}
use Rattle.validity.specs.Valid.{valid_in, valid_points_in, valid_disk, valid}
use Rattle.c_types.specs.Support.{counted}

pub other_size : (n : ℕ) (a b c : Point) → (n ≡ 1 → ⊥) → (n ≡ 2 → ⊥) → (n ≡ 3 → ⊥) → counted n a b c ≡ []
unfolding counted
other_size zero a b c h k l = refl
other_size (suc zero) a b c h k l = absurd (h refl)
other_size (suc (suc zero)) a b c h k l = absurd (k refl)
other_size (suc (suc (suc zero))) a b c h k l = absurd (l refl)
other_size (suc (suc (suc (suc n)))) a b c h k l = refl

and_false : (b : Bool) → b && false ≡ false
and_false true = refl
and_false false = refl

pub no_points : (d : Disk) → valid d [] ≡ false
unfolding valid_in valid_points_in
no_points d = and_false (valid_disk d)
