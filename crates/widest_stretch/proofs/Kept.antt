-- A list reduced to its hull, and the widest stretch of the points that are kept.
--
--   kept_some, kept_room : there is one such point at least, and all of them fit the list
--   kept_points          : they are the corners of the hull
--   kept_boxed           : where the list is in the em box, they are
--   kept_widest          : their widest stretch is that of the list
use mathlib.Core.Path.{◌≡◌, refl, ap, ap₂, ◌∙◌}
use mathlib.Core.Bool.{true}
use mathlib.Core.List.{List, [], ◌∷◌}
use Prim.Native.Nat.{ℕ, ◌*◌, ◌-◌, ◌≤◌}
use native.Mathlib.Omega.{arith}
use lib.IntN.{ℤ, pos}
use lib.ListN.{length, replicate}
use Rattle.geometry.specs.declared.Point.{Point}
use Rattle.geometry.specs.EmBox.{all_in_em_box}
use Rattle.geometry.specs.Points.{points, first_points}
use Rattle.geometry.proofs.EmBox.{all_inside, inside_all}
use Rattle.geometry.proofs.PointLists.{first_points-flat}
use Rattle.geometry.proofs.PointRows.{points_some}
use Rattle.hull.specs.Chains.{hull_of}
use Rattle.hull.proofs.HullOf.{hull_of_lem, hull_some}
use Rattle.hull.proofs.Different.{hull_length}
use Rattle.hull_chains.proofs.Spanning.{points_most}
use Rattle.joined_chains.specs.Laid.{laid}
use Rattle.stretches.specs.Widest.{widest_of}
use Rattle.stretches.proofs.Corners.{widest_of_hull}

no_point : (P : List Point) → 1 ≤ length P → P ≡ [] → ⊥
no_point P h e = let none : length P ≡ 0 = ap length e in omega (arith, h, none)

same_widest : (P : List Point) → (P ≡ [] → ⊥) → widest_of (hull_of P) ≡ widest_of P
same_widest [] n = absurd (n refl)
same_widest (p ∷ P) n = widest_of_hull p P

module _ (l : List ℤ) (some : 2 ≤ length l) where
  has_point : points l ≡ [] → ⊥
  has_point = no_point (points l) (points_some l some)

  pub kept_some : 1 ≤ length (hull_of (points l))
  kept_some = hull_some (points l) has_point

  pub kept_room : 2 * length (hull_of (points l)) ≤ length l
  kept_room = omega (arith, hull_length (points l), points_most l)

  module _ (n : ℕ) (m : List ℤ) (size : n ≡ length (hull_of (points l))) (left : m ≡ laid (hull_of (points l)) (length l)) where
    kept_points : first_points n m ≡ hull_of (points l)
    unfolding laid
    kept_points =
        let H = hull_of (points l) in
        ap₂ first_points size left ∙ first_points-flat H (replicate (length l - 2 * length H) (pos 0))

    pub kept_boxed : all_in_em_box (points l) ≡ true → all_in_em_box (first_points n m) ≡ true
    kept_boxed b =
        ap all_in_em_box kept_points ∙ inside_all (hull_of (points l)) (λ p i. all_inside (points l) b p ((hull_of_lem (points l)).members p i))

    pub kept_widest : widest_of (first_points n m) ≡ widest_of (points l)
    kept_widest = ap widest_of kept_points ∙ same_widest (points l) has_point
