-- An accepted list: what the answers of the procedure and the search, given for the list as it is left, say of the list as it came.
--
--   points_left    : the points of the list left
--   order_same     : they are the points that came
--   disk_left, support_left : so it has the same disk and the same first support set
--   box_left       : the list left is in the em box where the list that came is
--   front_left     : its first point is on the boundary of the disk
use mathlib.Core.Path.{◌≡◌, refl, sym, ap, ◌∙◌, subst}
use mathlib.Core.Bool.{true}
use mathlib.Core.List.{List, [], ◌∷◌}
use Prim.Native.Nat.{◌≤◌}
use native.Mathlib.Omega.{arith}
use lib.IntN.{ℤ}
use lib.ListN.{length}
use Rattle.geometry.specs.declared.Point.{Point}
use Rattle.geometry.specs.EmBox.{all_in_em_box}
use Rattle.geometry.specs.Plane.{on_boundary}
use Rattle.geometry.specs.Points.{points, flat, point_at}
use Rattle.geometry.proofs.EmBox.{box_members, members_box}
use Rattle.geometry.proofs.PointLists.{points_of_flat}
use Rattle.point_lists.specs.Sets.{Same}
use Rattle.disks.specs.Procedure.{disk_of, order_of}
use Rattle.disks.specs.Support.{first_support}
use Rattle.disks.proofs.Lists.{perm_same}
use Rattle.disks.proofs.EveryRun.{run_length}
use Rattle.disks.proofs.Welzl.{disk_same, order_permuted}
use Rattle.disks.proofs.First.{first_support_same}
use Rattle.fixed_points.proofs.OnBoundary.{front_on}

pub order_same : (P : List Point) → Same (order_of P) P
order_same P = perm_same (order_permuted P)

module _ (P : List Point) {m : List ℤ} (left : m ≡ flat (order_of P)) where
  points_left : points m ≡ order_of P
  points_left = ap points left ∙ points_of_flat (order_of P)

  pub same_left : Same (points m) P
  same_left = subst (λ (Q : List Point). Same Q P) (sym points_left) (order_same P)

  pub disk_left : disk_of (points m) ≡ disk_of P
  disk_left = disk_same (points m) P same_left

  pub support_left : first_support (points m) ≡ first_support P
  support_left = first_support_same (points m) P same_left

-- the list left is in the box where the list that came is
pub box_left : (P : List Point) {m : List ℤ} → m ≡ flat (order_of P) → all_in_em_box P ≡ true → all_in_em_box (points m) ≡ true
box_left P {m} left box = members_box (points m) (λ p i. box_members P box p ((same_left P left).to p i))

first : (q : Point) (L : List Point) → point_at (flat (q ∷ L)) 0 ≡ q
unfolding flat
first q L = refl

-- the procedure leaves a point of the boundary in front
pub front_left : (P : List Point) {m : List ℤ} → m ≡ flat (order_of P) → 1 ≤ length P → on_boundary (disk_of P) (point_at m 0)
front_left [] left some = absurd (omega arith)
front_left (p ∷ P) {m} left some = go (order_of (p ∷ P)) refl
  where
    go : (Q : List Point) → order_of (p ∷ P) ≡ Q → on_boundary (disk_of (p ∷ P)) (point_at m 0)
    go [] e = absurd (omega (arith, ap length e, run_length 3 [] (p ∷ P)))
    go (q ∷ L) e =
        subst (on_boundary (disk_of (p ∷ P))) (sym (ap (λ (l : List ℤ). point_at l 0) (left ∙ ap flat e) ∙ first q L)) (front_on p P q L e)
