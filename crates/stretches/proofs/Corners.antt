-- The ends of the widest stretch are corners of the hull.
--
--   apart_is        : the squared distance, as a number of ℤ
--   farthest_corner : a point of P that no point of P is farther from q than is a corner
--   widest_hull     : the widest stretch of P is that of its hull
--   widest_of_hull  : and so `widest_of` of the hull is that of the list
use mathlib.Core.Path.{◌≡◌, refl, sym, ◌∙◌, subst}
use mathlib.Core.List.Memᴰ
use mathlib.Core.List.{List, [], ◌∷◌}
use Prim.Native.Nat.{ℕ, ◌≤◌}
use lib.IntN.{ℤ, pos, ◌-ℤ◌, ◌*ℤ◌}
use lib.Signed.{yes_non_neg, pos-nat_abs}
use Rattle.integers.specs.Order.{◌≼◌, ◌≺◌}
use Rattle.integers.proofs.Ring.{ring, poly}
use Rattle.integers.proofs.Order.{positive, pos_le, sq, nn, ◌⊞◌}
use Rattle.geometry.specs.declared.Point.{Point}
use Rattle.point_lists.specs.Sets.{In}
use Rattle.disks.specs.Procedure.{norm}
use Rattle.hull.specs.Hull.{IsHull}
use Rattle.hull.specs.Chains.{hull_of}
use Rattle.hull.proofs.Means.{mean}
use Rattle.hull.proofs.Convex as Convex
use Rattle.hull.proofs.Convex.{a_corner}
use Rattle.hull.proofs.HullOf.{hull_of_lem}
use Rattle.stretches.specs.declared.Stretch.{Stretch}
use Rattle.stretches.specs.Widest.{apart, Widest, widest_of}
use Rattle.stretches.proofs.Found.{apart_comm, widest_of_lem, widest_unique}

pub apart_is : (p q : Point) → pos (apart p q) ≡ norm (q.x -ℤ p.x) (q.y -ℤ p.y)
apart_is p q = pos-nat_abs (norm (q.x -ℤ p.x) (q.y -ℤ p.y)) (yes_non_neg (sq (q.x -ℤ p.x) ⊞ sq (q.y -ℤ p.y)))

-- the distance from q, as that from the centre (x/1, y/1)
abbrev from : Point → Point → ℤ
from q r = pos 1 *ℤ Convex.apart q.x q.y (pos 1) r

from_is : (q r : Point) → from q r ≡ pos (apart q r)
from_is q r = same q r ∙ sym (apart_is q r)
  where
    same : (q r : Point) → from q r ≡ norm (r.x -ℤ q.x) (r.y -ℤ q.y)
    same q r = ring (q.x ∷ q.y ∷ r.x ∷ r.y ∷ []) (search poly depth 30) tt

one : pos 0 ≺ pos 1
one = positive [] (nn 0) (search poly depth 30) tt

module _ {P H : List Point} (h : IsHull P H) where
  farthest_corner : (p q : Point) → In p P → ((r : Point) → In r P → apart q r ≤ apart q p) → In p H
  farthest_corner p q i f = a_corner q.x q.y (pos 1) (pos 1) (from q p) within (mean H h p i) one one refl
    where
      within : (r : Point) → In r H → from q r ≼ from q p
      within r j = subst (λ (z : ℤ). z ≼ from q p) (sym (from_is q r))
          (subst (λ (z : ℤ). pos (apart q r) ≼ z) (sym (from_is q p)) (pos_le (f r (h.members r j))))

  pub widest_hull : {s : Stretch} → Widest P s → Widest H s
  widest_hull {s} v = record {
    a_in = farthest_corner s.a s.b v.a_in (λ r i. at (apart_comm s.b s.a) (v.most s.b r v.b_in i));
    b_in = farthest_corner s.b s.a v.b_in (λ r i. at refl (v.most s.a r v.a_in i));
    rises = v.rises;
    w_is = v.w_is;
    most = λ p q i j. v.most p q (h.members p i) (h.members q j);
    least = λ p q i j. v.least p q (h.members p i) (h.members q j);
  }
    where
      at : {m n : ℕ} → n ≡ apart s.a s.b → m ≤ s.w → m ≤ n
      at {m} e k = subst (λ (n : ℕ). m ≤ n) (v.w_is ∙ sym e) k

pub widest_of_hull : (p : Point) (P : List Point) → widest_of (hull_of (p ∷ P)) ≡ widest_of (p ∷ P)
widest_of_hull p P = go (hull_of (p ∷ P)) (widest_hull (hull_of_lem (p ∷ P)) (widest_of_lem p P))
  where
    go : (H : List Point) → Widest H (widest_of (p ∷ P)) → widest_of H ≡ widest_of (p ∷ P)
    go [] v = absurd (Memᴰ.not-nil v.a_in)
    go (q ∷ Q) v = widest_unique (widest_of_lem q Q) v
