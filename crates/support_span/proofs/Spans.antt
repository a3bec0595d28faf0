-- What two opposite points span.
--
--   across_spans   : two opposite points span each x strictly between theirs
--   opposite_swap  : points are opposite whichever comes first
--   spanned_more   : what is spanned stays so with a point put in
use mathlib.Core.Path.{◌≡◌, ap₂, subst}
use mathlib.Core.Bool.{true, ◌&&◌}
use mathlib.Core.List.{List}
use lib.IntN.{ℤ, pos, ◌*ℤ◌}
use lib.Signed.{◌<ℤ◌}
use Rattle.integers.specs.Order.{eq_z}
use Rattle.integers.proofs.Tests.{true_test}
use Rattle.integers.proofs.Laws.{+_comm}
use Rattle.geometry.specs.declared.Point.{Point}
use Rattle.geometry.specs.Plane.{Disk}
use Rattle.point_lists.specs.Sets.{In}
use Rattle.point_lists.specs.Rising.{insert}
use Rattle.point_lists.proofs.Rising.{insert_old}
use Rattle.support_tests.specs.Tests.{midway, opposite}
use Rattle.support_span.specs.Span.{Spanned}

pub across_spans : (d : Disk) (Q : List Point) (a b : Point) → In a Q → In b Q → opposite d a b ≡ true
    → {lo hi : ℤ} → lo ≡ a.x → hi ≡ b.x → (z : ℤ) → lo <ℤ z → z <ℤ hi → Spanned d Q z
across_spans d Q a b i j o e f z h k = record {
  a = a;
  b = b;
  a_in = i;
  b_in = j;
  across = true_test o;
  left = subst (λ (y : ℤ). y <ℤ z) e h;
  right = subst (λ (y : ℤ). z <ℤ y) f k;
}

pub opposite_swap : (d : Disk) (a b : Point) → opposite d a b ≡ opposite d b a
unfolding opposite midway
opposite_swap d a b = ap₂ (λ (x y : ℤ). eq_z (x *ℤ pos d.e) (pos 2 *ℤ d.x) && eq_z (y *ℤ pos d.e) (pos 2 *ℤ d.y)) (+_comm a.x b.x)
    (+_comm a.y b.y)

pub spanned_more : (d : Disk) (Q : List Point) (p : Point) (z : ℤ) → Spanned d Q z → Spanned d (insert p Q) z
spanned_more d Q p z s = record {
  a = s.a;
  b = s.b;
  a_in = insert_old p Q s.a_in;
  b_in = insert_old p Q s.b_in;
  across = s.across;
  left = s.left;
  right = s.right;
}
