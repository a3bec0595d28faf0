-- Points that the search can leave out: those with an x strictly between the x of two opposite points (crate support, proofs/Kept.antt).
--
--   Spanned d Q z           == two opposite points of Q have their x on both sides of z
--   Spans d Q s             == each z strictly within s is spanned
--   strictly_within s z      == the test of it
use Rattle.std.specs.Prelude.{Bool, ◌&&◌, List, T, ℤ, ◌<ℤ◌}
use Rattle.std.specs.Int.Signed.{lt_z}
use Rattle.geometry.specs.declared.Point.{Point}
use Rattle.geometry.specs.Plane.{Disk}
use Rattle.point_lists.specs.Sets.{In}
use Rattle.support_tests.specs.Tests.{opposite}
use Rattle.support_span.specs.declared.Span.{Span}

pub record Spanned (d : Disk) (Q : List Point) (z : ℤ) : Type 0 where
  pub a : Point
  pub b : Point
  pub a_in : In a Q
  pub b_in : In b Q
  pub across : T (opposite d a b)
  pub left : a.x <ℤ z
  pub right : z <ℤ b.x

abbrev pub Spans : Disk → List Point → Span → Type 0
Spans d Q s = (z : ℤ) → s.lo <ℤ z → z <ℤ s.hi → Spanned d Q z

abbrev pub strictly_within : Span → ℤ → Bool
strictly_within s z = lt_z s.lo z && lt_z z s.hi
