-- Points within the hull of others.
--
--   Mean H p   == p is a weighted mean of three points of H: with whole weights, none negative and not all zero
use Rattle.std.specs.Prelude.{◌≡◌, List, ℤ, pos, ◌+ℤ◌, ◌*ℤ◌}
use Rattle.integers.specs.Order.{◌≼◌, ◌≺◌}
use Rattle.geometry.specs.declared.Point.{Point}
use Rattle.point_lists.specs.Sets.{In}

pub record Mean (H : List Point) (p : Point) : Type 0 where
  pub a : Point
  pub b : Point
  pub c : Point
  pub a_in : In a H
  pub b_in : In b H
  pub c_in : In c H
  pub α : ℤ
  pub β : ℤ
  pub γ : ℤ
  pub α_some : pos 0 ≼ α
  pub β_some : pos 0 ≼ β
  pub γ_some : pos 0 ≼ γ
  pub weight : pos 0 ≺ α +ℤ β +ℤ γ
  -- (α + β + γ)p = αa + βb + γc
  pub x_is : (α +ℤ β +ℤ γ) *ℤ p.x ≡ α *ℤ a.x +ℤ β *ℤ b.x +ℤ γ *ℤ c.x
  pub y_is : (α +ℤ β +ℤ γ) *ℤ p.y ≡ α *ℤ a.y +ℤ β *ℤ b.y +ℤ γ *ℤ c.y
