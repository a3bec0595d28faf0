-- Points in front of a list (02, item 8).
--
--   laid H n            == a list of n numbers with the points H in front, and zeros behind
--   joined lower upper  == the points of the list `lower`, and those of `upper` without the first and the last of these
use Rattle.std.specs.Prelude.{List, ◌++◌, ℕ, ◌*◌, ◌-◌, ℤ, pos, length, replicate}
use Rattle.geometry.specs.declared.Point.{Point}
use Rattle.geometry.specs.Points.{points, flat}
use Rattle.hull.specs.Chains.{inner}

unfoldable pub laid : List Point → ℕ → List ℤ
laid H n = flat H ++ replicate (n - 2 * length H) (pos 0)

abbrev pub joined : List ℤ → List ℤ → List Point
joined lower upper = points lower ++ inner (points upper)
