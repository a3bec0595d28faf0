-- Points in a list of numbers.
--
--   span a e l       == the points of the list l from point a on and before point e
use Rattle.std.specs.Prelude.{List, ℕ, ℤ, drop}
use Rattle.geometry.specs.declared.Point.{Point}
use Rattle.geometry.specs.Points.{first_points}

abbrev pub span : ℕ → ℕ → List ℤ → List Point
span a e l = drop a (first_points e l)
