-- A point written into a list of numbers, x and y by turns.
--
--   put_at l i p  == the numbers l with p as point i
use Rattle.std.specs.Prelude.{List, ℕ, ◌+◌, ◌*◌, ℤ, set}
use Rattle.geometry.specs.declared.Point.{Point}

abbrev pub put_at : List ℤ → ℕ → Point → List ℤ
put_at l i p = set (set l (2 * i) p.x) (2 * i + 1) p.y
