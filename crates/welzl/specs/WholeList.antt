-- What the procedure on a whole list asks of it.
--
--   AllGiven list  == 1 to 4,096 points, all in the em box
use Rattle.std.specs.Prelude.{◌≡◌, true, List, ◌%◌, ◌≤◌, ◌<◌, ℤ, length}
use Rattle.geometry.specs.EmBox.{all_in_em_box}
use Rattle.geometry.specs.Points.{points}

pub record AllGiven (list : List ℤ) : Type 0 where
  pub even : length list % 2 ≡ 0
  pub some : 0 < length list
  pub few : length list ≤ 8192
  pub boxed : all_in_em_box (points list) ≡ true
