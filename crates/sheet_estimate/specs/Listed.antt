-- What the inner function is given.
--
--   Listed s n ps rs   == the sheet s is not too long, n pairs of its directory lie in it, and the lists ps and rs have a place for each
use Rattle.std.specs.Prelude.{List, ℕ, ◌+◌, ◌*◌, ◌≤◌, length}

pub record Listed (s : List ℕ) (n : ℕ) (ps rs : List ℕ) : Type 0 where
  pub directory : 2 + 4 * n ≤ length s
  pub short : length s ≤ 65535
  pub points_room : n ≤ length ps
  pub refusals_room : n ≤ length rs
