-- How many bytes S can have.
--
--   SWidth n   == n is from 8 to 16, so that two words hold a number of n bytes
use Rattle.std.specs.Prelude.{ℕ, ◌≤◌}

pub record SWidth (n : ℕ) : Type 0 where
  pub from_eight : 8 ≤ n
  pub to_sixteen : n ≤ 16
