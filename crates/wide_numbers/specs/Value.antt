-- The number that two words stand for.
--
--   value w   == hi · 2^64 + lo
use Rattle.std.specs.Prelude.{ℕ, ◌+◌, ◌*◌, ◌^◌}
use Rattle.wide_numbers.specs.declared.Wide.{Wide}

abbrev pub value : Wide → ℕ
value w = w.hi * 2 ^ 64 + w.lo
