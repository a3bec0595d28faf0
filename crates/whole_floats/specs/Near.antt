-- What the reader of a float answers: far numbers need not be told apart, since no em box reaches them.
--
--   far         == 2^53
--   near z      == z, or `far` where z is of that size or more
--   near_of v    == the whole number that v stands for, so written; or 11
--   whole_or_11 r == the number, or 11, of an answer r
use Rattle.std.specs.Prelude.{ℕ, ◌^◌, cond, ℤ, pos, nat_lt, unsigned_abs, Option, Some, None, Float}
use Rattle.answers.specs.Outcome.{Outcome, given, refused, and_then}
use Rattle.whole_floats.specs.Whole.{whole_of}

abbrev pub far : ℕ
far = 2 ^ 53

abbrev pub near : ℤ → ℤ
near z = cond (nat_lt (unsigned_abs z) far) z (pos far)

abbrev pub near_of : Float → Outcome ℤ
near_of v = and_then (whole_of v) (λ z. given (near z))

abbrev pub whole_or_11 : Option ℤ → Outcome ℤ
whole_or_11 (Some z) = given z
whole_or_11 None = refused 11
