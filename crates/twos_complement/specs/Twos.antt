-- Signed numbers in fields of n bytes: two's complement (01: "X, Y (signed)", "2 bytes each, signed").
--
--   Width n     == n is from 1 to 8
--   half n      == half the numbers of n bytes: a signed number z of n bytes has mag z below it
--   twos n z    == the n bytes of z, as a number: z itself, or 2^(8n) + z where z is negative
--   back n u    == the number whose n bytes are u
--
-- The laws are in proofs/TwosLaws.
use Rattle.std.specs.Prelude.{Bool, true, false, ℕ, suc, ◌+◌, ◌-◌, ◌*◌, ◌^◌, ◌≤◌, ltb, ℤ, pos, negsuc}

pub record Width (n : ℕ) : Type 0 where
  pub some : 1 ≤ n
  pub few : n ≤ 8

abbrev pub half : ℕ → ℕ
half n = 2 ^ (8 * n - 1)

unfoldable pub twos : ℕ → ℤ → ℕ
twos n (pos m) = m
twos n (negsuc m) = half n + half n - suc m

abbrev pub pick_z : Bool → ℤ → ℤ → ℤ
pick_z true a b = a
pick_z false a b = b

unfoldable pub back : ℕ → ℕ → ℤ
back n u = pick_z (ltb u (half n)) (pos u) (negsuc (half n + half n - suc u))
