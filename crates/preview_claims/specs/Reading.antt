-- The number that a float's 64 bits stand for, "a whole number times a power of two, from its bits" (02, item 14), by the fields of IEEE 754's binary64:
-- one bit of sign, eleven of exponent, 52 of fraction.
--
--   Dyadic             == a whole number times a power of two: whole · 2^power
--   read_fields s x t   == the number that sign, exponent and fraction stand for; none where the exponent is 2047, as infinities and NaNs have it
--   read_bits b         == the number that the bits b stand for
--   IsValue v q        == q is the number that the float v is by the library's account, none for an infinity and the NaN
--
-- `fin s m e` of that account is m·2^e, negative where s is true; 2^e is the fraction up e / down e of whole numbers.
use Rattle.std.specs.Prelude.{◌≡◌, Bool, cond, ℕ, zero, suc, ◌+◌, ◌*◌, ◌/◌, ◌%◌, ◌^◌, leb, eqb, ℤ, pos, ◌-ℤ◌, ◌*ℤ◌, Float}
use Rattle.std.proofs.Math.Option.{Option, none, some}
use Rattle.std.specs.Float.{nan, inf, fin}
use Rattle.std.specs.Float.Ieee.{up, down}
use Rattle.integers.specs.Order.{signed}

pub record Dyadic : Type 0 where
  pub whole : ℤ
  pub power : ℤ

-- ± t · 2^−1074 for the exponent 0; from 1 on ± (2^52 + t) · 2^(exponent − 1075), where a 1 that is not written stands before the fraction
abbrev pub read_fields : Bool → ℕ → ℕ → Option Dyadic
read_fields s zero t = some (record { whole = signed s t; power = pos 0 -ℤ pos 1074 })
read_fields s (suc x) t = cond (eqb (suc x) 2047) none (some (record { whole = signed s (2 ^ 52 + t); power = pos x -ℤ pos 1074 }))

unfoldable pub read_bits : ℕ → Option Dyadic
read_bits b = read_fields (leb (2 ^ 63) b) (b / 2 ^ 52 % 2 ^ 11) (b % 2 ^ 52)

abbrev pub IsValue : Float → Option Dyadic → Type 0
IsValue nan q = q ≡ none
IsValue (inf s) q = q ≡ none
IsValue (fin s m e) none = ⊥
IsValue (fin s m e) (some q) = q.whole *ℤ pos (up q.power * down e) ≡ signed s (m * up e) *ℤ pos (down q.power)
