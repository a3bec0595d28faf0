-- What is read from a float's bits is what the library's account of floats has them stand for.
--
--   Read, NoNumber    : a float and what is read from its bits, with its size in units of 2⁻¹⁰⁷⁴; or neither is a number
--   read_bits_lem         : of the float of any bits, one of the two holds
--   reading           : what is read is the float's number
use mathlib.Core.Path.{◌≡◌, refl, sym, ap, ◌∙◌, subst}
use mathlib.Core.Logic.{◌⊎◌, inl, inr}
use mathlib.Core.Bool.{Bool, true, false, not, cond, true≢false}
use mathlib.Core.Option.{Option, none, some}
use Prim.Native.Nat.{ℕ, zero, suc, ◌+◌, ◌-◌, ◌*◌, ◌/◌, ◌%◌, ◌^◌, ◌≤◌, ◌<◌}
use native.Mathlib.Nat.{mul_assoc, mul_right_comm, eq_of_mul-eq-mul_right, mod-lt}
use native.Mathlib.Omega.{arith}
use lib.Arith.{mod-mul, digits_div}
use lib.Dec.{T, leb, ltb, eqb, leb→le, nleb→lt, ltb→lt, nltb→le, lit<}
use lib.IntN.{ℤ, pos, negsuc, ◌-ℤ◌}
use lib.Pow.{pow_pos}
use lib.Ieee.{Float, nan, inf, fin, binary64, up, down, minus, odd, of_fields, of_bits}
use lib.Ieee.Digits.{minus_val}
use lib.Ieee.Exact.{HasValue, odd_sign}
use lib.Ieee.Scale.{finite}
use Rattle.integers.specs.Order.{signed}
use Rattle.integers.proofs.Signs.{signed-*}
use Rattle.preview_claims.specs.Reading.{Dyadic, read_fields, read_bits, IsValue}

pub record Read (v : Float) (q : Option Dyadic) : Type 0 where
  pub sign : Bool
  pub size : ℕ
  pub power : ℤ
  pub units : ℕ
  pub is : q ≡ some (record { whole = signed sign size; power = power })
  pub in_units : HasValue v sign units (2 ^ 1074)
  pub scaled : size * up power * 2 ^ 1074 ≡ units * down power

pub record NoNumber (v : Float) (q : Option Dyadic) : Type 0 where
  pub not_finite : finite v ≡ false
  pub is_none : q ≡ none

-- ---- a power of two by the difference of its exponents

same_minus : (a l : ℕ) → minus a (suc l) ≡ pos a -ℤ pos (suc l)
same_minus a l = go (leb (suc l) a) (ltb a (suc l)) (leb→le (suc l) a) (nleb→lt (suc l) a) (ltb→lt a (suc l)) (nltb→le a (suc l))
  where
    apart : suc l ≤ a → a < suc l → ⊥
    apart h k = omega arith

    go : (b c : Bool) → (T b → suc l ≤ a) → (T (not b) → a < suc l) → (T c → a < suc l) → (T (not c) → suc l ≤ a)
        → cond b (pos (a - suc l)) (negsuc (suc l - suc a)) ≡ cond c (negsuc (suc l - suc a)) (pos (a - suc l))
    go true false h k m n = refl
    go false true h k m n = refl
    go true true h k m n = absurd (apart (h tt) (m tt))
    go false false h k m n = absurd (apart (n tt) (k tt))

-- m digits with x zeros behind, in units of 2⁻¹⁰⁷⁴
digits_read : (s : Bool) (m x : ℕ) → Read (odd 53 s m x 1074) (some (record { whole = signed s m; power = pos x -ℤ pos 1074 }))
digits_read s m x = record {
  sign = s;
  size = m;
  power = pos x -ℤ pos 1074;
  units = m * 2 ^ x;
  is = refl;
  in_units = odd_sign 53 s m x 1074;
  scaled = subst (λ (p : ℤ). m * up p * 2 ^ 1074 ≡ m * 2 ^ x * down p) (same_minus x 1073) (minus_val m x 1074);
}

-- ---- fields

never : (s : Bool) (t : ℕ) → NoNumber (cond (eqb t 0) (inf s) nan) none
never s t = go (eqb t 0)
  where
    go : (b : Bool) → NoNumber (cond b (inf s) nan) none
    go true = record { not_finite = refl; is_none = refl }
    go false = record { not_finite = refl; is_none = refl }

read_fields_lem : (s : Bool) (x t : ℕ) → Read (of_fields binary64 s x t) (read_fields s x t) ⊎ NoNumber (of_fields binary64 s x t) (read_fields s x t)
unfolding of_fields
read_fields_lem s zero t = inl (digits_read s t 0)
read_fields_lem s (suc x) t = go (eqb (suc x) 2047)
  where
    float : Bool → Float
    float b = cond b (cond (eqb t 0) (inf s) nan) (odd 53 s (2 ^ 52 + t) x 1074)

    number : Bool → Option Dyadic
    number b = cond b none (some (record { whole = signed s (2 ^ 52 + t); power = pos x -ℤ pos 1074 }))

    go : (b : Bool) → Read (float b) (number b) ⊎ NoNumber (float b) (number b)
    go true = inr (never s t)
    go false = inl (digits_read s (2 ^ 52 + t) x)

-- the exponent's field, cut off above or below first
same_exponent : (b : ℕ) → b % (2 ^ 11 * 2 ^ 52) / 2 ^ 52 ≡ b / 2 ^ 52 % 2 ^ 11
same_exponent b =
    ap (λ (n : ℕ). n / 2 ^ 52) (mod-mul b (lit< tt) (lit< tt)) ∙ digits_div (b / 2 ^ 52 % 2 ^ 11) (mod-lt b (lit< tt))

pub read_bits_lem : (b : ℕ) → Read (of_bits binary64 b) (read_bits b) ⊎ NoNumber (of_bits binary64 b) (read_bits b)
unfolding of_bits read_bits
read_bits_lem b =
    let s = leb (2 ^ 63) b in
    let t = b % 2 ^ 52 in
    subst (λ (x : ℕ). Read (of_fields binary64 s x t) (read_bits b) ⊎ NoNumber (of_fields binary64 s x t) (read_bits b))
    (sym (same_exponent b)) (read_fields_lem s (b / 2 ^ 52 % 2 ^ 11) t)

-- ---- the number of a float

-- M/D is W/L and W/L is g/l, so M/D is g/l
pub across : (M D W L g l : ℕ) → 0 < L → M * L ≡ W * D → W * l ≡ g * L → M * l ≡ g * D
across M D W L g l h p q =
    eq_of_mul-eq-mul_right L h (M * l) (g * D)
    (mul_right_comm M l L ∙ ap (λ (z : ℕ). z * l) p ∙ mul_right_comm W D l ∙ ap (λ (z : ℕ). z * D) q ∙ mul_right_comm g L D)

is_number : (v : Float) (q : Option Dyadic) → Read v q → IsValue v q
is_number nan q r = absurd r.in_units
is_number (inf s) q r = absurd r.in_units
is_number (fin s m e) q r =
    let p = r.power in
    let same : r.size * up p * down e ≡ m * up e * down p =
    across (r.size * up p) (down p) r.units (2 ^ 1074) (m * up e) (down e) (pow_pos 1074) r.scaled (sym r.in_units.1) in
    subst (IsValue (fin s m e)) (sym r.is)
    (sym (signed-* r.sign r.size (up p * down e))
    ∙ ap (signed r.sign) (sym (mul_assoc r.size (up p) (down e)) ∙ same)
    ∙ ap (λ (t : Bool). signed t (m * up e * down p)) (sym r.in_units.0)
    ∙ signed-* s (m * up e) (down p))

no_number : (v : Float) (q : Option Dyadic) → NoNumber v q → IsValue v q
no_number nan q n = n.is_none
no_number (inf s) q n = n.is_none
no_number (fin s m e) q n = absurd (true≢false n.not_finite)

pub reading : (b : ℕ) → IsValue (of_bits binary64 b) (read_bits b)
reading b = elim (read_bits_lem b) [ inl r ↦ is_number (of_bits binary64 b) (read_bits b) r | inr n ↦ no_number (of_bits binary64 b) (read_bits b) n ]
