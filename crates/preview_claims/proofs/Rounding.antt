-- A fraction no larger than a coordinate of the em box, rounded to a float, is off by 2⁻⁴³ at most.
--
--   Close         : a float that stands for a fraction at most 1/P from a/c
--   round_close   : a/c rounded is such a float, with 2⁴³ for P
use mathlib.Core.Path.{◌≡◌, sym, ap, ◌∙◌, subst}
use mathlib.Core.Logic.{inl, inr}
use mathlib.Core.Bool.{Bool, not}
use Prim.Native.Nat.{ℕ, zero, suc, ◌+◌, ◌-◌, ◌*◌, ◌/◌, ◌%◌, ◌^◌, ◌≤◌, ◌<◌, compare, Ordering}
use native.Mathlib.Nat.{le_trans, le_of_eq, lt_of_lt_of_le, eq-or-lt_of_le, add-zero, mul-one, mul_assoc, mul_comm, mul_right_comm, suc-mul}
use native.Mathlib.Nat.{mul-le-mul_left, mul-le-mul_right, mul-lt-mul_of_pos_right, mul-pos, mod-lt, div-add-mod', div-lt_iff_lt-mul}
use native.Mathlib.Numerals.{add-one}
use native.Mathlib.Omega.{arith}
use lib.Arith.{lt_of_le-ne}
use lib.Dec.{T, is_le, compare_is_eq, eqb, leb→le, nleb→lt, eqb→eq, eqb_refl, lit<, lit≤}
use lib.Pow.{pow_pos, pow_mono}
use lib.Ieee.{Float, binary64, prec, low, size, nearest, round}
use lib.Ieee.Back.{round_whole}
use lib.Ieee.Digits.{size-le}
use lib.Ieee.Exact.{HasValue}
use lib.Ieee.Nearest.{closest}
use lib.Ieee.Order.{drop, kept}
use lib.Ieee.Scale.{round_same, grid}
use Rattle.geometry.specs.EmBox.{em, largest}
use Rattle.preview.proofs.Finite.{round-value}
use Rattle.preview_claims.proofs.Apart.{Apart, equal_apart, wider, finer}

-- ---- rounding to the nearest whole number is off by a half at most

abbrev Cmp : Ordering → ℕ → ℕ → Type 0
Cmp Ordering.lt a b = a < b
Cmp Ordering.eq a b = a ≡ b
Cmp Ordering.gt a b = b < a

cmp : (a b : ℕ) → Cmp (compare a b) a b
cmp a b = go (compare a b) (leb→le a b) (nleb→lt a b) (eqb→eq a b) (λ (e : a ≡ b). subst (λ (x : ℕ). T (eqb a x)) e (eqb_refl a))
  where
    go : (o : Ordering) → (T (is_le o) → a ≤ b) → (T (not (is_le o)) → b < a) → (T (compare_is_eq o) → a ≡ b) → (a ≡ b → T (compare_is_eq o)) → Cmp o a b
    go Ordering.lt h k e n = lt_of_le-ne (h tt) n
    go Ordering.eq h k e n = e tt
    go Ordering.gt h k e n = k tt

module _ (q u r n : ℕ) (whole : q * u + r ≡ n) (rest : r < u) where
  off_up : u ≤ r * 2 → Apart 2 u (suc q * u) n
  off_up h = let s : suc q * u ≡ q * u + u = suc-mul q u in record { not_above = omega arith; not_below = omega arith }

  off_down : r * 2 ≤ u → Apart 2 u (q * u) n
  off_down h = record { not_above = omega arith; not_below = omega arith }

  off_tie : (t : ℕ) → t < 2 → r * 2 ≡ u → Apart 2 u ((q + t) * u) n
  off_tie zero two h = rw add-zero (off_down (le_of_eq h))
  off_tie (suc zero) two h = rw add-one (off_up (le_of_eq (sym h)))
  off_tie (suc (suc t)) two h = absurd (no_more t two)
    where
      no_more : (t : ℕ) → suc (suc t) < 2 → ⊥
      no_more t h = omega arith

  nearest_off : (o : Ordering) → Cmp o (r * 2) u → Apart 2 u (nearest q o * u) n
  nearest_off Ordering.lt h = off_down (omega arith)
  nearest_off Ordering.eq h = off_tie (q % 2) (mod-lt q (lit< tt)) h
  nearest_off Ordering.gt h = off_up (omega arith)

closest_off : (n u : ℕ) → 0 < u → Apart 2 u (closest n u * u) n
closest_off n u h = nearest_off (n / u) u (n % u) n (div-add-mod' n u) (mod-lt n h) (compare (n % u * 2) u) (cmp (n % u * 2) u)

-- ---- close to a fraction

pub record Close (P a c : ℕ) (v : Float) (s : Bool) : Type 0 where
  -- the float's size, a fraction
  pub over : ℕ
  pub under : ℕ
  pub some : 0 < under
  pub value : HasValue v s over under
  pub near : Apart P (c * under) (over * c) (a * under)

-- a/c rounded to N units of K/L each, where T units make 1 at most, is off by 1/(2T) at most
in_units : (N K L T a c : ℕ) → K * T ≤ L → Apart 2 (c * K) (N * (c * K)) (a * L) → Apart (2 * T) (c * L) (N * K * c) (a * L)
in_units N K L T a c unit h =
    let same : N * (c * K) ≡ N * K * c = ap (λ (z : ℕ). N * z) (mul_comm c K) ∙ sym (mul_assoc N K c) in
    let most : c * K * T ≤ c * L = le_trans (le_of_eq (mul_assoc c K T)) (mul-le-mul_left c unit) in
    wider most (subst (λ (z : ℕ). Apart (2 * T) (c * K * T) z (a * L)) same (finer T h))

-- ---- a fraction no larger than a coordinate, rounded

module _ (s : Bool) (a c : ℕ) (some : 0 < c) where
  abbrev dropped : ℕ
  dropped = drop (prec binary64) (a * 2 ^ low binary64) c

  -- below 2048, of which 1074 + 11 digits are in units of the format, at most 1032 digits are dropped
  dropped_most : a < largest em * c → dropped ≤ 1032
  dropped_most h = spare (size (a * 2 ^ 1074 / c)) (size-le (a * 2 ^ 1074 / c) (53 + 1032) ((div-lt_iff_lt-mul some).1 small))
    where
      small : a * 2 ^ 1074 < 2 ^ (53 + 1032) * c
      small = lt_of_lt_of_le (mul-lt-mul_of_pos_right h (pow_pos 1074)) (le_of_eq (mul_right_comm (2 ^ 11) c (2 ^ 1074)))

      spare : (z : ℕ) → z ≤ 53 + 1032 → z - 53 ≤ 1032
      spare z h = omega arith

  below-largest : a < largest em * c → a ≤ largest em * c → Close (2 ^ 43) a c (round binary64 s a c) s
  below-largest h most =
      let k = dropped in
      let unit : 2 ^ k * 2 ^ 42 ≤ 2 ^ 1074 = mul-le-mul_right (2 ^ 42) (pow_mono (dropped_most h)) in
      let N = kept (prec binary64) (a * 2 ^ low binary64) c in
      let off : Apart 2 (c * 2 ^ k) (N * (c * 2 ^ k)) (a * 2 ^ 1074) = closest_off (a * 2 ^ 1074) (c * 2 ^ k) (mul-pos some (pow_pos k)) in
      record {
        over = grid binary64 a c;
        under = 2 ^ 1074;
        some = pow_pos 1074;
        value = round-value a c some most s;
        near = in_units N (2 ^ k) (2 ^ 1074) (2 ^ 42) a c unit off;
      }

  -- 2048 itself is a float
  at-largest : a ≡ largest em * c → Close (2 ^ 43) a c (round binary64 s a c) s
  at-largest e =
      let same : round binary64 s a c ≡ round binary64 s (largest em) 1 = round_same binary64 s a c (largest em) 1 some (lit< tt) (mul-one a ∙ e) in
      record {
        over = largest em;
        under = 1;
        some = lit< tt;
        value = subst (λ (v : Float). HasValue v s (largest em) 1) (sym same) (round_whole binary64 s (largest em) (lit≤ tt));
        near = equal_apart (sym (mul-one a ∙ e));
      }

  pub round_close : a ≤ largest em * c → Close (2 ^ 43) a c (round binary64 s a c) s
  round_close h = elim (eq-or-lt_of_le h) [ inl e ↦ at-largest e | inr l ↦ below-largest l h ]
