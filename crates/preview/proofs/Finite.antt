-- A fraction no larger than a coordinate in the em box is rounded to a finite number.
--
--   has-finite      : a float that has a value is finite
--   round-value     : a/c with a at most c times the largest coordinate, with either sign, is rounded to its nearest number of units
--   round-finite    : so to a finite number
use mathlib.Core.Path.{sym, subst}
use mathlib.Core.Bool.{Bool, true, false, cond}
use Prim.Native.Nat.{ℕ, zero, suc, ◌*◌, ◌^◌, ◌≤◌, ◌<◌}
use native.Mathlib.Nat.{mul-one}
use native.Mathlib.Omega.{arith}
use lib.Dec.{T, ltb, lit≤}
use lib.Ieee.{Float, nan, inf, fin, Format, binary64, prec, low, odd, units, round, le}
use lib.Ieee.Back.{round_whole}
use lib.Ieee.Exact.{HasValue, units_val}
use lib.Ieee.Fits.{round_is}
use lib.Ieee.Order.{drop, kept, round_mono}
use lib.Ieee.Scale.{grid, overflow, finite, round_under}
use Rattle.geometry.specs.EmBox.{em, largest}

pub has-finite : (v : Float) (s : Bool) (a c : ℕ) → HasValue v s a c → T (finite v)
has-finite nan s a c h = absurd h
has-finite (inf t) s a c h = absurd h
has-finite (fin t m e) s a c h = tt

odd_finite : (d : ℕ) (s : Bool) (q k l : ℕ) → T (finite (odd d s q k l))
unfolding odd
odd_finite d s zero k l = tt
odd_finite d s (suc q) k l = tt

not_over : (v : Float) → T (finite v) → T (le (inf false) v) → ⊥
unfolding le
not_over nan f h = f
not_over (inf s) f h = f
not_over (fin s m e) f h = h

-- a number of units that is no larger than a finite float
units_finite : (f : Format) (q k : ℕ) (v : Float) → T (finite v) → T (le (units f false q k) v) → T (finite (units f false q k))
unfolding units
units_finite f q k v t = go (ltb (q * 2 ^ k) (overflow f))
  where
    go : (b : Bool) → T (le (cond b (odd (suc (prec f)) false q k (low f)) (inf false)) v)
        → T (finite (cond b (odd (suc (prec f)) false q k (low f)) (inf false)))
    go true h = odd_finite (suc (prec f)) false q k (low f)
    go false h = absurd (not_over v t h)

module _ (a c : ℕ) (some : 0 < c) (most : a ≤ largest em * c) where
  abbrev size_kept : ℕ
  size_kept = kept (prec binary64) (a * 2 ^ low binary64) c

  abbrev size_drop : ℕ
  size_drop = drop (prec binary64) (a * 2 ^ low binary64) c

  largest-finite : T (finite (round binary64 false (largest em) 1))
  largest-finite = has-finite (round binary64 false (largest em) 1) false (largest em) 1 (round_whole binary64 false (largest em) (lit≤ tt))

  below : grid binary64 a c < overflow binary64
  below =
      let l : a * 1 ≤ largest em * c = rw (mul-one a) most in
      let m = round_mono binary64 a c (largest em) 1 some (omega arith) l in
      let n = subst (λ (z : Float). T (le z (round binary64 false (largest em) 1))) (round_is binary64 false a c) m in
      round_under binary64 a c
      (subst (λ (z : Float). T (finite z)) (sym (round_is binary64 false a c))
      (units_finite binary64 size_kept size_drop (round binary64 false (largest em) 1) largest-finite n))

  pub round-value : (s : Bool) → HasValue (round binary64 s a c) s (grid binary64 a c) (2 ^ low binary64)
  round-value s =
      subst (λ (z : Float). HasValue z s (grid binary64 a c) (2 ^ low binary64)) (sym (round_is binary64 s a c))
      (units_val binary64 s size_kept size_drop below)

  pub round-finite : (s : Bool) → T (finite (round binary64 s a c))
  round-finite s = has-finite (round binary64 s a c) s (grid binary64 a c) (2 ^ low binary64) (round-value s)
