-- A sign before a size, `signed`, and sizes as integers.
--
--   abs_signed : the size is the absolute value
--   signed-*   : a sign before a product
--   not_zero   : a size above 0 is not the integer 0
use mathlib.Core.Path.{◌≡◌, refl, sym, ap, ◌∙◌}
use mathlib.Core.Logic.{◌≢◌}
use mathlib.Core.Bool.{Bool, true, false}
use Prim.Native.Nat.{ℕ, ◌*◌, ◌<◌}
use native.Mathlib.Omega.{arith}
use lib.IntN.{pos, neg_ℤ, nat_abs, ◌*ℤ◌, pos-*ℤ-pos}
use Rattle.integers.specs.Order.{signed}
use Rattle.integers.proofs.Laws.{neg_*}
use Rattle.integers.proofs.Abs.{abs_neg}

pub abs_signed : (s : Bool) (n : ℕ) → nat_abs (signed s n) ≡ n
abs_signed true n = abs_neg (pos n)
abs_signed false n = refl

pub signed-* : (s : Bool) (a b : ℕ) → signed s (a * b) ≡ signed s a *ℤ pos b
signed-* true a b = ap neg_ℤ (sym (pos-*ℤ-pos a b)) ∙ sym (neg_* (pos a) (pos b))
signed-* false a b = sym (pos-*ℤ-pos a b)

pub not_zero : (n : ℕ) → 0 < n → pos n ≢ pos 0
not_zero n h e = let z : n ≡ 0 = ap nat_abs e in omega arith
