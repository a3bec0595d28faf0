-- The greatest common divisor, and three numbers in lowest terms (01, "Disk and rim": "No whole number above 1 divides X, Y and E all together").
--
--   gcd a b          == the greatest common divisor of a and b, by Euclid's steps; gcd 0 0 is 0
--   common x y e     == the greatest common divisor of x, y and e
--   over x y e g     == the three numbers, each divided by g
--   lowest x y e     == the three in lowest terms: divided by their greatest common divisor
--   Reduced x y e    == no number above 1 divides x, y and e all together
use Rattle.std.specs.Prelude.{◌≡◌, ℕ, zero, suc, ◌/◌, ◌%◌, ℤ, pos, nat_abs}
use Rattle.std.specs.Int.{◌∣◌}
use Rattle.std.specs.Int.Signed.{quot_z}
use Rattle.divisors.specs.declared.Triple.{Triple}

-- at most k steps
unfoldable pub steps : ℕ → ℕ → ℕ → ℕ
steps zero a b = a
steps (suc k) a zero = a
steps (suc k) a (suc b) = steps k (suc b) (a % suc b)

-- each step lowers b, so b steps are enough
unfoldable pub gcd : ℕ → ℕ → ℕ
unfolding steps
gcd a b = steps b a b

abbrev pub common : ℤ → ℤ → ℕ → ℕ
common x y e = gcd (gcd (nat_abs x) (nat_abs y)) e

abbrev pub over : ℤ → ℤ → ℕ → ℕ → Triple
over x y e g = record { x = quot_z x (pos g); y = quot_z y (pos g); e = e / g }

abbrev pub lowest : ℤ → ℤ → ℕ → Triple
lowest x y e = over x y e (common x y e)

abbrev pub Reduced : ℤ → ℤ → ℕ → Type 0
Reduced x y e = (g : ℕ) → g ∣ nat_abs x → g ∣ nat_abs y → g ∣ e → g ≡ 1
