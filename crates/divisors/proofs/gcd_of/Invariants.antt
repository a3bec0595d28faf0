-- `divisors::gcd_of` meets its contract. The loop's invariant: m and n have the gcd of a and b. The measure is n.
-- Assumes nothing.
use mathlib.Core.Path.{◌≡◌}
use Rattle.divisors.specs.Divisor.{gcd}
use Rattle.divisors.proofs.gcd_of.Given as goal

abbrev pub invariant-loop-n : goal.invariant-loop-n
invariant-loop-n l = gcd l.m l.n ≡ gcd l.a l.b

abbrev pub decreases-loop-n : goal.decreases-loop-n
decreases-loop-n l = l.n
