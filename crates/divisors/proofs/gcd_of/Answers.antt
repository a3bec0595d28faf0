use mathlib.Core.Path.{sym, ap, ◌∙◌}
use native.Mathlib.Nat.{mod-lt}
use native.Mathlib.Omega.{arith}
use Rattle.divisors.specs.Divisor.{gcd}
use Rattle.divisors.proofs.Gcd.{gcd-step, gcd-zero}
use Rattle.divisors.proofs.gcd_of.Goals as goal

pub loop-n-smaller : goal.loop-n-smaller
loop-n-smaller c = mod-lt c.loop-n.m (omega arith)

pub loop-n-preserved : goal.loop-n-preserved
loop-n-preserved c = gcd-step c.loop-n.m c.loop-n.n ∙ c.loop-n.invariant

pub returns : goal.returns
returns c = sym (gcd-zero c.loop-n.m) ∙ ap (gcd c.loop-n.m) (sym c.loop-n-test.false) ∙ c.loop-n.invariant
