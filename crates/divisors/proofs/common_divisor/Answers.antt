-- `divisors::common_divisor` meets its contract: the greatest common divisor of three numbers, taken in another order.
use mathlib.Core.Path.{ap, ap₂, ◌∙◌}
use lib.IntN.{nat_abs}
use mir.Facts.{to_z-of_z}
use Rattle.divisors.specs.Divisor.{gcd}
use Rattle.divisors.proofs.Gcd.{gcd-three}
use Rattle.divisors.proofs.common_divisor.Goals as goal

pub returns : goal.returns
returns c =
    let x = c.magnitude.ensures ∙ ap nat_abs (to_z-of_z c.ranges.x) in
    let y = c.magnitude-2.ensures ∙ ap nat_abs (to_z-of_z c.ranges.y) in
    c.gcd_of.ensures
    ∙ ap₂ gcd y (c.gcd_of-of_x_and_e.ensures ∙ ap (λ a. gcd a c.args.e) x)
    ∙ gcd-three (nat_abs c.args.x) (nat_abs c.args.y) c.args.e
