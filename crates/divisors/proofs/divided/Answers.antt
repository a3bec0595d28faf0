-- `divisors::divided` meets its contract.
use Rattle.divisors.proofs.Quotient.{quot_fits, quot_back}
use Rattle.divisors.proofs.divided.Goals as goal

pub nonzero_div-result : goal.nonzero_div-result
nonzero_div-result c = (c.requires.g_nonzero, quot_fits c.args.x c.args.g c.ranges.x c.requires.g_bound)

pub returns : goal.returns
returns c = quot_back c.args.x c.args.g c.ranges.x c.requires.g_bound
