-- `DrawnPoint::from` meets its contract: of a kind that is neither, the float is the NaN.
use Rattle.std.proofs.Common.{arith}
use Rattle.std.proofs.lemmas.Grind.{common_steps}
use lib.Ieee.{of_bits}
use Rattle.c_append.proofs.DrawnPointFromKindAndValues.from.Goals as goal

pub returns-in_default : goal.returns-in_default
unfolding of_bits
returns-in_default c = grind (arith, common_steps)
