-- `radius::is_clear` meets its contract: the numbers of a valid disk are small enough for the products.
use native.Mathlib.Omega.{arith}
use native.Mathlib.Nat.{mul-le-mul}
use Rattle.geometry.specs.EmBox.{em}
use Rattle.geometry.specs.Plane.{numbers}
use Rattle.validity.proofs.ValidLaws.{limits}
use Rattle.radius.proofs.is_clear.Goals as goal

pub overflow_mul-e : goal.overflow_mul-e
overflow_mul-e c = let k = limits em (numbers c.args.d.disk) c.args.d.valid in omega (arith, mul-le-mul k.e_small k.e_small)
