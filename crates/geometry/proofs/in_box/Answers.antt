-- `geometry::in_box`: where the test of x holds, that of y decides.
use Rattle.std.proofs.Common.{rules}
use Rattle.integers.specs.Order.{between}
use Rattle.integers.proofs.Tests.{pass}
use Rattle.geometry.specs.EmBox.{in_box}
use Rattle.geometry.proofs.in_box.Goals as goal

pub returns-then-is_between : goal.returns-then-is_between
unfolding in_box
returns-then-is_between c = pass {a = between c.args.l.left c.args.p.x c.args.l.right} (search rules) (search rules)
