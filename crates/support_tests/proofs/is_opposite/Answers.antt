-- `support_tests::is_opposite` meets its contract, by that of `is_midway` along x and along y.
use mathlib.Core.Path.{◌≡◌, sym, ◌∙◌}
use Rattle.integers.proofs.Tests.{stop, pass}
use Rattle.support_tests.specs.Tests.{midway, opposite}
use Rattle.support_tests.proofs.Numbers.{stored_small, midway_read}
use Rattle.support_tests.proofs.is_opposite.Goals as goal
use Rattle.support_tests.proofs.is_opposite.Goals.{After-is_midway, After-is_midway-then-is_midway}

along_x : (c : After-is_midway) → c.is_midway.result ≡ midway c.args.p.x c.args.q.x c.args.disk.e c.args.disk.x
along_x c = midway_read c.args.p.x c.args.q.x c.args.disk.e c.args.disk.x
    (record { sfits = c.struct_told-1.given.0.1 }) (record { sfits = c.struct_told-2-1.given.0.1 })
    (record { sfits = c.struct_told-3-1.given.0.1 })
    c.is_midway.ensures

along_y : (c : After-is_midway-then-is_midway)
    → c.is_midway-then-is_midway.result ≡ midway c.args.p.y c.args.q.y c.args.disk.e c.args.disk.y
along_y c =
    midway_read c.args.p.y c.args.q.y c.args.disk.e c.args.disk.y
    (record { sfits = c.struct_told-then-is_midway-1.given.1.0.1 }) (record { sfits = c.struct_told-then-is_midway-2-1.given.1.0.1 })
    (record { sfits = c.struct_told-then-is_midway-3-1.given.1.0.1 })
    c.is_midway-then-is_midway.ensures

pub is_midway-requires : goal.is_midway-requires
is_midway-requires c = stored_small c.args.disk.e c.args.disk.x c.requires.0

pub is_midway-requires-then-is_midway : goal.is_midway-requires-then-is_midway
is_midway-requires-then-is_midway c = stored_small c.args.disk.e
    c.args.disk.y c.requires.1

pub returns-then-is_midway : goal.returns-then-is_midway
unfolding opposite
returns-then-is_midway c = pass (sym (along_x (goal.at.returns-then-is_midway c).After-is_midway) ∙ c.if-is_midway.true) (along_y (goal.at.returns-then-is_midway c).After-is_midway-then-is_midway)

pub returns-else-is_midway : goal.returns-else-is_midway
unfolding opposite
returns-else-is_midway c = c.if-is_midway.false ∙ stop _ (sym (along_x (goal.at.returns-else-is_midway c).After-is_midway) ∙ c.if-is_midway.false)
