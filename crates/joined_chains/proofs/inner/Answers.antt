use native.Mathlib.Omega.{arith}
use lib.ListN.{length-take, length-drop}
use Rattle.joined_chains.proofs.Joining.{inner_numbers, inner_short}
use Rattle.joined_chains.proofs.inner.Goals as goal

pub returns-then-list-lt4 : goal.returns-then-list-lt4
returns-then-list-lt4 c = (inner_short c.args.list.now (omega arith), omega arith)

pub returns : goal.returns
returns c = (inner_numbers c.args.list.now c.requires, simp (length-take, length-drop) (omega (arith, c.requires, c.if-list-lt4.false)))
