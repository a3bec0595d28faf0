-- `description::judge` meets its contract. The invariant: the points of the lines passed are kept at the front, and the lines of the
-- rest decide. The measure is what is left of the text.
use lib.ListN.{length}
use Rattle.description.proofs.Judging.{Judging}
use Rattle.description.proofs.judge.Given as goal

abbrev pub invariant-loop-rest : goal.invariant-loop-rest
invariant-loop-rest l = Judging l.text l.initial.found l.found l.rest l.n

abbrev pub decreases-loop-rest : goal.decreases-loop-rest
decreases-loop-rest l = length l.rest
