-- `lines::skip_spaces` meets its contract. The invariant: what follows the spaces of the rest follows those of the text. The measure is
-- what is left.
use Rattle.std.proofs.Common.{◌≡◌, length}
use Rattle.lines.specs.LineAt.{after_spaces}
use Rattle.lines.proofs.skip_spaces.Given as goal

abbrev pub invariant-loop-rest : goal.invariant-loop-rest
invariant-loop-rest l = after_spaces l.rest ≡ after_spaces l.text

abbrev pub decreases-loop-rest : goal.decreases-loop-rest
decreases-loop-rest l = length l.rest
