-- `numerals::read_digits` meets its contract. The invariant: the bytes before the rest are digits, four at most, of the value v. The
-- measure is what is left of the text.
use lib.ListN.{length}
use Rattle.numerals.proofs.Digits.{Reading}
use Rattle.numerals.proofs.read_digits.Given as goal

abbrev pub invariant-loop-rest : goal.invariant-loop-rest
invariant-loop-rest l = Reading l.text l.rest l.v

abbrev pub decreases-loop-rest : goal.decreases-loop-rest
decreases-loop-rest l = length l.rest
