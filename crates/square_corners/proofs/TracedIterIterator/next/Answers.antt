-- The item is the traced point in front, and the rest is behind its three numbers.
use Rattle.std.proofs.Common.{rules, arith}
use Rattle.square_corners.proofs.Threes.{traced_next}
use Rattle.square_corners.proofs.TracedIterIterator.next.Goals as goal

pub returns-clause-steps : goal.returns-clause-steps
returns-clause-steps c =
    let k = c.in_ok-x.ensures.cases in
    let e = traced_next c.args.self.now.0.now (omega (arith, k.2)) in
    rw (k.0, k.1) (search (rules, e))
