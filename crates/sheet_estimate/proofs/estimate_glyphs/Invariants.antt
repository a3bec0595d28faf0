-- `sheet_estimate::estimate_glyphs` meets its contract. The loop's invariant is `Told`.
use Rattle.sheet_estimate.proofs.Told.{Told}
use Rattle.sheet_estimate.proofs.estimate_glyphs.Given as goal

abbrev pub invariant-loop-i : goal.invariant-loop-i
invariant-loop-i l = Told l.sheet l.count l.initial.points l.initial.refusals l.points l.refusals l.total.bytes l.total.tests l.i
