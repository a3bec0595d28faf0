-- `sheet_run::run_glyphs` meets its contract. The loop's invariant is `Reached`.
use Rattle.sheet_run.proofs.Reached.{Reached}
use Rattle.sheet_run.proofs.run_glyphs.Given as goal

abbrev pub invariant-loop-i : goal.invariant-loop-i
invariant-loop-i l = Reached l.sheet l.count l.allowance l.initial.buffer l.buffer l.number-items l.run l.i
