-- `letter::enclose_in` meets its contract: the engine is given what the loader wrote, and the loader's refusal is the answer otherwise. What else is in
-- the list makes no difference.
use mathlib.Core.Path.{sym, ap, ◌∙◌}
use Rattle.engine.specs.Engine.{enclose_of}
use Rattle.letter.proofs.Whole.{named-enclosed, enclosure_given, enclosure_any}
use Rattle.letter.proofs.enclose_in.Goals as goal

pub returns : goal.returns
returns c =
    let text = c.args.text.now in
    let list = c.args.list.now in
    let accepted = sym c.in_ok-n.ensures.result_value in
    c.smallest_disk.ensures.answer
    ∙ ap enclose_of c.in_ok-n.ensures.kept.0
    ∙ named-enclosed text list _ accepted
    ∙ sym (enclosure_given text list _ accepted)
    ∙ enclosure_any text list c.requires
