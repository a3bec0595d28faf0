-- `relative_disks::diameter` meets its contract: the machine reads the numbers of near points back as they are.
use mathlib.Core.Path.{refl}
use Rattle.relative_disks.proofs.RelativeLaws.{same_numbers, wide-near, minus-near}
use Rattle.relative_disks.proofs.diameter.Goals as goal

pub returns : goal.returns
returns c =
    let a = c.requires.near_a in
    let b = c.requires.near_b in
    same_numbers refl
    (wide-near a.x_near c.wide.ensures)
    (wide-near a.y_near c.wide-2.ensures)
    (minus-near a.x_near b.x_near c.minus.ensures)
    (minus-near a.y_near b.y_near c.minus-2.ensures)
