-- `relative_disks::is_outside` meets its contract, by that of `is_beyond`.
use Rattle.relative_disks.proofs.RelativeLaws.{wide-near}
use Rattle.relative_disks.proofs.is_outside.Goals as goal

pub is_beyond-requires : goal.is_beyond-requires
is_beyond-requires c =
    let p = c.requires.near in
    rw (wide-near p.x_near c.wide.ensures, wide-near p.y_near c.wide-2.ensures)
    (record { small = c.requires.small; near = (p.x_near, p.y_near) })

pub returns : goal.returns
returns c =
    let p = c.requires.near in
    rw (wide-near p.x_near c.wide.ensures, wide-near p.y_near c.wide-2.ensures) at c.is_beyond.ensures
