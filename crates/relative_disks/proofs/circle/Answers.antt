-- `relative_disks::circle` meets its contract, by that of `circle_about`.
use mathlib.Core.Path.{◌∙◌}
use Rattle.relative_disks.proofs.RelativeLaws.{same_circle, wide-near, minus-near, minus_within}
use Rattle.relative_disks.proofs.circle.Goals as goal

pub circle_about-requires : goal.circle_about-requires
circle_about-requires g =
    let a = g.requires.near_a in
    let b = g.requires.near_b in
    let c = g.requires.near_c in
    rw (
      wide-near a.x_near g.wide.ensures,
      wide-near a.y_near g.wide-2.ensures,
      minus-near a.x_near b.x_near g.minus.ensures,
      minus-near a.y_near b.y_near g.minus-2.ensures,
      minus-near a.x_near c.x_near g.minus-3.ensures,
      minus-near a.y_near c.y_near g.minus-4.ensures,
    )
    (record {
      near = (a.x_near, a.y_near);
      u_small = (minus_within a.x_near b.x_near, minus_within a.y_near b.y_near);
      v_small = (minus_within a.x_near c.x_near, minus_within a.y_near c.y_near);
    })

pub returns : goal.returns
returns g =
    let a = g.requires.near_a in
    let b = g.requires.near_b in
    let c = g.requires.near_c in
    g.circle_about.ensures
    ∙ same_circle
    (wide-near a.x_near g.wide.ensures)
    (wide-near a.y_near g.wide-2.ensures)
    (minus-near a.x_near b.x_near g.minus.ensures)
    (minus-near a.y_near b.y_near g.minus-2.ensures)
    (minus-near a.x_near c.x_near g.minus-3.ensures)
    (minus-near a.y_near c.y_near g.minus-4.ensures)
