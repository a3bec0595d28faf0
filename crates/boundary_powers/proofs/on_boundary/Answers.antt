-- `boundary_powers::on_boundary` meets its contract: a point is on the boundary exactly where its power is that of a point there.
use mathlib.Core.Path.{ap₂, ◌∙◌}
use mir.Syntax.{w64}
use Rattle.integers.specs.Order.{eq_z}
use Rattle.integers.proofs.Bounds.{eq_bits}
use Rattle.geometry.specs.Plane.{numbers}
use Rattle.boundary_powers.proofs.PowerLaws.{same_power}
use Rattle.boundary_powers.proofs.on_boundary.Goals as goal

pub returns : goal.returns
returns c =
    let b = c.requires.2 in
    eq_bits w64 c.power.result c.args.k (record { sfits = c.power.type_inv }) c.ranges.k
    ∙ ap₂ eq_z c.power.ensures b.power_is
    ∙ same_power (numbers c.args.disk) b.point c.args.p c.requires.1 b.on
