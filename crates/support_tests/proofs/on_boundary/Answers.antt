-- `support_tests::on_boundary` meets its contract: the offsets are those of `distance`, and the sum of their squares is exact whatever they are.
use mathlib.Core.Path.{◌≡◌, ap, ap₂, ◌∙◌}
use lib.IntN.{ℤ, pos, ◌-ℤ◌, ◌*ℤ◌}
use mir.Syntax.{w64}
use mir.Val.{to_z, of_z}
use Rattle.integers.specs.Order.{eq_z}
use Rattle.wide_numbers.specs.Value.{value}
use Rattle.geometry.specs.Plane.{numbers, distance}
use Rattle.disks.specs.Procedure.{norm}
use Rattle.support_tests.specs.Tests.{on_boundary_test}
use Rattle.support_tests.proofs.Numbers.{stored_small, offset_read, same_numbers}
use Rattle.support_tests.proofs.on_boundary.Goals as goal
use Rattle.support_tests.proofs.on_boundary.Goals.{After-sum_of_squares}

squares : (c : After-sum_of_squares) → pos (value c.sum_of_squares.result) ≡ distance (numbers c.args.disk) c.args.p
squares c =
    let d = numbers c.args.disk in
    let p = c.args.p in
    let along_x : to_z w64 (of_z w64 c.offset-a.result) ≡ p.x *ℤ pos d.e -ℤ d.x =
    offset_read p.x d.e d.x (record { sfits = c.struct_told-1.given.0.1 }) (record { sfits = c.struct_told-2-1.given.0.1 })
    (record { sfits = c.offset-a.type_inv }) c.offset-a.ensures in
    let along_y : to_z w64 (of_z w64 c.offset-b.result) ≡ p.y *ℤ pos d.e -ℤ d.y =
    offset_read p.y d.e d.y (record { sfits = c.struct_told-3-1.given.1.0.1 }) (record { sfits = c.struct_told-4-1.given.1.0.1 })
    (record { sfits = c.offset-b.type_inv }) c.offset-b.ensures in
    c.sum_of_squares.ensures ∙ ap₂ norm along_x along_y

pub offset-a-requires : goal.offset-a-requires
offset-a-requires c = stored_small c.args.disk.e c.args.disk.x c.requires.0

pub offset-b-requires : goal.offset-b-requires
offset-b-requires c =
    stored_small c.args.disk.e c.args.disk.y c.requires.1

pub returns : goal.returns
unfolding on_boundary_test
returns c =
    let s = (numbers c.args.disk).s in
    c.is_same.ensures
    ∙ same_numbers (value c.sum_of_squares.result) s
    ∙ ap (λ (z : ℤ). eq_z z (pos s)) (squares (goal.at.returns c).After-sum_of_squares)
