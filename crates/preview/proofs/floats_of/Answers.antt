-- `preview::floats_of` meets its contract: the numbers of a valid disk are small enough that no cast loses anything.
use mathlib.Core.Path.{◌≡◌}
use native.Mathlib.Omega.{arith}
use borrow.Author.Rules.{rules}
use lib.IntN.{pos}
use mir.Syntax.{w64}
use mir.Val.{to_z, of_z}
use Rattle.geometry.specs.EmBox.{em}
use Rattle.validity.proofs.ValidLaws.{limits}
use Rattle.geometry.specs.Plane.{numbers}
use Rattle.preview.proofs.Exact.{in_float_lem}
use Rattle.preview.proofs.floats_of.Goals as goal

pub int_to_float-scale : goal.int_to_float-scale
int_to_float-scale c =
    in_float_lem (pos c.args.d.disk.e) (omega (arith, (limits em (numbers c.args.d.disk) c.args.d.valid).e_small))

pub int_to_float-result : goal.int_to_float-result
int_to_float-result c =
    let x = c.args.d.disk.x in
    let kept : to_z w64 (of_z w64 x) ≡ x = search rules in
    rw kept (in_float_lem x (omega (arith, (limits em (numbers c.args.d.disk) c.args.d.valid).x_small)))

pub int_to_float-result-2 : goal.int_to_float-result-2
int_to_float-result-2 c =
    let y = c.args.d.disk.y in
    let kept : to_z w64 (of_z w64 y) ≡ y = search rules in
    rw kept (in_float_lem y (omega (arith, (limits em (numbers c.args.d.disk) c.args.d.valid).y_small)))
