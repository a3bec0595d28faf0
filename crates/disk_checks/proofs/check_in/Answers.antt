-- `disk_checks::check_in` meets its contract: the two checks in their order.
use mathlib.Core.Path.{sym, ◌∙◌}
use Rattle.geometry.specs.Plane.{members, numbers}
use Rattle.validity.proofs.Wider.{valid_wider}
use Rattle.disk_checks.proofs.check_in.Goals as goal

-- a record can hold them
pub belongs-requires : goal.belongs-requires
belongs-requires c =
    valid_wider c.requires.1 (numbers c.args.f.disk) (members c.args.f.support) (sym c.is_valid_in.ensures ∙ c.if-not-is_valid_in.false)
