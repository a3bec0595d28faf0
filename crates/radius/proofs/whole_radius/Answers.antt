-- `radius::whole_radius` meets its contract: the checks, then the least radius that keeps clear.
use mathlib.Core.Path.{sym}
use Rattle.geometry.specs.EmBox.{em}
use Rattle.geometry.specs.Plane.{members, numbers}
use Rattle.validity.proofs.ValidLaws.{valid-disk}
use Rattle.disk_checks.proofs.CheckLaws.{passed}
use Rattle.radius.proofs.whole_radius.Goals as goal

pub invariant_of-least_clear : goal.invariant_of-least_clear
invariant_of-least_clear c =
    let d = numbers c.args.f.disk in
    let ps = members c.args.f.support in record { valid = valid-disk em d ps (passed d ps (sym c.in_ok-check.ensures)).0 }
