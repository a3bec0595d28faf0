-- `preview::preview_of` meets its contract: a whole radius that was answered says that the disk and its points pass the checks, and which radius it has.
use mathlib.Core.Path.{◌≡◌, sym}
use mathlib.Core.Bool.{true}
use mathlib.Core.List.{List}
use Prim.Native.Nat.{ℕ, ◌≤◌}
use Rattle.geometry.specs.declared.Point.{Point}
use Rattle.geometry.specs.EmBox.{em}
use Rattle.geometry.specs.Plane.{Disk, numbers, members}
use Rattle.disk_checks.specs.Checks.{check_of}
use Rattle.disk_checks.proofs.CheckLaws.{passed}
use Rattle.validity.specs.Valid.{valid_disk}
use Rattle.validity.proofs.ValidLaws.{limits, valid-disk}
use Rattle.radius.specs.Radius.{radius_of, max_radius}
use Rattle.radius.proofs.RadiusLaws.{radius_limit}
use Rattle.answers.specs.Outcome.{given}
use Rattle.answers.proofs.OutcomeLaws.{given_same, both_given}
use Rattle.preview.proofs.preview_of.Goals as goal

answered : (d : Disk) (ps : List Point) (r : ℕ) → given r ≡ radius_of d ps → (valid_disk d ≡ true) × (r ≤ max_radius)
answered d ps r e =
    let k = both_given (check_of d ps) _ _ (sym e) in
    let v = valid-disk em d ps (passed d ps k.1.0).0 in (v, rw (sym (given_same k.1.1)) (radius_limit d (limits em d v)))

pub invariant_of-floats_of : goal.invariant_of-floats_of
invariant_of-floats_of c = record { valid = (answered (numbers c.args.f.disk) (members c.args.f.support) c.in_ok-r.r c.in_ok-r.ensures).0 }

pub floats_of-requires : goal.floats_of-requires
floats_of-requires c = (answered (numbers c.args.f.disk) (members c.args.f.support) c.in_ok-r.r c.in_ok-r.ensures).1
