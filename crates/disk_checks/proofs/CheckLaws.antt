-- What the checks say.
--
--   passed_in, passes_in : a disk and its points pass where and only where a valid record by the limits holds them and they belong together
--   passed, passes       : the same by the limits of the em
--   passed_wider         : what passes by the limits of records of 45 bytes passes by those of the em
use mathlib.Core.Path.{◌≡◌}
use mathlib.Core.Bool.{true, not}
use mathlib.Core.List.{List}
use borrow.Author.Tests.{not-false}
use Rattle.answers.specs.Outcome.{given}
use Rattle.answers.proofs.OutcomeLaws.{not_refused}
use Rattle.geometry.specs.declared.Point.{Point}
use Rattle.geometry.specs.Plane.{Disk}
use Rattle.geometry.specs.declared.Limits.{Limits}
use Rattle.geometry.specs.EmBox.{em, old_em}
use Rattle.validity.specs.Valid.{valid_in, valid}
use Rattle.validity.proofs.Wider.{valid_wider, old_narrower}
use Rattle.belonging.specs.Belonging.{belongs}
use Rattle.disk_checks.specs.Checks.{check_in, check_of}

module _ (l : Limits) (d : Disk) (ps : List Point) where
  pub passed_in : check_in l d ps ≡ given tt → (valid_in l d ps ≡ true) × (belongs d ps ≡ true)
  passed_in e =
      let seven = not_refused (not (valid_in l d ps)) 7 e in
      let fifteen = not_refused (not (belongs d ps)) 15 seven.1 in
      (not-false (valid_in l d ps) seven.0, not-false (belongs d ps) fifteen.0)

  pub passes_in : valid_in l d ps ≡ true → belongs d ps ≡ true → check_in l d ps ≡ given tt
  passes_in v b = rw (v, b)

pub passed : (d : Disk) (ps : List Point) → check_of d ps ≡ given tt → (valid d ps ≡ true) × (belongs d ps ≡ true)
passed d ps e = passed_in em d ps e

pub passes : (d : Disk) (ps : List Point) → valid d ps ≡ true → belongs d ps ≡ true → check_of d ps ≡ given tt
passes d ps v b = passes_in em d ps v b

pub passed_wider : (d : Disk) (ps : List Point) → check_in old_em d ps ≡ given tt → check_of d ps ≡ given tt
passed_wider d ps e = let h = passed_in old_em d ps e in passes d ps (valid_wider old_narrower d ps h.0) h.1
