-- What a valid record holds, and the checks of a disk and its points, as propositions.
--
--   valid_recordable, recordable_valid : `valid_in` says that the disk and the points are such as a valid record by the limits holds
--   belongs_belong, belong_belongs     : `belongs` says that the points belong to the disk
--   checked_in, rules_in               : both rules are kept where and only where the checks are passed
--   checked_rules, rules_checked       : the same by the limits of the em
use mathlib.Core.Path.{◌≡◌}
use mathlib.Core.Bool.{true}
use mathlib.Core.List.{List}
use borrow.Author.Tests.{leb-true, le-leb}
use lib.Dec.{leb}
use lib.ListN.{length}
use Rattle.answers.specs.Outcome.{given}
use Rattle.integers.proofs.Tests.{first, rest, both, test_true, true_test}
use Rattle.geometry.specs.declared.Point.{Point}
use Rattle.geometry.specs.declared.Limits.{Limits}
use Rattle.geometry.specs.Plane.{Disk}
use Rattle.geometry.specs.EmBox.{em}
use Rattle.geometry.proofs.EmBox.{all_in, in_all}
use Rattle.point_lists.proofs.Rising.{rising_test}
use Rattle.validity.specs.Valid.{valid_in}
use Rattle.validity.proofs.ValidLaws.{limits, valid-disk, valid-points, counted, rises, boxed, valid-lowest, valid_within}
use Rattle.validity.proofs.ValidLaws.{disk-valid, points-valid, both_valid}
use Rattle.belonging.specs.Belonging.{belongs, Belong}
use Rattle.belonging.proofs.Meaning.{belongs_meaning}
use Rattle.disk_checks.specs.Checks.{check_in, check_of}
use Rattle.disk_checks.proofs.CheckLaws.{passed_in, passes_in}
use Rattle.rules.specs.Rules.{RecordableIn, Recordable}

module _ (l : Limits) (d : Disk) (ps : List Point) where
  pub valid_recordable : valid_in l d ps ≡ true → RecordableIn l d ps
  valid_recordable h =
      let v = valid-disk l d ps h in
      let w = valid-points l d ps h in
      let n = counted l ps w in
      record {
        e_some = (limits l d v).e_some;
        within = valid_within l d v;
        lowest = valid-lowest l d v;
        some = leb-true 1 (length ps) (first (leb 1 (length ps)) (leb (length ps) 3) n);
        most = leb-true (length ps) 3 (rest (leb 1 (length ps)) (leb (length ps) 3) n);
        rises = (rising_test ps).1 (rises l ps w);
        in_box = all_in l ps (boxed l ps w);
      }

  pub recordable_valid : RecordableIn l d ps → valid_in l d ps ≡ true
  recordable_valid r =
      both_valid l d ps (disk-valid l d r.e_some r.lowest r.within)
      (points-valid l ps (both (le-leb 1 (length ps) r.some) (le-leb (length ps) 3 r.most)) ((rising_test ps).0 r.rises) (in_all l ps r.in_box))

pub belongs_belong : (d : Disk) (ps : List Point) → belongs d ps ≡ true → Belong d ps
belongs_belong d ps h = (belongs_meaning d ps).0 (true_test h)

pub belong_belongs : (d : Disk) (ps : List Point) → Belong d ps → belongs d ps ≡ true
belong_belongs d ps b = test_true (belongs d ps) ((belongs_meaning d ps).1 b)

pub checked_in : (l : Limits) (d : Disk) (ps : List Point) → check_in l d ps ≡ given tt → RecordableIn l d ps × Belong d ps
checked_in l d ps h = let p = passed_in l d ps h in (valid_recordable l d ps p.0, belongs_belong d ps p.1)

pub rules_in : (l : Limits) (d : Disk) (ps : List Point) → RecordableIn l d ps → Belong d ps → check_in l d ps ≡ given tt
rules_in l d ps r b = passes_in l d ps (recordable_valid l d ps r) (belong_belongs d ps b)

pub checked_rules : (d : Disk) (ps : List Point) → check_of d ps ≡ given tt → Recordable d ps × Belong d ps
checked_rules d ps h = checked_in em d ps h

pub rules_checked : (d : Disk) (ps : List Point) → Recordable d ps → Belong d ps → check_of d ps ≡ given tt
rules_checked d ps r b = rules_in em d ps r b
