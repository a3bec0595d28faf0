-- The disk engine's answer, and the list as it leaves it (01, "Disk and rim", "Welzl's procedure and the count").
--
--   Enclosure       == the disk, the support set (01: rim set) and the number of tests
--   enclosure_told a == the enclosure that the call's value a holds
--   enclose_of l     == the answer due for the point list l: refusals 9, 5, 4, 3 in this order; else the disk on which Welzl's
--                      procedure ends, the first support set and the procedure's count
--   list_after l     == the list as the procedure leaves it; unchanged where the call refuses
use Rattle.std.specs.Prelude.{not, List, ℕ, ◌/◌, ◌%◌, eqb, ltb, ℤ, length}
use Rattle.answers.specs.Outcome.{Outcome, given, refused, refuse_if}
use Rattle.geometry.specs.declared.Point.{Point}
use Rattle.geometry.specs.EmBox.{all_in_em_box}
use Rattle.geometry.specs.Plane.{Disk, numbers, members}
use Rattle.geometry.specs.Points.{points, flat}
use Rattle.disks.specs.Procedure.{disk_of, tests_of, order_of}
use Rattle.disks.specs.Support.{first_support}
use Rattle.engine.specs.declared.Enclosed.{Enclosed}

pub record Enclosure : Type 0 where
  pub disk : Disk
  pub support : List Point
  pub tests : ℕ

abbrev pub enclosure_told : Enclosed → Enclosure
enclosure_told a = record { disk = numbers a.found.disk; support = members a.found.support; tests = a.tests }

abbrev pub enclosure : List Point → Enclosure
enclosure P = record { disk = disk_of P; support = first_support P; tests = tests_of P }

unfoldable pub enclose_of : List ℤ → Outcome Enclosure
enclose_of l =
    refuse_if (eqb (length l % 2) 1) 9
    (refuse_if (eqb (length l) 0) 5
    (refuse_if (ltb 4096 (length l / 2)) 4
    (refuse_if (not (all_in_em_box (points l))) 3
    (given (enclosure (points l))))))

abbrev pub order_after : Outcome Enclosure → List ℤ → List ℤ
order_after (given e) l = flat (order_of (points l))
order_after (refused n) l = l

unfoldable pub list_after : List ℤ → List ℤ
list_after l = order_after (enclose_of l) l
