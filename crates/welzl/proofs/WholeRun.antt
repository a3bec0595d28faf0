-- The run on a whole list, from no point fixed: its disk can be written, and is the answer.
--
--   Answered P d              == d in lowest terms is `disk_of P`; its e is positive and its numbers are small
--   Whole l after d tests     == d, tests and `after` are what the text's procedure gives for l's points
--   kept_answer               : the disk that is kept at the end is the answer
--   ran-whole                 : the promise `Ran`, of a whole list with no point fixed, is `Whole`
use mathlib.Core.Path.{◌≡◌, sym, ap, subst}
use mathlib.Core.List.{List, [], ◌∷◌, append-nil}
use Prim.Native.Nat.{ℕ, ◌*◌, ◌≤◌, ◌<◌}
use native.Mathlib.Omega.{arith}
use lib.IntN.{ℤ, pos}
use Rattle.integers.specs.Order.{◌≺◌}
use lib.ListN.{length, drop, drop_of_length-le}
use Rattle.geometry.specs.declared.Point.{Point}
use Rattle.geometry.specs.Points.{points, flat}
use Rattle.geometry.proofs.PointLists.{first_points_all}
use Rattle.disks.specs.Procedure.{Cover, mtf, disk_in, disk_of, tests_of, order_of}
use Rattle.disks.proofs.Welzl.{mtf-ends, smallest}
use Rattle.relative_disks.specs.declared.RelativeDisk.{RelativeDisk}
use Rattle.relative_disks.specs.Relative.{Small, in_lowest_terms, Keeps}
use Rattle.relative_disks.proofs.RelativeLaws.{weight_in, stands_proper}
use Rattle.fixed_points.specs.declared.Boundary.TheVariants.{None}
use Rattle.inner_level.specs.Ran.{Ran}

-- ---- the disk

pub record Answered (P : List Point) (d : RelativeDisk) : Type 0 where
  pub proper : pos 0 ≺ d.e
  pub small : Small d
  pub disk : in_lowest_terms d ≡ disk_of P

pub kept_answer : (P : List Point) (d : RelativeDisk) → 0 < length P → Keeps d (mtf [] P).cover → Answered P d
kept_answer [] d some k = absurd (omega arith)
kept_answer (p ∷ P) d some k =
    let ended = stands_proper k.stands (subst (λ (c : Cover). 1 ≤ weight_in c) (sym (mtf-ends p P)) (smallest p P).proper) in
    record {
      proper = ended.positive_e;
      small = k.small;
      disk = ap disk_in (sym ended.written);
    }

-- ---- the whole list

pub record Whole (l after : List ℤ) (d : RelativeDisk) (tests : ℕ) : Type 0 where
  pub keeps : Keeps d (mtf [] (points l)).cover
  pub tests_are : tests ≡ tests_of (points l)
  pub order_is : after ≡ flat (order_of (points l))

pub ran-whole : (n : ℕ) (l after : List ℤ) (d : RelativeDisk) (tests : ℕ) → length l ≡ 2 * n → Ran None n l after d tests → Whole l after d tests
ran-whole n l after d tests size ran =
    let e = first_points_all n l size in
    let rest : drop (2 * n) l ≡ [] = drop_of_length-le l {i = 2 * n} (omega arith) in
    record { keeps = rw e at ran.disk_is; tests_are = rw e at ran.tests_is; order_is = rw (e, rest, append-nil) at ran.left_is }
