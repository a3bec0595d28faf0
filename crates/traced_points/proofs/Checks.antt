-- A list of traced points that passes the checks.
--
--   all_right             : where none is faulty each keeps its rules
--   accepted_list         : a list whose answer is given keeps the rules
use mathlib.Core.Path.{◌≡◌, refl, sym}
use mathlib.Core.Logic.{inl, inr}
use mathlib.Core.List.Memᴰ
use mathlib.Core.List.{List, [], ◌∷◌, Memᴰ}
use Prim.Native.Nat.{◌/◌, ◌%◌}
use borrow.Author.Tests.{eqb-true, eqb-false, ltb-false, not-false}
use lib.IntN.{ℤ}
use lib.ListN.{length}
use Rattle.answers.specs.Outcome.{given}
use Rattle.answers.proofs.OutcomeLaws.{not_refused, same_given, both_given}
use Rattle.geometry.specs.Plane.{Disk}
use Rattle.disks.specs.Procedure.{disk_of}
use Rattle.tracings.specs.declared.TracedPoint.{TracedPoint}
use Rattle.tracings.specs.Squares.{traced, all_corners}
use Rattle.traced_points.specs.Traced.{fault, first_fault, traced_of}
use Rattle.traced_points.specs.Checks.{Right, Accepted}

-- ---- one traced point

module _ (s : TracedPoint) where
  right : fault s ≡ given tt → Right s
  unfolding fault
  right h =
      let fourteen = not_refused _ 14 h in
      let three = not_refused _ 3 fourteen.1 in
      record { range = not-false _ fourteen.0; boxed = not-false _ three.0 }

-- ---- all of them

pub all_right : (ss : List TracedPoint) → first_fault ss ≡ given tt → (s : TracedPoint) → Memᴰ s ss → Right s
unfolding first_fault
all_right [] h s i = absurd (Memᴰ.not-nil i)
all_right (r ∷ ss) h s i =
    let k = both_given (fault r) _ tt h in
    elim (Memᴰ.cases_cons i) [ inl e ↦ rw e (right r k.1.0) | inr m ↦ all_right ss k.1.1 s m ]

-- ---- the list

pub accepted_list : (l : List ℤ) (d : Disk) → traced_of l ≡ given d → Accepted l × (d ≡ disk_of (all_corners (traced l)))
unfolding traced_of
accepted_list l d h =
    let nine = not_refused _ 9 h in
    let five = not_refused _ 5 nine.1 in
    let four = not_refused _ 4 five.1 in
    let each = both_given (first_fault (traced l)) _ d four.1 in (
      record {
        threes = eqb-true (length l % 3) 0 (not-false _ nine.0);
        some = eqb-false (length l) 0 five.0;
        few = ltb-false 1024 (length l / 3) four.0;
        each = all_right (traced l) each.1.0;
      },
      sym (same_given refl each.1.1),
    )
