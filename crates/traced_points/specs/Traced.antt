-- The smallest disk over all possible tracings of a list of traced points (02, item 7: hand-traced letters).
--
--   tolerated s   == t is from 0 to 50
--   fault s       == what the rules say of one traced point: 14 for its t, then 3 for a square that leaves the em box
--   first_fault ss == the refusal of the first faulty one
--   traced_of l    == the answer due for the list l: refusals 9, 5, 4, then that of the first faulty traced point; else the disk of the squares' corners
--
-- That this disk is the smallest that holds every possible tracing is claimed in requests/specs/TracedPoints.antt.
use Rattle.std.specs.Prelude.{Bool, not, List, [], ◌∷◌, ◌/◌, ◌%◌, eqb, ltb, ℤ, pos, length}
use Rattle.answers.specs.Outcome.{Outcome, given, refuse_if, and_then}
use Rattle.integers.specs.Order.{between}
use Rattle.geometry.specs.Plane.{Disk}
use Rattle.geometry.specs.EmBox.{all_in_em_box}
use Rattle.disks.specs.Procedure.{disk_of}
use Rattle.tracings.specs.declared.TracedPoint.{TracedPoint}
use Rattle.tracings.specs.Squares.{traced, corners, all_corners}

abbrev pub tolerated : TracedPoint → Bool
tolerated s = between (pos 0) s.t (pos 50)

-- "with 14 for a t outside 0 to 50, before 3 for the same corner"
unfoldable pub fault : TracedPoint → Outcome (Unit {0})
fault s =
    refuse_if (not (tolerated s)) 14
    (refuse_if (not (all_in_em_box (corners s))) 3
    (given tt))

-- "then the first faulty corner decides"
unfoldable pub first_fault : List TracedPoint → Outcome (Unit {0})
first_fault [] = given tt
first_fault (s ∷ ss) = and_then (fault s) (λ u. first_fault ss)

-- "9, 5 and 4 first"
unfoldable pub traced_of : List ℤ → Outcome Disk
traced_of l =
    refuse_if (not (eqb (length l % 3) 0)) 9
    (refuse_if (eqb (length l) 0) 5
    (refuse_if (ltb 1024 (length l / 3)) 4
    (and_then (first_fault (traced l)) (λ u.
    given (disk_of (all_corners (traced l)))))))
