-- Document 02, item 7: the smallest disk that holds a hand-traced letter, over the definition that the contract of `smallest_disk_of_traced` of the crate
-- `traced_points` cites. Which refusal is due, and in which order, is claimed with the other calls' (claims/specs/Demand1.antt, by `traced_row`). That the
-- list is left unchanged is said by its type, `&[i16]`. Shown in proofs/TracedPoints.antt.
--
--   TracedPoints   == all that item 7 says
--
-- `SmallestOver ss d` (tracings/specs/Tracings.antt): d holds every possible tracing, each traced point at any fractional place of its square; no disk
-- with a fractional centre and squared radius that does is smaller, and only the same disk is as small; and d is written without a common divisor of X,
-- Y and E.
use Rattle.std.specs.Prelude.{◌≡◌, ◌↔◌, ◌%◌, ◌≤◌, ℤ, pos, length}
use mathlib.Core.List.{List, Memᴰ}
use Rattle.answers.specs.Outcome.{given, and_then}
use Rattle.integers.specs.Order.{◌≼◌}
use Rattle.geometry.specs.declared.Point.{Point}
use Rattle.geometry.specs.Plane.{Disk}
use Rattle.geometry.specs.EmBox.{em, Inside, WithinLimits}
use Rattle.geometry.specs.Points.{flat}
use Rattle.point_lists.specs.Sets.{In}
use Rattle.engine.specs.Engine.{enclose_of}
use Rattle.tracings.specs.declared.TracedPoint.{TracedPoint}
use Rattle.tracings.specs.Squares.{traced, corners, as_read}
use Rattle.tracings.specs.Tracings.{RationalPoint, InSquare, InBox, SmallestOver}
use Rattle.traced_points.specs.Traced.{traced_of}
use Rattle.rules.specs.Row.{AllKept}
use Rattle.rules.specs.Rules.{traced_row}

pub record TracedPoints : Type 0 where
  -- "Find the smallest disk that holds every corner wherever it may really be within its square. It holds every possible tracing, and no smaller disk
  -- does.": this disk is given, and no other, to every list that breaks no rule
  pub smallest : (l : List ℤ) (d : Disk) → (traced_of l ≡ given d) ↔ (AllKept (traced_row l) × SmallestOver (traced l) d)
  -- "a square that leaves the em box is 3": where the four corners keep to the box, as the rule has it, every place of the square does
  pub in_box : (s : TracedPoint) → pos 0 ≼ s.t → ((p : Point) → In p (corners s) → Inside em p) ↔ ((p : RationalPoint) → InSquare s p → InBox em p)
  -- "With every t zero the disk is the plain one.": it is the engine's for the points as they were read, and so are 5 and 3
  pub plain :
      (l : List ℤ) → length l % 3 ≡ 0 → length (traced l) ≤ 1024 → ((s : TracedPoint) → Memᴰ s (traced l) → s.t ≡ pos 0)
      → traced_of l ≡ and_then (enclose_of (flat (as_read (traced l)))) (λ e. given e.disk)
  -- document 01's limits of a disk hold, with the figures of item 10: "E never exceeds .., nor S/E² .. The centre is in the em box."
  pub limits : (l : List ℤ) (d : Disk) → traced_of l ≡ given d → WithinLimits em d
