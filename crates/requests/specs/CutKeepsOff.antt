-- Document 02, item 3: the cut, which is the circle of the whole radius about the disk's centre, keeps off every point. This is said over the definitions
-- that the contracts of the public calls cite; the rule for the radius is `LeastRadius` of claims/specs/Values.antt. Shown in proofs/CutKeepsOff.antt.
--
--   Off d r p       == the circle of radius r about d's centre keeps off p, which lies inside it and not on it: (xE − X)² + (yE − Y)² is less than r²E²
--   LeastOff P d r  == r is the least whole number whose circle about d's centre keeps off every point of P
--   CutKeepsOff     == all that item 3 says of points, and of the preview
use Rattle.std.specs.Prelude.{◌≡◌, ◌↔◌, false, List, ℕ, ◌*◌, ◌≤◌, T, ℤ, pos}
use Rattle.std.specs.Float.Ieee.Exact.{HasValue}
use Rattle.answers.specs.Outcome.{given}
use Rattle.integers.specs.Order.{◌≺◌}
use Rattle.geometry.specs.declared.Point.{Point}
use Rattle.geometry.specs.Plane.{Disk, distance, holds}
use Rattle.geometry.specs.Points.{points}
use Rattle.point_lists.specs.Sets.{In}
use Rattle.description.specs.Description.{named}
use Rattle.engine.specs.Engine.{Enclosure, enclose_of}
use Rattle.radius.specs.Radius.{radius_of}
use Rattle.preview.specs.declared.Preview.{Preview}
use Rattle.preview.specs.Preview.{preview_of}
use Rattle.claims.specs.Demand3.{Answers, worked}

abbrev pub Off : Disk → ℕ → Point → Type 0
Off d r p = distance d p ≺ pos (r * r * (d.e * d.e))

pub record LeastOff (P : List Point) (d : Disk) (r : ℕ) : Type 0 where
  pub off : (p : Point) → In p P → Off d r p
  pub least : (q : ℕ) → ((p : Point) → In p P → Off d q p) → r ≤ q

pub record CutKeepsOff : Type 0 where
  -- "A corner exactly on the cut line tears": no point that the disk holds is on the cut, or outside it
  pub held : (d : Disk) (ps : List Point) (r : ℕ) → radius_of d ps ≡ given r → (p : Point) → T (holds d p) → Off d r p
  -- "Keep the cut off the corner": for every list that the engine accepts the radius given is the least that does, and no other is given
  pub list :
      (l : List ℤ) (e : Enclosure) → enclose_of l ≡ given e
      → (r : ℕ) → (radius_of e.disk e.support ≡ given r) ↔ LeastOff (points l) e.disk r
  -- the same from the bytes of a description
  pub description : (t : List ℕ) (l : List ℤ) (b : List ℕ) (a : Answers) → worked t l b ≡ given a → LeastOff (named t) a.disk_given a.radius
  -- "Preview and listing follow": the preview's third value is that radius
  pub preview :
      (d : Disk) (ps : List Point) (r : ℕ) (p : Preview) → radius_of d ps ≡ given r → preview_of d ps ≡ given p → HasValue p.radius false r 1
