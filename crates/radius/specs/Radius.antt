-- The whole radius of a disk (01: the cutting radius; its rule: 02, item 3).
--
--   clears d r      == the circle of radius r about d's centre keeps clear of d and of every point in it: r²E² is greater than S
--   whole_radius d   == the least whole number whose circle does
--   max_radius       == one whose circle does wherever S/E² keeps to its limit: 1448² is not above that limit, 1449² is
--   radius_of d ps   == what the call answers: the refusal due first of the disk and its points, or the radius
--
-- Where E is at least 1 the circle of radius S + 1 keeps clear, so the search of `least` need not go further; proofs/RadiusLaws says so.
use Rattle.std.specs.Prelude.{Bool, List, ℕ, suc, ◌*◌, ltb}
use Rattle.answers.specs.Outcome.{Outcome, given, and_then}
use Rattle.geometry.specs.declared.Point.{Point}
use Rattle.geometry.specs.Plane.{Disk}
use Rattle.disk_checks.specs.Checks.{check_of}
use Rattle.integers.specs.Least.{least}

abbrev pub clears : Disk → ℕ → Bool
clears d r = ltb d.s (r * r * (d.e * d.e))

abbrev pub whole_radius : Disk → ℕ
whole_radius d = least (clears d) (suc d.s)

abbrev pub max_radius : ℕ
max_radius = 1449

abbrev pub radius_of : Disk → List Point → Outcome ℕ
radius_of d ps = and_then (check_of d ps) (λ done. given (whole_radius d))
