-- The preview of a disk (01, "Cutting radius and preview").
--
--   negative z       == z is below 0
--   quotient z e     == z/e, one division of two whole numbers as floats, rounded once
--   floats d r       == the three values: X/E, Y/E and r
--   preview_of d ps   == what the call answers: the refusal due first, or the three values, with the whole radius for r
--
-- Floats are the library's account of IEEE 754. That no conversion loses anything, and that a quotient is the fraction itself, rounded
-- once, is claimed in claims/specs/Values.antt; how far a quotient is from the fraction, in preview_claims/specs/TruePreview.antt.
use Rattle.std.specs.Prelude.{Bool, true, false, List, ℕ, ℤ, pos, negsuc, Float}
use Rattle.std.specs.Float.{binary64}
use Rattle.std.specs.Float.Ieee.{div, of_int}
use Rattle.answers.specs.Outcome.{Outcome, given, and_then}
use Rattle.geometry.specs.declared.Point.{Point}
use Rattle.geometry.specs.Plane.{Disk}
use Rattle.disk_checks.specs.Checks.{check_of}
use Rattle.radius.specs.Radius.{whole_radius}
use Rattle.preview.specs.declared.Preview.{Preview}

abbrev pub negative : ℤ → Bool
negative (pos n) = false
negative (negsuc n) = true

abbrev pub quotient : ℤ → ℕ → Float
quotient z e = div binary64 (of_int binary64 z) (of_int binary64 (pos e))

abbrev pub floats : Disk → ℕ → Preview
floats d r = record { x = quotient d.x d.e; y = quotient d.y d.e; radius = of_int binary64 (pos r) }

abbrev pub preview_of : Disk → List Point → Outcome Preview
preview_of d ps = and_then (check_of d ps) (λ done. given (floats d (whole_radius d)))
