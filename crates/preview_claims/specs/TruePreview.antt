-- Document 02, item 14: how true the preview is, over the definition that the contract of `preview_of` cites. Which value is rounded, and that each is a
-- finite number whose bits are its own, is claimed in claims/specs/Values.antt. Shown in proofs/TruePreview.antt.
--
--   places          == 43: the binary places to which a preview's centre is true
--   gap q z e       == |q − z/e|, times e and times what is below the line of 2^power: |whole·up·e − z·down|, a whole number
--   Near q z e      == |q − z/e| is at most 2⁻⁴³, without division
--   Equal q n       == q is the whole number n
--   PreviewIsTrue   == what holds of one preview
--   far_off, its points == a disk that the preview accepts
--   NearlyMet       == its preview's x is off by 2⁻⁴³ but for one part in four million
--   TruePreview     == all that item 14 says
--
-- 2^power is the fraction up power / down power of whole numbers (the library's account of floats).
use Rattle.std.specs.Prelude.{◌≡◌, List, [], ◌∷◌, ℕ, ◌*◌, ◌^◌, ◌≤◌, ◌<◌, ℤ, pos, negsuc, nat_abs, ◌-ℤ◌, ◌*ℤ◌}
use Rattle.std.proofs.Math.Option.{Option, none, some}
use Rattle.std.specs.Float.{binary64}
use Rattle.std.specs.Float.Ieee.{up, down, to_bits, of_bits}
use Rattle.answers.specs.Outcome.{given}
use Rattle.geometry.specs.declared.Point.{Point}
use Rattle.geometry.specs.Plane.{Disk}
use Rattle.radius.specs.Radius.{radius_of}
use Rattle.preview.specs.declared.Preview.{Preview}
use Rattle.preview.specs.Preview.{preview_of}
use Rattle.preview_claims.specs.Reading.{Dyadic, read_bits, IsValue}

abbrev pub places : ℕ
places = 43

abbrev pub gap : Dyadic → ℤ → ℕ → ℕ
gap q z e = nat_abs (q.whole *ℤ pos (up q.power * e) -ℤ z *ℤ pos (down q.power))

abbrev pub Near : Option Dyadic → ℤ → ℕ → Type 0
Near none z e = ⊥
Near (some q) z e = gap q z e * 2 ^ places ≤ e * down q.power

abbrev pub Equal : Option Dyadic → ℕ → Type 0
Equal none n = ⊥
Equal (some q) n = gap q (pos n) 1 ≡ 0

-- of the preview p of the disk d, fixed by the points ps
pub record PreviewIsTrue (d : Disk) (ps : List Point) (p : Preview) : Type 0 where
  -- X/E and Y/E are fractions
  pub scale : 0 < d.e
  -- "its distance from X/E or Y/E is at most 2⁻⁴³ units"
  pub x_near : Near (read_bits (to_bits binary64 p.x)) d.x d.e
  pub y_near : Near (read_bits (to_bits binary64 p.y)) d.y d.e
  -- "The radius is R exactly": the whole radius that its own call gives
  pub whole : ℕ
  pub whole_given : radius_of d ps ≡ given whole
  pub radius_exact : Equal (read_bits (to_bits binary64 p.radius)) whole

-- ---- a disk that comes near the bound

abbrev pub far_off : Disk
far_off = record { x = pos 10_407_056_491; y = pos 4_256_521_741; e = 8_292_886; s = 115_187_274_148_177_111_394 }

abbrev pub far_off_points : List Point
far_off_points = record { x = pos 21; y = pos 123 } ∷ record { x = pos 2046; y = negsuc 510 } ∷ record { x = pos 2048; y = pos 1536 } ∷ []

pub record NearlyMet : Type 0 where
  pub preview : Preview
  pub shown : preview_of far_off far_off_points ≡ given preview
  pub number : Dyadic
  pub read : read_bits (to_bits binary64 preview.x) ≡ some number
  -- its distance from X/E is 2⁻⁴³ less one part in 4,146,443
  pub distance : gap number far_off.x far_off.e * 2 ^ places * 4_146_443 ≡ 4_146_442 * (far_off.e * down number.power)

pub record TruePreview : Type 0 where
  -- "This is for every disk the preview accepts."
  pub accepted : (d : Disk) (ps : List Point) (p : Preview) → preview_of d ps ≡ given p → PreviewIsTrue d ps p
  -- "Read each preview centre as a whole number times a power of two, from its bits": any bits are read as the number that they are by the library's
  -- account of floats
  pub reading : (b : ℕ) → IsValue (of_bits binary64 b) (read_bits b)
  -- no figure that is smaller by more than one part in four million holds
  pub nearly_met : NearlyMet
