-- Document 02, item 5: what the level of the procedure with two points fixed promises by itself. Shown in proofs/InnerLevel.antt, from the
-- contract of `two_fixed` of the crate `inner_level`: `Given`, which it asks, and `Ran`, which it gives.
--
--   end_state n after d t           == the state in the text's terms: the disk d in lowest terms, t tests, the first n points of `after`
--   ByItself a b n before after d t == of the call with a and b fixed, on the first n points of `before`
--   InnerLevel                     == so it is with "any two different corners", for "up to 4,096 corners, none included" (`Given`)
use Rattle.std.specs.Prelude.{◌≡◌, ◌↔◌, ℕ, ◌*◌, ℤ, pos, drop}
use mathlib.Core.List.{List, [], ◌∷◌, Permᴰ}
use Rattle.integers.specs.Order.{◌≺◌}
use Rattle.geometry.specs.declared.Point.{Point}
use Rattle.geometry.specs.Points.{first_points}
use Rattle.disks.specs.Smallest.{RationalDisk, Fits, SmallestWith}
use Rattle.disks.specs.Procedure.{State, disk, mtf}
use Rattle.disks.specs.Runs.{Runs}
use Rattle.relative_disks.specs.declared.RelativeDisk.{RelativeDisk}
use Rattle.relative_disks.specs.Relative.{in_lowest_terms}
use Rattle.fixed_points.specs.declared.Boundary.TheVariants.{Two}
use Rattle.inner_level.specs.Ran.{Given, Ran}

abbrev pub end_state : ℕ → List ℤ → RelativeDisk → ℕ → State
end_state n after d tests = record { cover = disk (in_lowest_terms d); tests = tests; left = first_points n after }

pub record ByItself (a b : Point) (n : ℕ) (before after : List ℤ) (d : RelativeDisk) (tests : ℕ) : Type 0 where
  -- "wherever some disk with both on its rim holds the list, the disk is the smallest such", over all disks with a fractional centre and squared
  -- radius; and only the same disk equals it
  pub smallest : (c : RationalDisk) → Fits c (first_points n before) (a ∷ b ∷ []) → SmallestWith (first_points n before) (a ∷ b ∷ []) (in_lowest_terms d)
  -- "disk, count and order left are exactly the text's": on every list on which the level ends on a disk, document 01's words lead to this state
  -- and to nothing else; where it does not, three points were in a row, which have no circle, and the words lead nowhere
  pub by_text : (s : State) → Runs (a ∷ b ∷ []) (first_points n before) s ↔ ((pos 0 ≺ d.e) × (s ≡ end_state n after d tests))
  -- it ends on one wherever some disk fits
  pub disk_there : (c : RationalDisk) → Fits c (first_points n before) (a ∷ b ∷ []) → pos 0 ≺ d.e
  -- on every list count and order are those of the function `mtf` too: each point is tested once, the points are the same, each as often as
  -- before, and the numbers behind them stay
  pub tests_are : tests ≡ (mtf (a ∷ b ∷ []) (first_points n before)).tests
  pub order_is : first_points n after ≡ (mtf (a ∷ b ∷ []) (first_points n before)).left
  pub tested_once : tests ≡ n
  pub permuted : Permᴰ (first_points n after) (first_points n before)
  pub behind : drop (2 * n) after ≡ drop (2 * n) before

abbrev pub InnerLevel : Type 0
InnerLevel =
    (a b : Point) → (a ≡ b → ⊥) → (n : ℕ) (before after : List ℤ) (d : RelativeDisk) (tests : ℕ)
    → Given (Two a b) n before → Ran (Two a b) n before after d tests → ByItself a b n before after d tests
