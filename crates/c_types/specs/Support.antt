-- A support set as a struct of numbers: a size and three points.
--
--   no_support      == what stands beside a refusal in place of a support set
--   support_of ps   == the points ps, one to three, the last repeated to make three
--   points_of t     == the first `size` points of t; none where the size is not 1, 2 or 3
--   IsSetOf t r     == r is a support set of the points of t; or no points of t count, and r is a bad record
--   IsSupported d t r == the same of the disk d with that support set
--
-- No record holds a set of no points (validity/specs/Valid: `one_to_three`), so a size that no set has is refused with 7.
use Rattle.std.specs.Prelude.{◌≡◌, List, [], ◌∷◌, ℕ, zero, suc, pos, Result, MatchResult}
use Rattle.answers.specs.declared.Refusal.{Refusal}
use Rattle.answers.specs.declared.Refusal.TheVariants.{BadRecord}
use Rattle.geometry.specs.declared.Point.{Point}
use Rattle.geometry.specs.declared.Disk.{Disk}
use Rattle.geometry.specs.declared.SupportSet.{SupportSet}
use Rattle.geometry.specs.declared.SupportedDisk.{SupportedDisk}
use Rattle.geometry.specs.Plane.{members}
use Rattle.c_types.specs.declared.Support.{Support}

abbrev pub origin : Point
origin = record { x = pos 0; y = pos 0 }

abbrev pub no_support : Support
no_support = record { size = 0; a = origin; b = origin; c = origin }

-- a support set has one to three points: the first clause is never reached, and c is the last
abbrev pub support_of : List Point → Support
support_of [] = no_support
support_of (a ∷ []) = record { size = 1; a = a; b = a; c = a }
support_of (a ∷ b ∷ []) = record { size = 2; a = a; b = b; c = b }
support_of (a ∷ b ∷ c ∷ ps) = record { size = 3; a = a; b = b; c = c }

unfoldable pub counted : ℕ → Point → Point → Point → List Point
counted zero a b c = []
counted (suc zero) a b c = a ∷ []
counted (suc (suc zero)) a b c = a ∷ b ∷ []
counted (suc (suc (suc zero))) a b c = a ∷ b ∷ c ∷ []
counted (suc (suc (suc (suc n)))) a b c = []

abbrev pub points_of : Support → List Point
points_of t = counted t.size t.a t.b t.c

abbrev pub IsSetOf : Support → Result SupportSet Refusal → Type 0
IsSetOf t r = MatchResult r (λ s. members s ≡ points_of t) (λ e. (points_of t ≡ []) × (e ≡ BadRecord))

abbrev pub IsSupported : Disk → Support → Result SupportedDisk Refusal → Type 0
IsSupported d t r = MatchResult r (λ f. (f.disk ≡ d) × (members f.support ≡ points_of t)) (λ e. (points_of t ≡ []) × (e ≡ BadRecord))
