-- The record reader (01: reader, refusal 7; 02, item 4: the count, item 9: then 15, item 10: records of 53 bytes, and of 45 by the old limits).
--
--   signed_at k at bs   == the signed number of the k bytes from place `at` on
--   point_in at bs      == the point whose x and y stand from place `at` on
--   meant a b c        == the points that the three written ones stand for: the last, repeated, counts once
--   disk_in n bs        == the disk whose four numbers stand in front, S with n bytes
--   points_in n bs      == the points whose three stand behind
--   count_in n bs       == the count of points written at the end
--   held_in l d ps      == the disk and the points, or the refusal due first of them by the limits l
--   read_by n l bs      == what is answered for a record with an S of n bytes, by the limits l
--   read_of bs          == what the call answers: the refusal due first, or the disk and the points
--   held f              == the numbers of a disk and its points, as these definitions speak of them
--
-- That this is the disk and the points whose record the bytes are, and of no other bytes, is said by proofs/RoundTrip.
use Rattle.std.specs.Prelude.{Bool, true, false, not, List, [], ◌∷◌, ℕ, ◌+◌, eqb, ℤ, length}
use Rattle.answers.specs.Outcome.{Outcome, given, refuse_if, and_then}
use Rattle.big_endian.specs.Fields.{get}
use Rattle.twos_complement.specs.Twos.{back}
use Rattle.geometry.specs.declared.Point.{Point}
use Rattle.geometry.specs.declared.Limits.{Limits}
use Rattle.geometry.specs.declared.SupportedDisk.{SupportedDisk}
use Rattle.geometry.specs.EmBox.{em, old_em}
use Rattle.geometry.specs.Plane.{Disk, numbers, members}
use Rattle.point_lists.specs.Sets.{same}
use Rattle.disk_checks.specs.Checks.{check_in}
use Rattle.record_writer.specs.Layout.{number_width, coordinate_width, count_width, s_width, old_s_width, x_at, y_at, e_at, s_at}
use Rattle.record_writer.specs.Layout.{first_at, second_at, third_at, count_at, length_by, old_record_length}

abbrev pub signed_at : ℕ → ℕ → List ℕ → ℤ
signed_at n at bs = back n (get n 0 at bs)

abbrev pub point_in : ℕ → List ℕ → Point
point_in at bs = record { x = signed_at coordinate_width at bs; y = signed_at coordinate_width (at + coordinate_width) bs }

unfoldable pub meant : Point → Point → Point → List Point
meant a b c = count (same b c) (same a b)
  where
    count : Bool → Bool → List Point
    count false s = a ∷ b ∷ c ∷ []
    count true false = a ∷ b ∷ []
    count true true = a ∷ []

abbrev pub disk_in : ℕ → List ℕ → Disk
disk_in n bs = record { x = signed_at number_width x_at bs; y = signed_at number_width y_at bs; e = get number_width 0 e_at bs; s = get n 0 s_at bs }

abbrev pub points_in : ℕ → List ℕ → List Point
points_in n bs = meant (point_in (first_at n) bs) (point_in (second_at n) bs) (point_in (third_at n) bs)

abbrev pub count_in : ℕ → List ℕ → ℕ
count_in n bs = get count_width 0 (count_at n) bs

abbrev pub held_in : Limits → Disk → List Point → Outcome (Disk × List Point)
held_in l d ps = and_then (check_in l d ps) (λ done. given (d, ps))

-- "A count that disagrees with the repeats is refused as 7, as is any other length" (02, item 4)
abbrev pub read_by : ℕ → Limits → List ℕ → Outcome (Disk × List Point)
read_by n l bs =
    refuse_if (not (eqb (length bs) (length_by n))) 7
    (refuse_if (not (eqb (count_in n bs) (length (points_in n bs)))) 7
    (held_in l (disk_in n bs) (points_in n bs)))

-- "The reader still takes 45-byte records by the old limits" (02, item 10): by whether the bytes are as many
abbrev pub read_as : Bool → List ℕ → Outcome (Disk × List Point)
read_as true bs = read_by old_s_width old_em bs
read_as false bs = read_by s_width em bs

abbrev pub read_of : List ℕ → Outcome (Disk × List Point)
read_of bs = read_as (eqb (length bs) old_record_length) bs

abbrev pub held : SupportedDisk → Disk × List Point
held f = (numbers f.disk, members f.support)
