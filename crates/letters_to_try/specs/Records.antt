-- Records byte for byte, of 53 bytes and of 45 (02, item 10): disks with their points, the last repeated or not, counts that agree and disagree (02, item 4),
-- points that do not belong to their disk (02, item 9), and numbers at the limits of each form. Shown in proofs/Records.antt.
--
--   eight n            == a number below 256 in eight bytes
--   high               == the eight bytes of S that a record of 45 does not have, where S is below 2⁶⁴
--   centre x y e       == the bytes of X, Y and E below 256
--   a, b, c            == those of letter F's points (0, 0), (2, 3), (4, 0)
--   one, two, three    == those of X, Y and E of the disks of a alone, of a and b, and of all three, which is letter F's
--   Row                == bytes, and what the reader answers for them
--   rows h             == every kind of repeats, with counts from 0 to 4, and another's points; in front of S's last eight bytes stand the bytes h
--   lengths            == F's record with bytes too few and too many, in both forms; in one form's length with the other's contents
--   large_s             == a letter's record with S above 2⁶⁴; with the high word changed
--   old_limits          == what keeps to the old limits and the new, in both forms: points, E and S/E² that a record of 45 bytes refuses
--   AllRead rs         == the reader answers so for each
--   Written            == the writer's bytes for one, two and three points, and with S above 2⁶⁴
use Rattle.std.specs.Prelude.{◌≡◌, List, [], ◌∷◌, ◌++◌, ℕ}
use Rattle.answers.specs.Outcome.{Outcome, given, refused}
use Rattle.geometry.specs.declared.Point.{Point}
use Rattle.geometry.specs.Plane.{Disk}
use Rattle.record_writer.specs.Bytes.{record_bytes}
use Rattle.record_reader.specs.Reading.{read_of}
use Rattle.letters_to_try.specs.Letters.{at, below, disk}

abbrev pub eight : ℕ → List ℕ
eight n = 0 ∷ 0 ∷ 0 ∷ 0 ∷ 0 ∷ 0 ∷ 0 ∷ n ∷ []

abbrev pub high : List ℕ
high = eight 0

abbrev pub centre : ℕ → ℕ → ℕ → List ℕ
centre x y e = eight x ++ eight y ++ eight e

abbrev pub a : List ℕ
a = 0 ∷ 0 ∷ 0 ∷ 0 ∷ []

abbrev pub b : List ℕ
b = 0 ∷ 2 ∷ 0 ∷ 3 ∷ []

abbrev pub c : List ℕ
c = 0 ∷ 4 ∷ 0 ∷ 0 ∷ []

abbrev pub one : List ℕ → List ℕ
one h = centre 0 0 1 ++ h ++ eight 0

abbrev pub two : List ℕ → List ℕ
two h = centre 2 3 2 ++ h ++ eight 13

abbrev pub three : List ℕ → List ℕ
three h = centre 12 5 6 ++ h ++ eight 169

-- ---- read

pub record Row : Type 0 where
  pub bytes : List ℕ
  pub answer : Outcome (Disk × List Point)

abbrev pub reads : List ℕ → Disk → List Point → Row
reads bs d ps = record { bytes = bs; answer = given (d, ps) }

abbrev pub faulty : List ℕ → Row
faulty bs = record { bytes = bs; answer = refused 7 }

abbrev pub unfit : List ℕ → Row
unfit bs = record { bytes = bs; answer = refused 15 }

abbrev pub rows : List ℕ → List Row
rows h =
    -- one point
    reads (one h ++ a ++ a ++ a ++ (1 ∷ [])) (disk 0 0 1 0) (at 0 0 ∷ [])
    ∷ faulty (one h ++ a ++ a ++ a ++ (0 ∷ []))
    ∷ faulty (one h ++ a ++ a ++ a ++ (2 ∷ []))
    ∷ faulty (one h ++ a ++ a ++ a ++ (3 ∷ []))
    -- two
    ∷ reads (two h ++ a ++ b ++ b ++ (2 ∷ [])) (disk 2 3 2 13) (at 0 0 ∷ at 2 3 ∷ [])
    ∷ faulty (two h ++ a ++ b ++ b ++ (1 ∷ []))
    ∷ faulty (two h ++ a ++ b ++ b ++ (3 ∷ []))
    -- three
    ∷ reads (three h ++ a ++ b ++ c ++ (3 ∷ [])) (disk 12 5 6 169) (at 0 0 ∷ at 2 3 ∷ at 4 0 ∷ [])
    ∷ faulty (three h ++ a ++ b ++ c ++ (1 ∷ []))
    ∷ faulty (three h ++ a ++ b ++ c ++ (2 ∷ []))
    ∷ faulty (three h ++ a ++ b ++ c ++ (4 ∷ []))
    -- the last is repeated, and no other
    ∷ faulty (three h ++ a ++ a ++ b ++ (1 ∷ []))
    ∷ faulty (three h ++ a ++ a ++ b ++ (2 ∷ []))
    ∷ faulty (three h ++ a ++ a ++ b ++ (3 ∷ []))
    -- another's points: 15; with another count or a common divisor 7 comes first
    ∷ unfit (three h ++ a ++ a ++ a ++ (1 ∷ []))
    ∷ unfit (three h ++ a ++ b ++ b ++ (2 ∷ []))
    ∷ unfit (two h ++ a ++ b ++ c ++ (3 ∷ []))
    ∷ faulty (three h ++ a ++ b ++ b ++ (3 ∷ []))
    ∷ faulty (centre 12 6 6 ++ h ++ eight 169 ++ a ++ b ++ b ++ (2 ∷ []))
    ∷ []

-- the bytes of the points and the count of letter F
abbrev pub points : List ℕ
points = a ++ b ++ c ++ (3 ∷ [])

abbrev pub lengths : List Row
lengths =
    faulty (three [] ++ a ++ b ++ c)
    ∷ faulty (three [] ++ points ++ (3 ∷ []))
    ∷ faulty (three high ++ a ++ b ++ c)
    ∷ faulty (three high ++ points ++ (3 ∷ []))
    ∷ faulty (three [] ++ points ++ high)
    ∷ faulty []
    ∷ []

-- 8577370109, 4290778103, 8388602 and the low word of 147286249292406046810, whose high word is 7; the points (0, −512), (1, 1536), (2048, −509)
abbrev pub wide : ℕ → List ℕ
wide h =
    (0 ∷ 0 ∷ 0 ∷ 1 ∷ 255 ∷ 64 ∷ 71 ∷ 253 ∷ [])
    ++ (0 ∷ 0 ∷ 0 ∷ 0 ∷ 255 ∷ 192 ∷ 19 ∷ 247 ∷ [])
    ++ (0 ∷ 0 ∷ 0 ∷ 0 ∷ 0 ∷ 127 ∷ 255 ∷ 250 ∷ [])
    ++ eight h
    ++ (252 ∷ 1 ∷ 223 ∷ 96 ∷ 29 ∷ 125 ∷ 192 ∷ 90 ∷ [])
    ++ (0 ∷ 0 ∷ 254 ∷ 0 ∷ 0 ∷ 1 ∷ 6 ∷ 0 ∷ 8 ∷ 0 ∷ 254 ∷ 3 ∷ 3 ∷ [])

abbrev pub wide_disk : Disk
wide_disk = disk 8_577_370_109 4_290_778_103 8_388_602 147_286_249_292_406_046_810

abbrev pub wide_points : List Point
wide_points = below 0 511 ∷ at 1 1536 ∷ below 2048 508 ∷ []

abbrev pub large_s : List Row
large_s =
    reads (wide 7) wide_disk wide_points
    ∷ unfit (wide 0)
    ∷ unfit (wide 6)
    ∷ faulty (wide 8)
    ∷ []

-- the point (x, 0), for an x of two bytes, and its own disk
abbrev pub lone : ℕ → ℕ → List ℕ → List ℕ
lone x y h =
    let p = x ∷ y ∷ 0 ∷ 0 ∷ [] in
    (0 ∷ 0 ∷ 0 ∷ 0 ∷ 0 ∷ 0 ∷ x ∷ y ∷ []) ++ eight 0 ++ eight 1 ++ h ++ eight 0 ++ p ++ p ++ p ++ (1 ∷ [])

abbrev pub old_limits : List Row
old_limits =
    -- x 1000 in both; x 1001 and 2048 in 53 bytes alone; x 2049 in none
    reads (lone 3 232 []) (disk 1000 0 1 0) (at 1000 0 ∷ [])
    ∷ reads (lone 3 232 high) (disk 1000 0 1 0) (at 1000 0 ∷ [])
    ∷ faulty (lone 3 233 [])
    ∷ reads (lone 3 233 high) (disk 1001 0 1 0) (at 1001 0 ∷ [])
    ∷ faulty (lone 8 0 [])
    ∷ reads (lone 8 0 high) (disk 2048 0 1 0) (at 2048 0 ∷ [])
    ∷ faulty (lone 8 1 [])
    ∷ faulty (lone 8 1 high)
    ∷ []

abbrev pub AllRead : List Row → Type 0
AllRead [] = Unit {0}
AllRead (r ∷ rs) = (read_of r.bytes ≡ r.answer) × AllRead rs

-- ---- written

pub record Written : Type 0 where
  pub of_one : record_bytes (disk 0 0 1 0) (at 0 0 ∷ []) ≡ one high ++ a ++ a ++ a ++ (1 ∷ [])
  pub of_two : record_bytes (disk 2 3 2 13) (at 0 0 ∷ at 2 3 ∷ []) ≡ two high ++ a ++ b ++ b ++ (2 ∷ [])
  pub of_three : record_bytes (disk 12 5 6 169) (at 0 0 ∷ at 2 3 ∷ at 4 0 ∷ []) ≡ three high ++ points
  pub of_wide : record_bytes wide_disk wide_points ≡ wide 7
