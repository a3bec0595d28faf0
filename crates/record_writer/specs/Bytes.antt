-- The bytes of a record (01, "Description, sheet, record"; 02, items 4 and 10).
--
--   signed n z         == the n bytes of z, signed, high byte first
--   disk_bytes n d      == X, Y (signed), E, and S in n bytes
--   points_bytes ps     == x and y of each point, signed
--   made_three ps       == three points: if there are one or two, the last is repeated
--   count_bytes ps      == how many points there are (02: the rim count)
--   record_by n d ps    == the record of the disk d and the points ps with an S of n bytes
--   record_bytes d ps   == their record, of 53 bytes
--   old_record_bytes d ps == the same with 45 bytes, as records of the old em have it
use Rattle.std.specs.Prelude.{List, [], ◌∷◌, ◌++◌, ℕ, ℤ, length}
use Rattle.big_endian.specs.Fields.{bytes_of}
use Rattle.twos_complement.specs.Twos.{twos}
use Rattle.geometry.specs.declared.Point.{Point}
use Rattle.geometry.specs.Plane.{Disk}
use Rattle.record_writer.specs.Layout.{number_width, coordinate_width, s_width, old_s_width, count_width}

abbrev pub signed : ℕ → ℤ → List ℕ
signed n z = bytes_of n (twos n z)

abbrev pub disk_bytes : ℕ → Disk → List ℕ
disk_bytes n d = signed number_width d.x ++ signed number_width d.y ++ bytes_of number_width d.e ++ bytes_of n d.s

abbrev pub point_bytes : Point → List ℕ
point_bytes p = signed coordinate_width p.x ++ signed coordinate_width p.y

abbrev pub points_bytes : List Point → List ℕ
points_bytes [] = []
points_bytes (p ∷ ps) = point_bytes p ++ points_bytes ps

-- a support set has a point: the first clause is never reached
abbrev pub made_three : List Point → List Point
made_three [] = []
made_three (a ∷ []) = a ∷ a ∷ a ∷ []
made_three (a ∷ b ∷ []) = a ∷ b ∷ b ∷ []
made_three (a ∷ b ∷ c ∷ ps) = a ∷ b ∷ c ∷ ps

abbrev pub count_bytes : List Point → List ℕ
count_bytes ps = bytes_of count_width (length ps)

unfoldable pub record_by : ℕ → Disk → List Point → List ℕ
record_by n d ps = disk_bytes n d ++ points_bytes (made_three ps) ++ count_bytes ps

abbrev pub record_bytes : Disk → List Point → List ℕ
record_bytes d ps = record_by s_width d ps

abbrev pub old_record_bytes : Disk → List Point → List ℕ
old_record_bytes d ps = record_by old_s_width d ps
