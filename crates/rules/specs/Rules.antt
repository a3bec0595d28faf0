-- The rules of documents 01 and 02 as propositions, and the row of rules of each public call, with the papers' numbers in their order.
--
--   GoodLine i         == a line that is blank, or a point in the em box
--   line_row k i        == the rules of a line behind lines with k points: 2, then 3, then 4
--   FirstFaulty ls n   == lines part into good ones, a faulty one and the rest; the faulty one gives n
--   by_line ls          == the rule of the lines: all good, and at most 4,096 points; the first faulty line decides
--   part_end s i        == where part i of the sheet s ends
--   PairsInOrder s     == the rules of a sheet's pairs
--   RecordableIn l d ps == the disk d and the points ps are such as a valid record by the limits l holds; Recordable d ps: by those of the em
--   Bytes bs           == bs is a list of bytes
--   IsRecordOf d ps bs == bs is the record of such a disk and points: of 53 bytes, or of 45 by the old limits; IsRecord bs: of some
--   Names p c          == the drawing program's point p is c: its whole numbers are c's, or its floats stand for them exactly
--   point_row s         == the rules of a traced point: 14, then 3
--   loader_row, directory_row, sheet_row, run_row, estimate_row, engine_row, writer_row, reader_row, disk_row, append_row, through_row, traced_row == the rows; radius
--                         and preview have disk_row, the call that reduces a list to its hull and that for the widest stretch have engine_row
--
-- `Inside em p`: x is from 0 to 2048 and y from −512 to 1536 (geometry/specs/EmBox.antt, which has every limit of points and disks).
-- `Belong d ps`: the points ps belong to the disk d (belonging/specs/Belonging.antt).
use Rattle.std.specs.Prelude.{◌≡◌, ◌⊎◌, ℕ, suc, ◌+◌, ◌*◌, ◌^◌, ◌%◌, ◌≤◌, ◌<◌, ℤ, pos, length, get_or}
use mathlib.Core.List.{List, [], ◌∷◌, ◌++◌, Memᴰ}
use Rattle.divisors.specs.Divisor.{Reduced}
use Rattle.integers.specs.Order.{◌≼◌}
use Rattle.geometry.specs.declared.Point.{Point}
use Rattle.geometry.specs.declared.Limits.{Limits}
use Rattle.geometry.specs.Plane.{Disk}
use Rattle.geometry.specs.EmBox.{em, old_em, Inside, WithinLimits}
use Rattle.geometry.specs.Points.{points}
use Rattle.point_lists.specs.Sets.{In}
use Rattle.point_lists.specs.Rising.{Rising}
use Rattle.disks.specs.Smallest.{RationalDisk, Fits}
use Rattle.chosen_points.specs.declared.Chosen.{Chosen}
use Rattle.chosen_points.specs.Chosen.{chosen}
use Rattle.tracings.specs.declared.TracedPoint.{TracedPoint}
use Rattle.tracings.specs.Squares.{traced, corners}
use Rattle.lines.specs.Line.{Line, blank, point, fault}
use Rattle.description.specs.Description.{lines_read, points_on, named}
use Rattle.whole_floats.specs.Whole.{StandsFor}
use Rattle.drawn_points.specs.declared.DrawnPoint.{DrawnPoint}
use Rattle.drawn_points.specs.declared.DrawnPoint.TheVariants.{Whole, Drawn}
use Rattle.directory.specs.Directory.{count, directory_end, pair}
use Rattle.belonging.specs.Belonging.{Belong}
use Rattle.record_writer.specs.Layout.{record_length, old_record_length}
use Rattle.record_writer.specs.Bytes.{record_bytes, old_record_bytes}
use Rattle.rules.specs.Row.{Rule, ◌unless◌, DueFirst, each_of}

-- ---- descriptions

pub data GoodLine : Line → Type 0 where
  empty : GoodLine blank
  boxed : {p : Point} → Inside em p → GoodLine (point p)

abbrev pub AllGood : List Line → Type 0
AllGood ls = (i : Line) → Memᴰ i ls → GoodLine i

-- "in it 2, then 3, then 4"
abbrev pub line_row : ℕ → Line → List Rule
line_row k i =
    2 unless (i ≡ fault → ⊥)
    ∷ 3 unless ((p : Point) → i ≡ point p → Inside em p)
    ∷ 4 unless ((p : Point) → i ≡ point p → k < 4096)
    ∷ []

pub record FirstFaulty (ls : List Line) (n : ℕ) : Type 0 where
  pub front : List Line
  pub line : Line
  pub back : List Line
  pub parted : ls ≡ front ++ line ∷ back
  pub good : AllGood front
  pub few : length (points_on front) ≤ 4096
  pub due : DueFirst (line_row (length (points_on front)) line) n

-- "by line; the first faulty line decides"
abbrev pub by_line : List Line → Rule
by_line ls = record { Kept = AllGood ls × (length (points_on ls) ≤ 4096); Broken = FirstFaulty ls }

-- "Loader: 8, 1, then by line; .. at the end 5."
abbrev pub loader_row : List ℕ → List ℤ → List Rule
loader_row text list =
    8 unless (8192 ≤ length list)
    ∷ 1 unless (length text ≤ 65535)
    ∷ by_line (lines_read text)
    ∷ 5 unless (1 ≤ length (named text))
    ∷ []

-- ---- sheets

abbrev pub part_end : List ℕ → ℕ → ℕ
part_end s i = (pair s i).start + (pair s i).len

pub record PairsInOrder (s : List ℕ) : Type 0 where
  -- "sorted by offset"
  pub sorted : (i j : ℕ) → i < j → j < count s → (pair s i).start ≤ (pair s j).start
  -- "The first part starts at or after the directory"
  pub first : 0 < count s → directory_end s ≤ (pair s 0).start
  -- "each next at or after the end of the one before"
  pub next : (i : ℕ) → suc i < count s → part_end s i ≤ (pair s (suc i)).start
  -- "all within the sheet"
  pub within : (i : ℕ) → i < count s → part_end s i ≤ length s

-- what is asked of a sheet whichever glyph is meant
abbrev pub directory_row : List ℕ → List Rule
directory_row s =
    1 unless (length s ≤ 65535)
    ∷ 6 unless (directory_end s ≤ length s)
    ∷ 6 unless PairsInOrder s
    ∷ []

-- "Sheet: 1, 6, 10."
abbrev pub sheet_row : List ℕ → ℕ → List Rule
sheet_row s k = directory_row s ++ (10 unless (k < count s) ∷ [])

-- "1, 6, then 8 if the buffer lacks 53 bytes for each glyph or the list a place, then 17 for T of 2⁶⁰ or more" (02, item 12)
abbrev pub run_row : List ℕ → ℕ → List ℕ → List ℕ → List Rule
run_row s t buffer list =
    directory_row s
    ++ (8 unless (record_length * count s ≤ length buffer)
    ∷ 8 unless (count s ≤ length list)
    ∷ 17 unless (t < 2 ^ 60)
    ∷ [])

-- "Refusals are 1, 6, then 8 for a list that is too short" (02, item 13)
abbrev pub estimate_row : List ℕ → List ℕ → List ℕ → List Rule
estimate_row s points_list refusals_list =
    directory_row s
    ++ (8 unless (count s ≤ length points_list)
    ∷ 8 unless (count s ≤ length refusals_list)
    ∷ [])

-- ---- point lists

-- "Engine: 9, 5, 4, 3."; of the call of 02, item 8: "Refusals are the engine's."
abbrev pub engine_row : List ℤ → List Rule
engine_row list =
    9 unless (length list % 2 ≡ 0)
    ∷ 5 unless (1 ≤ length (points list))
    ∷ 4 unless (length (points list) ≤ 4096)
    ∷ 3 unless ((p : Point) → In p (points list) → Inside em p)
    ∷ []

-- ---- chosen points on the boundary (02, item 6)

-- "the engine's own on the list, then 12 if a chosen corner, even one outside the em box, isn't in it, then 13 exactly if no such disk exists"
abbrev pub through_row : List ℤ → Chosen → List Rule
through_row list c =
    engine_row list
    ++ (12 unless ((p : Point) → In p (chosen c) → In p (points list))
    ∷ 13 unless ((k : RationalDisk) × Fits k (points list) (chosen c))
    ∷ [])

-- ---- hand-traced letters (02, item 7)

-- "14 for a t outside 0 to 50, before 3 for the same corner"; "a square that leaves the em box is 3"
abbrev pub point_row : TracedPoint → List Rule
point_row s =
    14 unless ((pos 0 ≼ s.t) × (s.t ≼ pos 50))
    ∷ 3 unless ((p : Point) → In p (corners s) → Inside em p)
    ∷ []

-- "The list goes by threes, x, y, t, any other length being 9; it has at most 1,024 traced corners, else 4"; "9, 5 and 4 first; then the first faulty
-- corner decides"
abbrev pub traced_row : List ℤ → List Rule
traced_row list =
    9 unless (length list % 3 ≡ 0)
    ∷ 5 unless (1 ≤ length (traced list))
    ∷ 4 unless (length (traced list) ≤ 1024)
    ∷ each_of point_row (traced list)
    ∷ []

-- ---- points from a drawing program (02, item 2)

abbrev pub Names : DrawnPoint → Point → Type 0
Names (Whole x y) c = (x ≡ c.x) × (y ≡ c.y)
Names (Drawn x y) c = StandsFor x c.x × StandsFor y c.y

-- "8 first, as for the loader; 11 for a NaN, an infinity or a float with a fraction in x or y; then 3; then 4 when 4,096 or more are there"
abbrev pub append_row : DrawnPoint → List ℤ → ℕ → List Rule
append_row p l n =
    8 unless (8192 ≤ length l)
    ∷ 11 unless ((c : Point) × Names p c)
    ∷ 3 unless ((c : Point) → Names p c → Inside em c)
    ∷ 4 unless (n < 4096)
    ∷ []

-- ---- disks, points and records

-- "A valid record has its corners so written, E from 1 to 2,000,000, the divisor rule, the centre in the em box, S at most 500,000 × E², and
-- corners in the em box": one to three, which rise strictly; by other figures than these where the limits are others
pub record RecordableIn (l : Limits) (d : Disk) (ps : List Point) : Type 0 where
  pub e_some : 1 ≤ d.e
  -- E at most its limit, the centre in the box, S at most its limit × E²
  pub within : WithinLimits l d
  -- no whole number above 1 divides X, Y and E all together
  pub lowest : Reduced d.x d.y d.e
  pub some : 1 ≤ length ps
  pub most : length ps ≤ 3
  pub rises : Rising ps
  pub in_box : (p : Point) → In p ps → Inside l p

abbrev pub Recordable : Disk → List Point → Type 0
Recordable d ps = RecordableIn em d ps

abbrev pub Bytes : List ℕ → Type 0
Bytes bs = (i : ℕ) → get_or bs i 0 < 256

-- "the record has 53. The reader still takes 45-byte records by the old limits" (02, item 10)
pub data IsRecordOf (d : Disk) (ps : List Point) (bs : List ℕ) : Type 0 where
  current : Recordable d ps → bs ≡ record_bytes d ps → IsRecordOf d ps bs
  old : RecordableIn old_em d ps → bs ≡ old_record_bytes d ps → IsRecordOf d ps bs

pub record IsRecord (bs : List ℕ) : Type 0 where
  pub disk : Disk
  pub support : List Point
  pub is_record : IsRecordOf disk support bs

-- "Reader, cutting radius, preview: 7."; "15 when it fails, after 7" (02, item 9)
abbrev pub disk_row : Disk → List Point → List Rule
disk_row d ps = 7 unless Recordable d ps ∷ 15 unless Belong d ps ∷ []

-- "Writer: 8, 7."; "the writer writes 53 only, into a buffer of at least 53" (02, item 10)
abbrev pub writer_row : Disk → List Point → List ℕ → List Rule
writer_row d ps buffer = 8 unless (record_length ≤ length buffer) ∷ disk_row d ps

-- "A count that disagrees with the repeats is refused as 7, as is any other length" (02, item 4): bytes with such a count are no record
abbrev pub reader_row : List ℕ → List Rule
reader_row bs =
    7 unless ((length bs ≡ record_length) ⊎ (length bs ≡ old_record_length))
    ∷ 7 unless IsRecord bs
    ∷ 15 unless ((r : IsRecord bs) → Belong r.disk r.support)
    ∷ []
