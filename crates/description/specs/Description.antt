-- Descriptions, and what the loader makes of them (01, "Description, sheet, record", "What a refused call hands back"). What a line is:
-- `Line` of the crate lines; what a number is: `numeral` of the crate numerals.
--
--   lines_read text      == the lines of a description, each as what it is
--   named text          == the points that a description names: those on its lines, in file order, repeats kept
--   by_line n ls         == the verdict on the lines ls behind lines with n points: the first faulty line decides
--   load_of text list    == the loader's answer: the number of points, or the refusal due first
--   room                == a list that the loader can be lent: as short as it takes
--   list_after text list == what the lent list holds after the call
use Rattle.std.specs.Prelude.{ℕ, suc, not, List, [], ◌∷◌, map, eqb, leb, ltb, ℤ, pos, length, replicate}
use Rattle.answers.specs.Outcome.{Outcome, given, refused, refuse_if}
use Rattle.answers.specs.Lent.{front_put}
use Rattle.geometry.specs.declared.Point.{Point}
use Rattle.geometry.specs.EmBox.{in_em_box}
use Rattle.geometry.specs.Points.{flat}
use Rattle.lines.specs.Line.{Line, blank, point, fault, lines_of, line_of}

abbrev pub lines_read : List ℕ → List Line
lines_read text = map line_of (lines_of text)

-- ---- the points that a description names (01: the corners that it names, its list)

unfoldable pub points_on : List Line → List Point
points_on [] = []
points_on (point p ∷ ls) = p ∷ points_on ls
points_on (blank ∷ ls) = points_on ls
points_on (fault ∷ ls) = points_on ls

abbrev pub named : List ℕ → List Point
named text = points_on (lines_read text)

-- ---- the loader

-- "by line; the first faulty line decides, in it 2, then 3, then 4; at the end 5"
unfoldable pub by_line : ℕ → List Line → Outcome ℕ
by_line n [] = refuse_if (eqb n 0) 5 (given n)
by_line n (blank ∷ ls) = by_line n ls
by_line n (fault ∷ ls) = refused 2
by_line n (point p ∷ ls) = refuse_if (not (in_em_box p)) 3 (refuse_if (leb 4096 n) 4 (by_line (suc n) ls))

-- "Loader: 8, 1, then by line"
unfoldable pub load_of : List ℕ → List ℤ → Outcome ℕ
load_of text list =
    refuse_if (ltb (length list) 8192) 8
    (refuse_if (ltb 65535 (length text)) 1
    (by_line 0 (lines_read text)))

abbrev pub room : List ℤ
room = replicate 8192 (pos 0)

abbrev pub list_by : Outcome ℕ → List ℤ → List ℤ → List ℤ
list_by (given n) front list = front_put front list
list_by (refused k) front list = list

-- the points in file order at the front of the list and the rest as it was; refused, all as it was
unfoldable pub list_after : List ℕ → List ℤ → List ℤ
list_after text list = list_by (load_of text list) (flat (named text)) list
