-- The part of a sheet that is glyph k (01, "Description, sheet, record"; refusals 1, 6, 10 in this order). The directory, and the rules that a sheet
-- keeps: directory/specs/Directory.antt.
--
--   glyph_of s k         == where glyph k lies in the sheet s, or the number of the refusal due first
--   part_of s start len  == the len bytes of s from start on; none where they do not all lie in s
--   part_at s k          == the bytes that pair k of the directory names
--   parts s i n         == the n parts from part i on
use Rattle.std.specs.Prelude.{Bool, true, false, List, [], map, ℕ, ◌+◌, leb, length, take, drop}
use Rattle.answers.specs.Outcome.{Outcome, given, refuse_if, and_then}
use Rattle.directory.specs.declared.Place.{Place}
use Rattle.directory.specs.Directory.{pair, pairs, count_of}

-- "Sheet: 1, 6, 10": the first two are `count_of`'s
unfoldable pub glyph_of : List ℕ → ℕ → Outcome Place
glyph_of s k = and_then (count_of s) (λ n. refuse_if (leb n k) 10 (given (pair s k)))

abbrev pub pick_list : Bool → List ℕ → List ℕ
pick_list true a = a
pick_list false a = []

abbrev pub part_of : List ℕ → ℕ → ℕ → List ℕ
part_of s start len = pick_list (leb (start + len) (length s)) (take len (drop start s))

abbrev pub part_at : List ℕ → ℕ → List ℕ
part_at s k = part_of s (pair s k).start (pair s k).len

unfoldable pub parts : List ℕ → ℕ → ℕ → List (List ℕ)
parts s i n = map (λ (p : Place). part_of s p.start p.len) (pairs s i n)
