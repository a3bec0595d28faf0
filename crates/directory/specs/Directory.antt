-- A sheet's directory of pairs, and the rules that a sheet keeps (01, "Description, sheet, record"; refusals 1, 6 in this order).
--
--   Place               == a pair of the directory: the offset of a part, from the start of the sheet, and its length; src/ declares it
--   number s at         == the 16-bit number at place `at` of the sheet s, high byte first
--   count s             == the count, at the sheet's start: the number of pairs
--   directory_end s      == the length of the directory: the count, and 4 bytes a pair
--   pair s i            == pair i, from 0
--   pairs s i n         == the n pairs from pair i on
--   follow e l ps       == each of the places ps starts at or after the end of the one before, the first at or after e, all within l bytes
--   count_of s           == the number of glyphs of the sheet s, or the number of the refusal due first
--
-- "Sorted by offset" (01) follows from `follow`: a part does not end before it starts (proofs/Follow: `pairs-sorted`). Bytes that no part has are
-- gaps. A sheet of 0 or 1 bytes is shorter than any directory.
use Rattle.std.specs.Prelude.{Bool, true, not, ◌&&◌, List, [], ◌∷◌, ℕ, zero, suc, ◌+◌, ◌*◌, leb, ltb, length}
use Rattle.answers.specs.Outcome.{Outcome, given, refuse_if}
use Rattle.big_endian.specs.Fields.{get}
use Rattle.directory.specs.declared.Place.{Place}

abbrev pub number : List ℕ → ℕ → ℕ
number s at = get 2 0 at s

abbrev pub count : List ℕ → ℕ
count s = number s 0

abbrev pub directory_end : List ℕ → ℕ
directory_end s = 2 + 4 * count s

abbrev pub pair : List ℕ → ℕ → Place
pair s i = record { start = number s (2 + 4 * i); len = number s (4 + 4 * i) }

unfoldable pub pairs : List ℕ → ℕ → ℕ → List Place
pairs s i zero = []
pairs s i (suc n) = pair s i ∷ pairs s (suc i) n

unfoldable pub follow : ℕ → ℕ → List Place → Bool
follow end l [] = true
follow end l (p ∷ ps) = leb end p.start && (leb (p.start + p.len) l && follow (p.start + p.len) l ps)

-- "Sheet: 1, 6"
unfoldable pub count_of : List ℕ → Outcome ℕ
count_of s =
    refuse_if (ltb 65535 (length s)) 1
    (refuse_if (ltb (length s) (directory_end s)) 6
    (refuse_if (not (follow (directory_end s) (length s) (pairs s 0 (count s)))) 6
    (given (count s))))
