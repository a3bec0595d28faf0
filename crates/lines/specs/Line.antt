-- Lines of a description (01, "Description, sheet, record").
--
--   pieces sep bs       == bs cut up: each piece ends with the byte sep, which is left out, or at the end of the bytes
--   lines_of text        == the lines of a description
--   words_of line        == what spaces part in a line
--   Line, line_of line   == a line is blank, a point, or a fault
use Rattle.std.specs.Prelude.{ℕ, Bool, true, false, List, [], ◌∷◌, eqb, ℤ}
use Rattle.std.proofs.Math.Option.{Option, none, some}
use Rattle.geometry.specs.declared.Point.{Point}
use Rattle.numerals.specs.Numeral.{numeral}

-- ---- lines and words

-- the byte b before the pieces of what follows it: a separator ends a piece of no bytes, any other byte stands in front of the first piece
unfoldable pub join_piece : Bool → ℕ → List (List ℕ) → List (List ℕ)
join_piece true b ps = [] ∷ ps
join_piece false b [] = (b ∷ []) ∷ []
join_piece false b (p ∷ ps) = (b ∷ p) ∷ ps

unfoldable pub pieces : ℕ → List ℕ → List (List ℕ)
pieces sep [] = []
pieces sep (b ∷ bs) = join_piece (eqb b sep) b (pieces sep bs)

-- "Lines end with byte 10 or at the end of the bytes."
abbrev pub lines_of : List ℕ → List (List ℕ)
lines_of text = pieces 10 text

unfoldable pub non_empty : List (List ℕ) → List (List ℕ)
non_empty [] = []
non_empty ([] ∷ ps) = non_empty ps
non_empty ((b ∷ p) ∷ ps) = (b ∷ p) ∷ non_empty ps

-- only byte 32 is a space
abbrev pub words_of : List ℕ → List (List ℕ)
words_of line = non_empty (pieces 32 line)

-- ---- what a line is

pub data Line : Type 0 where
  blank : Line
  point : Point → Line
  fault : Line

abbrev pub point_of : Option ℤ → Option ℤ → Line
point_of (some x) (some y) = point (record { x = x; y = y })
point_of (some x) none = fault
point_of none y = fault

-- no words: a line of no bytes or only spaces; two that are numbers: x, one or more spaces, y, spaces or none around them
unfoldable pub line_of_words : List (List ℕ) → Line
line_of_words [] = blank
line_of_words (x ∷ y ∷ []) = point_of (numeral x) (numeral y)
line_of_words (x ∷ []) = fault
line_of_words (x ∷ y ∷ z ∷ ws) = fault

abbrev pub line_of : List ℕ → Line
line_of line = line_of_words (words_of line)
