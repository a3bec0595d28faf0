-- The line in front of a text, for the contract of the function that reads it.
--
--   first_line, after_line == the first line of the bytes, and what follows it and its line feed
--   after_spaces          == what follows the spaces at the front
--   line_naming p         == the line that names the point p, or a blank one
use Rattle.std.specs.Prelude.{ℕ, List, drop, Option, Some, None}
use Rattle.geometry.specs.declared.Point.{Point}
use Rattle.numerals.specs.Places.{is_feed, no_space, up_to, from}
use Rattle.lines.specs.Line.{Line, blank, point}

abbrev pub first_line : List ℕ → List ℕ
first_line bs = up_to is_feed bs

abbrev pub after_line : List ℕ → List ℕ
after_line bs = drop 1 (from is_feed bs)

abbrev pub after_spaces : List ℕ → List ℕ
after_spaces bs = from no_space bs

abbrev pub line_naming : Option Point → Line
line_naming None = blank
line_naming (Some p) = point p
