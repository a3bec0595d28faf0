-- The estimates of specs/SheetEstimates.antt, by computing.
--
--   estimates_answer : each answers so
--   estimate_leaves  : and one leaves this
use mathlib.Core.Path.{refl}
use Rattle.big_endian.specs.Fields.{get}
use Rattle.geometry.specs.EmBox.{in_box}
use Rattle.lines.specs.Line.{join_piece, pieces, non_empty, line_of_words}
use Rattle.numerals.specs.Numeral.{all_digits, decimal, digits, numeral}
use Rattle.description.specs.Description.{by_line, load_of}
use Rattle.directory.specs.Directory.{pairs, follow, count_of}
use Rattle.sheet.specs.Sheet.{parts}
use Rattle.sheet_estimate.specs.Estimating.{sum, estimate_of}
use Rattle.letters_to_try.specs.SheetEstimates.{estimates, AllTake, LeftBehind}
use Rattle.letters_to_try.proofs.Letters.{◌&◌}

pub estimates_answer : AllTake estimates
unfolding get pairs follow count_of parts estimate_of sum load_of by_line join_piece pieces non_empty all_digits decimal digits numeral line_of_words in_box
estimates_answer = refl & refl & refl & refl & refl & refl & tt

pub estimate_leaves : LeftBehind
unfolding get pairs follow count_of parts estimate_of sum load_of by_line join_piece pieces non_empty all_digits decimal digits numeral line_of_words in_box
estimate_leaves = record { points = refl; refusals = refl }
