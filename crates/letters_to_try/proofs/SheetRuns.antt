-- The runs of specs/SheetRuns.antt, by computing.
--
--   runs_answer : each answers so
--   run_leaves  : and one leaves this
use mathlib.Core.Path.{refl}
use Rattle.big_endian.specs.Fields.{bytes_of, get}
use Rattle.twos_complement.specs.Twos.{twos}
use Rattle.divisors.specs.Divisor.{gcd, steps}
use Rattle.geometry.specs.EmBox.{all_in_box, in_box}
use Rattle.geometry.specs.Order.{before}
use Rattle.geometry.specs.Plane.{holds}
use Rattle.geometry.specs.Points.{points, flat}
use Rattle.point_lists.specs.Sets.{same}
use Rattle.point_lists.specs.Rising.{insert, sorted}
use Rattle.disks.specs.Procedure.{outside, lowest_terms, diameter_disk, turned_by, circle, boundary_disk, tested, step, through, run}
use Rattle.disks.specs.Support.{fronted, choose, same_disk, supports, first_of, first_support}
use Rattle.engine.specs.Engine.{enclose_of}
use Rattle.lines.specs.Line.{join_piece, pieces, non_empty, line_of_words}
use Rattle.numerals.specs.Numeral.{all_digits, decimal, digits, numeral}
use Rattle.description.specs.Description.{points_on, by_line, load_of, list_after}
use Rattle.directory.specs.Directory.{pairs, follow, count_of}
use Rattle.sheet.specs.Sheet.{parts}
use Rattle.record_writer.specs.Bytes.{record_by}
use Rattle.letter.specs.Letter.{enclosure_in, letter_of}
use Rattle.run_steps.specs.Steps as steps_of
use Rattle.run_steps.specs.Steps.{tried, pass}
use Rattle.sheet_run.specs.Running.{letters, run_of}
use Rattle.letters_to_try.specs.SheetRuns.{runs, AllRun, Left}
use Rattle.letters_to_try.proofs.Letters.{◌&◌}

pub runs_answer : AllRun runs
unfolding get pairs follow count_of parts letters run_of letter_of enclosure_in load_of list_after enclose_of steps_of.step tried pass
    join_piece pieces non_empty all_digits decimal digits numeral line_of_words points_on by_line in_box all_in_box points flat before same
    gcd steps holds outside lowest_terms diameter_disk turned_by circle boundary_disk tested step through run
    insert sorted fronted choose same_disk supports first_of first_support bytes_of twos record_by
runs_answer = refl & refl & refl & refl & refl & refl & refl & refl & refl & refl & refl & tt

pub run_leaves : Left
unfolding get pairs follow count_of parts letters run_of letter_of enclosure_in load_of list_after enclose_of steps_of.step tried pass
    join_piece pieces non_empty all_digits decimal digits numeral line_of_words points_on by_line in_box all_in_box points flat before same
    gcd steps holds outside lowest_terms diameter_disk turned_by circle boundary_disk tested step through run
    insert sorted fronted choose same_disk supports first_of first_support bytes_of twos record_by
run_leaves = record { numbers = refl; records = refl }
