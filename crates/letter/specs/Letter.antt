-- One letter worked whole: the calls one after another, from the bytes of a description to its record (01, "Description, sheet, record").
--
--   enclosure_in text list   == loader, lent the list; then engine, which is given the loader's points alone
--   enclosure_of text        == the same in a list of its own
--   Letter                  == what a description comes to: the number of tests, and the bytes of its record
--   letter e                == the letter of the enclosure e
--   letter_of text           == the letter of a description, or the refusal of the first call that refuses
--   letter_in text buf       == the same, its record to be written into buf: 8 first, where the buffer lacks room for a record
--   tests_in o               == the tests of the letter, or the refusal
--   buffer_after o buf       == the buffer afterwards: the record and the rest as it was, or, refused, all as it was
--
-- proofs/Whole: only the loader refuses, and the writer takes what the engine gives.
use Rattle.std.specs.Prelude.{List, ◌++◌, ℕ, ◌*◌, ltb, ℤ, length, take, drop}
use Rattle.answers.specs.Outcome.{Outcome, given, refused, refuse_if, and_then}
use Rattle.description.specs.Description.{load_of, room, list_after}
use Rattle.engine.specs.Engine.{Enclosure, enclose_of}
use Rattle.record_writer.specs.Layout.{record_length}
use Rattle.record_writer.specs.Bytes.{record_bytes}

unfoldable pub enclosure_in : List ℕ → List ℤ → Outcome Enclosure
enclosure_in text list = and_then (load_of text list) (λ n. enclose_of (take (2 * n) (list_after text list)))

abbrev pub enclosure_of : List ℕ → Outcome Enclosure
enclosure_of text = enclosure_in text room

pub record Letter : Type 0 where
  pub tests : ℕ
  pub bytes : List ℕ

abbrev pub letter : Enclosure → Letter
letter e = record { tests = e.tests; bytes = record_bytes e.disk e.support }

unfoldable pub letter_of : List ℕ → Outcome Letter
letter_of text = and_then (enclosure_of text) (λ e. given (letter e))

abbrev pub letter_in : List ℕ → List ℕ → Outcome Letter
letter_in text buf = refuse_if (ltb (length buf) record_length) 8 (letter_of text)

abbrev pub tests_in : Outcome Letter → Outcome ℕ
tests_in o = and_then o (λ g. given g.tests)

abbrev pub buffer_after : Outcome Letter → List ℕ → List ℕ
buffer_after (given g) buf = g.bytes ++ drop record_length buf
buffer_after (refused n) buf = buf
