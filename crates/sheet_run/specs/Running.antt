-- A sheet run under one allowance of tests (02, item 12). The pass over its glyphs: run_steps/specs/Steps.antt.
--
--   letters s i n    == glyphs i, i + 1, .. of the sheet s, n of them, each worked whole: its letter, or its description's refusal
--   ran s t          == the state behind all glyphs of the sheet s, with the allowance t
--   run_of s t b ns   == what a run of the sheet s with the allowance t, lent the buffer b and the list ns, comes to, or the refusal due first:
--                       1, 6, then 8 if the buffer lacks a record's bytes for each glyph or the list a place, then 17 for 2⁶⁰ or more
--   answer_of o       == how many were worked, and what is left of the allowance
--   buffer_by o b, numbers_by o ns == what a run that comes to o leaves in the buffer and in the list; refused, what was there
--   buffer_after s t b ns, numbers_after s t b ns == the buffer and the list afterwards
--   told w          == the two numbers of the call's value w
use Rattle.std.specs.Prelude.{List, map, ℕ, ◌*◌, ◌^◌, leb, ltb, length}
use Rattle.answers.specs.Outcome.{Outcome, given, refused, refuse_if, and_then}
use Rattle.answers.specs.Lent.{front_put}
use Rattle.directory.specs.Directory.{count, count_of}
use Rattle.sheet.specs.Sheet.{parts}
use Rattle.record_writer.specs.Layout.{record_length}
use Rattle.letter.specs.Letter.{Letter, letter_of}
use Rattle.run_steps.specs.Steps.{State, start, pass}
use Rattle.sheet_run.specs.declared.Worked.{Worked}

unfoldable pub letters : List ℕ → ℕ → ℕ → List (Outcome Letter)
letters s i n = map letter_of (parts s i n)

abbrev pub ran : List ℕ → ℕ → State
ran s t = pass (letters s 0 (count s)) (start t)

-- "Checks: 1, 6, then 8 if the buffer lacks 53 bytes for each glyph or the list a place, then 17 for T of 2⁶⁰ or more"
unfoldable pub run_of : List ℕ → ℕ → List ℕ → List ℕ → Outcome State
run_of s t b ns =
    and_then (count_of s) (λ n.
    refuse_if (ltb (length b) (record_length * n)) 8
    (refuse_if (ltb (length ns) n) 8
    (refuse_if (leb (2 ^ 60) t) 17
    (given (ran s t)))))

-- "the call returns how many were worked and what is left of T"
abbrev pub answer_of : Outcome State → Outcome (ℕ × ℕ)
answer_of o = and_then o (λ s. given (s.worked, s.left))

-- "Bytes and places behind the last written stay"
abbrev pub buffer_by : Outcome State → List ℕ → List ℕ
buffer_by (given s) b = front_put s.records b
buffer_by (refused n) b = b

abbrev pub numbers_by : Outcome State → List ℕ → List ℕ
numbers_by (given s) ns = front_put s.numbers ns
numbers_by (refused n) ns = ns

abbrev pub buffer_after : List ℕ → ℕ → List ℕ → List ℕ → List ℕ
buffer_after s t b ns = buffer_by (run_of s t b ns) b

abbrev pub numbers_after : List ℕ → ℕ → List ℕ → List ℕ → List ℕ
numbers_after s t b ns = numbers_by (run_of s t b ns) ns

abbrev pub told : Worked → ℕ × ℕ
told w = (w.worked, w.left)
