-- A sheet run under several allowances (02, item 12). Shown in proofs/SheetRuns.antt.
--
--   sheet             == six glyphs: A, a fault, C, no bytes, F and A again, which take 1, 3, 7 and 1 tests
--   broken            == the same with the last part one byte longer than the sheet
--   buffer n, list n  == n bytes, and n places, of a value that no run writes
--   Running           == what is lent to a run, and what it answers
--   runs              == allowances at which a glyph more is worked, and one below; the checks, each by one too few or one too many
--   AllRun rs         == each run answers so
--   Left              == what the run with 10 tests leaves in the list and in the buffer
use Rattle.std.specs.Prelude.{◌≡◌, List, [], ◌∷◌, ◌++◌, ℕ, ◌^◌, replicate}
use Rattle.answers.specs.Outcome.{Outcome, given, refused}
use Rattle.sheet_run.specs.Running.{run_of, answer_of, buffer_after, numbers_after}
use Rattle.letters_to_try.specs.Descriptions.{bytes}
use Rattle.letters_to_try.specs.Records.{eight, high, centre, one, a, c}

-- the pairs of the first five glyphs
abbrev pub five : List ℕ
five = 0 ∷ 6 ∷ 0 ∷ 26 ∷ 0 ∷ 3 ∷ 0 ∷ 29 ∷ 0 ∷ 1 ∷ 0 ∷ 30 ∷ 0 ∷ 7 ∷ 0 ∷ 37 ∷ 0 ∷ 0 ∷ 0 ∷ 37 ∷ 0 ∷ 11 ∷ []

abbrev pub sheet : List ℕ
sheet = five ++ (0 ∷ 48 ∷ 0 ∷ 3 ∷ []) ++ bytes "0 0x0 0\n4 00 0\n4 0\n2 30 0"

abbrev pub broken : List ℕ
broken = five ++ (0 ∷ 48 ∷ 0 ∷ 4 ∷ []) ++ bytes "0 0x0 0\n4 00 0\n4 0\n2 30 0"

abbrev pub buffer : ℕ → List ℕ
buffer n = replicate n 238

abbrev pub list : ℕ → List ℕ
list n = replicate n 99

pub record Running : Type 0 where
  pub of : List ℕ
  pub allowance : ℕ
  pub room : ℕ
  pub places : ℕ
  pub answer : Outcome (ℕ × ℕ)

abbrev pub runs : List Running
runs =
    -- "A glyph is worked if its count is no more than what is left, which then falls by it."
    record { of = sheet; allowance = 12; room = 318; places = 6; answer = given (4, 0) }
    ∷ record { of = sheet; allowance = 13; room = 400; places = 9; answer = given (4, 1) }
    -- "From the first glyph that needs more, every glyph with an acceptable description gets 16, even a cheap one.": with 10 tests F needs 7 of 6
    ∷ record { of = sheet; allowance = 11; room = 318; places = 6; answer = given (3, 0) }
    ∷ record { of = sheet; allowance = 10; room = 318; places = 6; answer = given (2, 6) }
    ∷ record { of = sheet; allowance = 3; room = 318; places = 6; answer = given (1, 2) }
    ∷ record { of = sheet; allowance = 0; room = 318; places = 6; answer = given (0, 0) }
    -- "8 if the buffer lacks 53 bytes for each glyph or the list a place, then 17 for T of 2⁶⁰ or more"; before them 6
    ∷ record { of = sheet; allowance = 2 ^ 60; room = 317; places = 6; answer = refused 8 }
    ∷ record { of = sheet; allowance = 2 ^ 60; room = 318; places = 5; answer = refused 8 }
    ∷ record { of = sheet; allowance = 2 ^ 60; room = 318; places = 6; answer = refused 17 }
    ∷ record { of = broken; allowance = 2 ^ 60; room = 0; places = 0; answer = refused 6 }
    -- no glyph
    ∷ record { of = 0 ∷ 0 ∷ []; allowance = 5; room = 0; places = 0; answer = given (0, 5) }
    ∷ []

abbrev pub AllRun : List Running → Type 0
AllRun [] = Unit {0}
AllRun (r ∷ rs) = (answer_of (run_of r.of r.allowance (buffer r.room) (list r.places)) ≡ r.answer) × AllRun rs

-- the records of A and C, one behind the other; "Bytes and places behind the last written stay"; "A faulty description keeps its own refusal anywhere"
pub record Left : Type 0 where
  pub numbers : numbers_after sheet 10 (buffer 318) (list 8) ≡ 0 ∷ 2 ∷ 0 ∷ 5 ∷ 16 ∷ 16 ∷ 99 ∷ 99 ∷ []
  pub records :
      buffer_after sheet 10 (buffer 318) (list 8)
      ≡ one high ++ a ++ a ++ a ++ (1 ∷ []) ++ centre 2 0 1 ++ high ++ eight 4 ++ a ++ c ++ c ++ (2 ∷ []) ++ buffer 212
