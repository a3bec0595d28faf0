-- What a sheet will take (02, item 13), for the sheet of specs/SheetRuns.antt. Shown in proofs/SheetEstimates.antt.
--
--   Taking            == what is lent to an estimate, and what it answers
--   estimates         == lists with just a place for each glyph and longer ones; the checks, each by one too few
--   AllTake ts        == each estimate answers so
--   LeftBehind        == what the estimate leaves in the two lists
use Rattle.std.specs.Prelude.{◌≡◌, List, [], ◌∷◌, ℕ}
use Rattle.answers.specs.Outcome.{Outcome, given, refused}
use Rattle.sheet_estimate.specs.Estimating.{estimate_of, answer_of, points_after, refusals_after}
use Rattle.letters_to_try.specs.SheetRuns.{sheet, broken, list}

pub record Taking : Type 0 where
  pub of : List ℕ
  pub points : ℕ
  pub refusals : ℕ
  pub answer : Outcome (ℕ × ℕ)

abbrev pub estimates : List Taking
estimates =
    -- 53 bytes for each of A, C, F and A again, which have 1, 2, 3 and 1 points: 1 + 3 + 7 + 1 tests, with which a run works them all
    record { of = sheet; points = 6; refusals = 6; answer = given (212, 12) }
    ∷ record { of = sheet; points = 9; refusals = 7; answer = given (212, 12) }
    -- "1, 6, then 8 for a list that is too short"
    ∷ record { of = sheet; points = 5; refusals = 6; answer = refused 8 }
    ∷ record { of = sheet; points = 6; refusals = 5; answer = refused 8 }
    ∷ record { of = broken; points = 0; refusals = 0; answer = refused 6 }
    -- no glyph
    ∷ record { of = 0 ∷ 0 ∷ []; points = 0; refusals = 0; answer = given (0, 0) }
    ∷ []

abbrev pub AllTake : List Taking → Type 0
AllTake [] = Unit {0}
AllTake (t ∷ ts) = (answer_of (estimate_of t.of (list t.points) (list t.refusals)) ≡ t.answer) × AllTake ts

-- "its corners (0 if faulty) and the loader's refusal or 0; places behind stay"
pub record LeftBehind : Type 0 where
  pub points : points_after sheet (list 8) (list 7) ≡ 1 ∷ 0 ∷ 2 ∷ 0 ∷ 3 ∷ 1 ∷ 99 ∷ 99 ∷ []
  pub refusals : refusals_after sheet (list 8) (list 7) ≡ 0 ∷ 2 ∷ 0 ∷ 5 ∷ 0 ∷ 0 ∷ 99 ∷ []
