-- What a sheet will take, said before it is run (02, item 13). Of each description the loader alone is asked: no disk is in these definitions.
--
--   loads s n         == what the loader answers for each of the n glyphs of the sheet s
--   points_of o        == the points of a glyph for which it answers o; 0 where the description is faulty
--   refusal_of o       == its refusal, or 0
--   most_tests n       == (n³ + 5n) / 6: the tests for n points are never more (00, demand 3)
--   bytes_for o, tests_for o == the bytes of its record, and `most_tests` of its points; 0 where it is faulty
--   sum ns            == the sum of the numbers ns
--   Estimate          == for each glyph its points, and its refusal or 0; the bytes of the records of all acceptable ones, and their tests
--   estimate os       == the estimate for glyphs for which the loader answers os
--   estimated s n     == that for the n glyphs of the sheet s
--   estimate_of s ps rs == the estimate for the sheet s, lent the lists ps and rs, or the refusal due first: 1, 6, then 8 for a list that is too short
--   answer_of o        == the bytes and the tests
--   points_by o ps, refusals_by o rs == what an estimate that comes to o leaves in the lists; refused, what was there
--   points_after s ps rs, refusals_after s ps rs == the lists afterwards
--   told e             == the two numbers of the call's value e
use Rattle.std.specs.Prelude.{List, [], ◌∷◌, map, ℕ, ◌+◌, ◌*◌, ◌/◌, ltb, length}
use Rattle.answers.specs.Outcome.{Outcome, given, refused, refuse_if, and_then}
use Rattle.answers.specs.Lent.{front_put}
use Rattle.description.specs.Description.{load_of, room}
use Rattle.directory.specs.Directory.{count_of}
use Rattle.sheet.specs.Sheet.{parts}
use Rattle.record_writer.specs.Layout.{record_length}
use Rattle.sheet_estimate.specs.declared.Estimate.{Estimate as CallEstimate}

abbrev pub loads : List ℕ → ℕ → List (Outcome ℕ)
loads s n = map (λ (d : List ℕ). load_of d room) (parts s 0 n)

-- "for each glyph, its corners (0 if faulty) and the loader's refusal or 0"
abbrev pub points_of : Outcome ℕ → ℕ
points_of (given n) = n
points_of (refused k) = 0

abbrev pub refusal_of : Outcome ℕ → ℕ
refusal_of (given n) = 0
refusal_of (refused k) = k

-- "how many record bytes all of them make"
abbrev pub bytes_for : Outcome ℕ → ℕ
bytes_for (given n) = record_length
bytes_for (refused k) = 0

-- "(n³ + 5n) / 6 over the acceptable ones"
abbrev pub most_tests : ℕ → ℕ
most_tests n = (n * n * n + 5 * n) / 6

abbrev pub tests_for : Outcome ℕ → ℕ
tests_for (given n) = most_tests n
tests_for (refused k) = 0

unfoldable pub sum : List ℕ → ℕ
sum [] = 0
sum (n ∷ ns) = n + sum ns

pub record Estimate : Type 0 where
  pub points : List ℕ
  pub refusals : List ℕ
  pub bytes : ℕ
  pub tests : ℕ

abbrev pub estimate : List (Outcome ℕ) → Estimate
estimate os = record { points = map points_of os; refusals = map refusal_of os; bytes = sum (map bytes_for os); tests = sum (map tests_for os) }

abbrev pub estimated : List ℕ → ℕ → Estimate
estimated s n = estimate (loads s n)

-- "Refusals are 1, 6, then 8 for a list that is too short"
unfoldable pub estimate_of : List ℕ → List ℕ → List ℕ → Outcome Estimate
estimate_of s ps rs =
    and_then (count_of s) (λ n.
    refuse_if (ltb (length ps) n) 8
    (refuse_if (ltb (length rs) n) 8
    (given (estimated s n))))

abbrev pub answer_of : Outcome Estimate → Outcome (ℕ × ℕ)
answer_of o = and_then o (λ e. given (e.bytes, e.tests))

-- "places behind stay"
abbrev pub points_by : Outcome Estimate → List ℕ → List ℕ
points_by (given e) ps = front_put e.points ps
points_by (refused n) ps = ps

abbrev pub refusals_by : Outcome Estimate → List ℕ → List ℕ
refusals_by (given e) rs = front_put e.refusals rs
refusals_by (refused n) rs = rs

abbrev pub points_after : List ℕ → List ℕ → List ℕ → List ℕ
points_after s ps rs = points_by (estimate_of s ps rs) ps

abbrev pub refusals_after : List ℕ → List ℕ → List ℕ → List ℕ
refusals_after s ps rs = refusals_by (estimate_of s ps rs) rs

abbrev pub told : CallEstimate → ℕ × ℕ
told e = (e.bytes, e.tests)
