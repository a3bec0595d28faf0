-- Document 02, item 13: what a sheet will take, over the definitions that the contracts of `estimate_sheet` and `run_sheet` cite. Which refusal is due,
-- in which order, and that a refused estimate leaves both lists as they were, is claimed with the other calls' (claims/specs/Demand1.antt, by
-- `estimate_row`). Shown in proofs/SheetEstimate.antt.
--
--   total f k         == the sum of f over the glyphs before glyph k
--   acceptable rs f k == f of glyph k where it is acceptable, its number in the list rs being 0; else 0
--   EstimateIsTrue    == what holds of one estimate, of the lists that it leaves
--   RunKeepsTo        == what holds of a run of the sheet with the estimate's sum as its allowance, or more
--   SheetEstimate     == all that item 13 says
--
-- `glyph_bytes s k`: the calls `glyph` and `part`, one after the other (claims/specs/Values.antt). `most_tests n`: (n³ + 5n) / 6
-- (sheet_estimate/specs/Estimating.antt). `number_at ns k`: the number of glyph k in a list (run_claims/specs/SheetRun.antt). "No disk is worked out":
-- `estimate_of` asks the loader alone, and its crate lists none that works disks out (crates.txt).
use Rattle.std.specs.Prelude.{◌≡◌, ◌↔◌, List, ℕ, zero, suc, ◌+◌, ◌*◌, ◌^◌, ◌≤◌, ◌<◌, eqb, ℤ, length, drop}
use Rattle.answers.specs.Outcome.{given, refused}
use Rattle.description.specs.Description.{load_of, named}
use Rattle.directory.specs.Directory.{count}
use Rattle.sheet.specs.Sheet.{part_at}
use Rattle.record_writer.specs.Layout.{record_length}
use Rattle.run_steps.specs.Steps.{State}
use Rattle.sheet_run.specs.Running.{run_of, buffer_after, numbers_after}
use Rattle.sheet_estimate.specs.Estimating.{most_tests, estimate_of, answer_of, points_after, refusals_after}
use Rattle.claims.specs.Values.{glyph_bytes}
use Rattle.run_claims.specs.SheetRun.{number_at, when}

unfoldable pub total : (ℕ → ℕ) → ℕ → ℕ
total f zero = 0
total f (suc k) = total f k + f k

abbrev pub acceptable : List ℕ → (ℕ → ℕ) → ℕ → ℕ
acceptable rs f k = when (eqb (number_at rs k) 0) (f k)

-- of an estimate for the sheet s, lent the lists ps and rs, that answers b bytes and t tests, and leaves the lists `points` and `refusals`
pub record EstimateIsTrue (s ps rs : List ℕ) (b t : ℕ) (points refusals : List ℕ) : Type 0 where
  -- each glyph of the directory has a description, its part of the sheet, and the sheet opener gives it
  pub described : (k : ℕ) (d : List ℕ) → (glyph_bytes s k ≡ given d) ↔ ((k < count s) × (d ≡ part_at s k))
  -- "Two lent lists get, for each glyph, its corners (0 if faulty) and the loader's refusal or 0": "how many corners each description has"
  pub loaded :
      (k n : ℕ) (d : List ℕ) (list : List ℤ) → glyph_bytes s k ≡ given d → 8192 ≤ length list → load_of d list ≡ given n
      → (number_at points k ≡ n) × (n ≡ length (named d)) × (number_at refusals k ≡ 0)
  pub faulty :
      (k n : ℕ) (d : List ℕ) (list : List ℤ) → glyph_bytes s k ≡ given d → 8192 ≤ length list → load_of d list ≡ refused n
      → (number_at points k ≡ 0) × (number_at refusals k ≡ n) × (2 ≤ n) × (n ≤ 5)
  -- "how many record bytes all of them make"
  pub bytes_are : b ≡ total (acceptable refusals (λ k. record_length)) (count s)
  -- "the sum of (n³ + 5n) / 6 over the acceptable ones"
  pub tests_are : t ≡ total (acceptable refusals (λ k. most_tests (number_at points k))) (count s)
  -- so the sum is an allowance that a run takes
  pub small : t < 2 ^ 60
  -- "places behind stay"
  pub points_stay : drop (count s) points ≡ drop (count s) ps
  pub refusals_stay : drop (count s) refusals ≡ drop (count s) rs

-- of a run of the sheet s with u tests allowed, lent the buffer c and the list ns, that comes to q; b and `refusals` are the estimate's
pub record RunKeepsTo (s : List ℕ) (b u : ℕ) (refusals c ns : List ℕ) (q : State) : Type 0 where
  -- "refuses no glyph as 16"
  pub none_stopped : (k : ℕ) → k < count s → number_at (numbers_after s u c ns) k ≡ 16 → ⊥
  -- each glyph has the number that was foretold
  pub foretold : (k : ℕ) → k < count s → number_at (numbers_after s u c ns) k ≡ number_at refusals k
  -- "writes exactly that many bytes": the records, of as many glyphs as are worked, and nothing behind them
  pub written : length q.records ≡ b
  pub records_are : b ≡ record_length * q.worked
  pub bytes_stay : drop b (buffer_after s u c ns) ≡ drop b c

pub record SheetEstimate : Type 0 where
  pub true_estimate :
      (s ps rs : List ℕ) (b t : ℕ) → answer_of (estimate_of s ps rs) ≡ given (b, t)
      → EstimateIsTrue s ps rs b t (points_after s ps rs) (refusals_after s ps rs)
  -- "A run of the sheet with that sum as T, if not itself refused, ..": with that sum, or more
  pub run_keeps :
      (s ps rs : List ℕ) (b t : ℕ) → answer_of (estimate_of s ps rs) ≡ given (b, t)
      → (u : ℕ) → t ≤ u → (c ns : List ℕ) (q : State) → run_of s u c ns ≡ given q → RunKeepsTo s b u (refusals_after s ps rs) c ns q
  -- and with that sum it is refused for want of room alone
  pub only_room :
      (s ps rs : List ℕ) (b t : ℕ) → answer_of (estimate_of s ps rs) ≡ given (b, t)
      → (c ns : List ℕ) (n : ℕ) → run_of s t c ns ≡ refused n → n ≡ 8
  -- (n³ + 5n) / 6 leaves nothing over
  pub no_rest : (n : ℕ) → 6 * most_tests n ≡ n * n * n + 5 * n
