-- Document 02, item 12: a sheet run under one allowance of tests, over the definition that the contract of `run_sheet` cites. Which refusal is due, in
-- which order, and that a refused run leaves buffer and list as they were, is claimed with the other calls' (claims/specs/Demand1.antt, by `run_row`).
-- Shown in proofs/SheetRun.antt.
--
--   tests_of d         == the procedure's count of tests for the points that the description d names
--   number_at ns k     == the number of glyph k in the list ns
--   when b n          == n where the test b holds, else 0
--   worked_to ns k     == how many of the glyphs before glyph k were worked: those with the number 0
--   spent_to s ns k    == the tests of these
--   record_in b ns k   == the record of glyph k in the buffer b: behind those of the glyphs that were worked before it
--   RunIsFair         == what holds of one run, of the buffer and the list that it leaves
--   LargerKeeps       == what holds of two runs of a sheet, the second with the larger allowance
--   SheetRun          == all that item 12 says
--
-- `glyph_bytes s k`: the calls `glyph` and `part`, one after the other (claims/specs/Values.antt). An accepted description and what it is `worked` to:
-- claims/specs/Demand3.antt.
use Rattle.std.specs.Prelude.{◌≡◌, ◌↔◌, Bool, true, false, List, [], ℕ, zero, suc, ◌+◌, ◌*◌, ◌≤◌, ◌<◌, eqb, ℤ, length, take, drop, get_or}
use Rattle.answers.specs.Outcome.{given, refused}
use Rattle.disks.specs.Procedure.{mtf}
use Rattle.description.specs.Description.{load_of, named}
use Rattle.directory.specs.Directory.{count}
use Rattle.sheet.specs.Sheet.{part_at}
use Rattle.record_writer.specs.Layout.{record_length}
use Rattle.sheet_run.specs.Running.{run_of, answer_of, buffer_after, numbers_after}
use Rattle.claims.specs.Values.{glyph_bytes}
use Rattle.claims.specs.Demand3.{AcceptedDescription, Answers, worked}

abbrev pub tests_of : List ℕ → ℕ
tests_of d = (mtf [] (named d)).tests

abbrev pub number_at : List ℕ → ℕ → ℕ
number_at ns k = get_or ns k 0

abbrev pub when : Bool → ℕ → ℕ
when true n = n
when false n = 0

unfoldable pub worked_to : List ℕ → ℕ → ℕ
worked_to ns zero = 0
worked_to ns (suc k) = worked_to ns k + when (eqb (number_at ns k) 0) 1

unfoldable pub spent_to : List ℕ → List ℕ → ℕ → ℕ
spent_to s ns zero = 0
spent_to s ns (suc k) = spent_to s ns k + when (eqb (number_at ns k) 0) (tests_of (part_at s k))

abbrev pub record_in : List ℕ → List ℕ → ℕ → List ℕ
record_in b ns k = take record_length (drop (record_length * worked_to ns k) b)

-- of a run of the sheet s with the allowance t, lent the buffer b and the list ns, that answers w worked and l left, and leaves the buffer `after` and the
-- list `numbers`
pub record RunIsFair (s : List ℕ) (t : ℕ) (b ns : List ℕ) (w l : ℕ) (after numbers : List ℕ) : Type 0 where
  -- each glyph of the directory has a description, its part of the sheet, and the sheet opener gives it
  pub described : (k : ℕ) (d : List ℕ) → (glyph_bytes s k ≡ given d) ↔ ((k < count s) × (d ≡ part_at s k))
  -- "A faulty description keeps its own refusal anywhere": 2 to 5
  pub faulty :
      (k n : ℕ) (d : List ℕ) (list : List ℤ) → glyph_bytes s k ≡ given d → 8192 ≤ length list → load_of d list ≡ refused n
      → (number_at numbers k ≡ n) × (2 ≤ n) × (n ≤ 5)
  -- "A glyph is worked if its count is no more than what is left, which then falls by it": where none before it needed more, exactly then
  pub worked_if :
      (k : ℕ) (d : List ℕ) → glyph_bytes s k ≡ given d → AcceptedDescription d
      → (number_at numbers k ≡ 0) ↔ (((i : ℕ) → i < k → number_at numbers i ≡ 16 → ⊥) × (spent_to s numbers k + tests_of d ≤ t))
  -- "From the first glyph that needs more, every glyph with an acceptable description gets 16, even a cheap one"
  pub needs_more :
      (k : ℕ) (d : List ℕ) → glyph_bytes s k ≡ given d → AcceptedDescription d → t < spent_to s numbers k + tests_of d → number_at numbers k ≡ 16
  pub from_first :
      (i k : ℕ) (d : List ℕ) → i ≤ k → glyph_bytes s k ≡ given d → AcceptedDescription d → number_at numbers i ≡ 16 → number_at numbers k ≡ 16
  -- "The worked glyphs' records go one behind another into a buffer": each is the record of demand 3, worked out for that description
  pub recorded :
      (k : ℕ) (d : List ℕ) → glyph_bytes s k ≡ given d → number_at numbers k ≡ 0
      → (list : List ℤ) → 8192 ≤ length list → (buffer : List ℕ) → record_length ≤ length buffer
      → (a : Answers) × ((worked d list buffer ≡ given a) × (record_in after numbers k ≡ a.bytes))
  -- "the call returns how many were worked"
  pub many : w ≡ worked_to numbers (count s)
  -- "The counts of the worked glyphs and what is left make T": so a faulty description "costs nothing"
  pub make_all : spent_to s numbers (count s) + l ≡ t
  -- "Bytes and places behind the last written stay"
  pub bytes_stay : drop (record_length * w) after ≡ drop (record_length * w) b
  pub places_stay : drop (count s) numbers ≡ drop (count s) ns

-- "A larger T never changes a glyph that had its record": its number and those before it, the record's place, and the record
pub record LargerKeeps (s after numbers larger more : List ℕ) : Type 0 where
  pub same_numbers : (k : ℕ) → k < count s → number_at numbers k ≡ 0 → (i : ℕ) → i ≤ k → number_at more i ≡ number_at numbers i
  pub same_place : (k : ℕ) → k < count s → number_at numbers k ≡ 0 → worked_to more k ≡ worked_to numbers k
  pub same_record : (k : ℕ) → k < count s → number_at numbers k ≡ 0 → record_in larger more k ≡ record_in after numbers k

pub record SheetRun : Type 0 where
  pub fair :
      (s : List ℕ) (t : ℕ) (b ns : List ℕ) (w l : ℕ) → answer_of (run_of s t b ns) ≡ given (w, l)
      → RunIsFair s t b ns w l (buffer_after s t b ns) (numbers_after s t b ns)
  pub larger :
      (s : List ℕ) (t u : ℕ) → t ≤ u → (b ns c ms : List ℕ) (w l x m : ℕ)
      → answer_of (run_of s t b ns) ≡ given (w, l) → answer_of (run_of s u c ms) ≡ given (x, m)
      → LargerKeeps s (buffer_after s t b ns) (numbers_after s t b ns) (buffer_after s u c ms) (numbers_after s u c ms)
