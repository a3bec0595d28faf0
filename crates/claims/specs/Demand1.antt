-- Demand 1 of document 00, over the definitions that the contracts of the public calls cite: "If a description, sheet, glyph number, corner list,
-- disk, record or buffer breaks a rule of document 01, the call gives the refusal number due first and changes nothing it was lent; if none is broken,
-- it is not refused." It is shown in proofs/Demand1.antt. That every call comes to an end is part of what it is to be proved.
--
--   Demand1   == each call goes by its row of rules, and a refused call leaves what it was lent as it was
--
-- `GoesBy row o`: o is refused with n exactly where n is due first by the row, and a value is given exactly where every rule is kept (rules/specs/Row.antt).
-- The rows, with the papers' numbers in their order: rules/specs/Rules.antt. The loader is lent a list, the engine its point list, the writer a
-- buffer, the call of document 02, item 2 a list that it puts a point into, that of item 8 the list that it reduces, that of item 12 a buffer and a list,
-- and that of item 13 two lists; descriptions, sheets, records and the lists of the calls of items 6, 7 and 11 are lent to be read alone.
use Rattle.std.specs.Prelude.{◌≡◌, List, ℕ, ℤ}
use Rattle.answers.specs.Outcome.{refused}
use Rattle.geometry.specs.declared.Point.{Point}
use Rattle.geometry.specs.Plane.{Disk}
use Rattle.description.specs.Description as description
use Rattle.description.specs.Description.{load_of}
use Rattle.drawn_points.specs.declared.DrawnPoint.{DrawnPoint}
use Rattle.drawn_points.specs.Appending as drawn
use Rattle.drawn_points.specs.Appending.{append_of}
use Rattle.sheet.specs.Sheet.{glyph_of}
use Rattle.sheet_run.specs.Running as running
use Rattle.sheet_run.specs.Running.{run_of}
use Rattle.sheet_estimate.specs.Estimating as estimating
use Rattle.sheet_estimate.specs.Estimating.{estimate_of}
use Rattle.engine.specs.Engine.{enclose_of, list_after}
use Rattle.chosen_points.specs.declared.Chosen.{Chosen}
use Rattle.chosen_points.specs.Chosen.{through_of}
use Rattle.traced_points.specs.Traced.{traced_of}
use Rattle.hull_points.specs.Reducing as reducing
use Rattle.hull_points.specs.Reducing.{reduce_of}
use Rattle.widest_stretch.specs.Stretching.{stretch_of}
use Rattle.preview.specs.Preview.{preview_of}
use Rattle.radius.specs.Radius.{radius_of}
use Rattle.record_writer.specs.Writing.{write_of, buffer_after}
use Rattle.record_reader.specs.Reading.{read_of}
use Rattle.rules.specs.Row.{GoesBy}
use Rattle.rules.specs.Rules.{Bytes, loader_row, sheet_row, run_row, estimate_row, engine_row, writer_row, reader_row, disk_row, append_row, through_row, traced_row}

pub record Demand1 : Type 0 where
  -- "the call gives the refusal number due first .. if none is broken, it is not refused"
  pub loader : (t : List ℕ) (l : List ℤ) → GoesBy (loader_row t l) (load_of t l)
  pub sheet : (s : List ℕ) (k : ℕ) → GoesBy (sheet_row s k) (glyph_of s k)
  pub engine : (l : List ℤ) → GoesBy (engine_row l) (enclose_of l)
  pub radius : (d : Disk) (ps : List Point) → GoesBy (disk_row d ps) (radius_of d ps)
  pub preview : (d : Disk) (ps : List Point) → GoesBy (disk_row d ps) (preview_of d ps)
  pub writer : (d : Disk) (ps : List Point) (b : List ℕ) → GoesBy (writer_row d ps b) (write_of d ps b)
  pub reader : (bs : List ℕ) → Bytes bs → GoesBy (reader_row bs) (read_of bs)
  pub append : (p : DrawnPoint) (l : List ℤ) (n : ℕ) → GoesBy (append_row p l n) (append_of p l n)
  pub through : (l : List ℤ) (c : Chosen) → GoesBy (through_row l c) (through_of l c)
  pub traced : (l : List ℤ) → GoesBy (traced_row l) (traced_of l)
  pub hull : (l : List ℤ) → GoesBy (engine_row l) (reduce_of l)
  pub stretch : (l : List ℤ) → GoesBy (engine_row l) (stretch_of l)
  pub run : (s : List ℕ) (t : ℕ) (b ns : List ℕ) → GoesBy (run_row s t b ns) (run_of s t b ns)
  pub estimate : (s ps rs : List ℕ) → GoesBy (estimate_row s ps rs) (estimate_of s ps rs)
  -- "and changes nothing it was lent"
  pub loader_keeps : (t : List ℕ) (l : List ℤ) (n : ℕ) → load_of t l ≡ refused n → description.list_after t l ≡ l
  pub engine_keeps : (l : List ℤ) (n : ℕ) → enclose_of l ≡ refused n → list_after l ≡ l
  pub writer_keeps : (d : Disk) (ps : List Point) (b : List ℕ) (n : ℕ) → write_of d ps b ≡ refused n → buffer_after d ps b ≡ b
  pub append_keeps : (p : DrawnPoint) (l : List ℤ) (n k : ℕ) → append_of p l n ≡ refused k → drawn.list_after p l n ≡ l
  pub hull_keeps : (l : List ℤ) (n : ℕ) → reduce_of l ≡ refused n → reducing.list_after l ≡ l
  pub run_keeps :
      (s : List ℕ) (t : ℕ) (b ns : List ℕ) (n : ℕ) → run_of s t b ns ≡ refused n
      → (running.buffer_after s t b ns ≡ b) × (running.numbers_after s t b ns ≡ ns)
  pub estimate_keeps :
      (s ps rs : List ℕ) (n : ℕ) → estimate_of s ps rs ≡ refused n
      → (estimating.points_after s ps rs ≡ ps) × (estimating.refusals_after s ps rs ≡ rs)
