-- Demand 2 of document 00, over the definitions that the contracts of `engine::smallest_disk`, `record_writer::write_record` and
-- `record_reader::read_record` cite. It is shown in proofs/Demand2.antt.
--
--   EngineIsRight    == "The round given is the smallest enclosing disk of Welzl's paper: it holds every corner, no disk with a fractional
--                       centre and fractional squared radius that holds them all has a smaller squared radius, and only the same disk has
--                       an equal one. Its rim corners are the first set that fixes it, by document 01."
--   RecordsGoRound   == "A record read back yields the disk and rim corners written, and a record accepted by the reader, written again,
--                       yields its own bytes." So it is with records of 53 bytes; what one of 45 gives is said in wider_em/specs/WiderEm.antt.
--   Demand2          == both
use Rattle.std.specs.Prelude.{◌≡◌, List, ℕ, ◌≤◌, ℤ, length, take}
use Rattle.answers.specs.Outcome.{given}
use Rattle.geometry.specs.declared.Point.{Point}
use Rattle.geometry.specs.Plane.{Disk}
use Rattle.geometry.specs.Points.{points}
use Rattle.disks.specs.Smallest.{Smallest}
use Rattle.disks.specs.FirstSupport.{IsFirstSupport}
use Rattle.geometry.specs.EmBox.{em, WithinLimits}
use Rattle.engine.specs.Engine.{Enclosure, enclose_of}
use Rattle.record_writer.specs.Layout.{record_length}
use Rattle.record_writer.specs.Writing.{write_of, buffer_after}
use Rattle.record_reader.specs.Reading.{read_of}
use Rattle.rules.specs.Rules.{Bytes}

-- of the answer e for the points P
pub record EngineIsRight (P : List Point) (e : Enclosure) : Type 0 where
  pub smallest : Smallest P e.disk
  pub no_other_disk : (d : Disk) → Smallest P d → d ≡ e.disk
  pub limits : WithinLimits em e.disk
  pub first_support_is : IsFirstSupport P e.support
  pub no_other_support : (S : List Point) → IsFirstSupport P S → S ≡ e.support

pub record RecordsGoRound : Type 0 where
  -- what is written, in any buffer that is not refused, is read back
  pub read_back :
      (d : Disk) (ps : List Point) (buf : List ℕ) → write_of d ps buf ≡ given tt
      → read_of (take record_length (buffer_after d ps buf)) ≡ given (d, ps)
  -- what is read of 53 bytes, written again, in any buffer that is long enough, is not refused and gives its own bytes
  pub write_back :
      (bs : List ℕ) → Bytes bs → length bs ≡ record_length → (d : Disk) (ps : List Point) → read_of bs ≡ given (d, ps)
      → (buf : List ℕ) → record_length ≤ length buf
      → (write_of d ps buf ≡ given tt) × (take record_length (buffer_after d ps buf) ≡ bs)

pub record Demand2 : Type 0 where
  pub engine : (l : List ℤ) (e : Enclosure) → enclose_of l ≡ given e → EngineIsRight (points l) e
  pub records : RecordsGoRound
