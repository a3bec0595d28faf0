-- The record writer (01: writer, refusals 8, 7; 02, item 9: then 15).
--
--   write_of d ps buf       == what the call answers: the refusal due first, or that it is done
--   buffer_after d ps buf   == the buffer afterwards: the record and the rest as it was, or, refused, all as it was
use Rattle.std.specs.Prelude.{List, ◌++◌, ℕ, ltb, length, drop}
use Rattle.answers.specs.Outcome.{Outcome, given, refused, refuse_if}
use Rattle.geometry.specs.declared.Point.{Point}
use Rattle.geometry.specs.Plane.{Disk}
use Rattle.disk_checks.specs.Checks.{check_of}
use Rattle.record_writer.specs.Layout.{record_length}
use Rattle.record_writer.specs.Bytes.{record_bytes}

abbrev pub write_of : Disk → List Point → List ℕ → Outcome (Unit {0})
write_of d ps buf = refuse_if (ltb (length buf) record_length) 8 (check_of d ps)

-- what a call with this answer leaves in the buffer
abbrev pub left_by : Outcome (Unit {0}) → Disk → List Point → List ℕ → List ℕ
left_by (given done) d ps buf = record_bytes d ps ++ drop record_length buf
left_by (refused n) d ps buf = buf

abbrev pub buffer_after : Disk → List Point → List ℕ → List ℕ
buffer_after d ps buf = left_by (write_of d ps buf) d ps buf
