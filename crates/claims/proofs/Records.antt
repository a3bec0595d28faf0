-- Records: what the writer gives and leaves.
--
--   written, in_front, filled : a disk and points that pass the checks, in a buffer that is long enough: the writer is done, and the record stands in front
--   written_checked    : what the writer does not refuse passes the checks, and the buffer is long enough
use mathlib.Core.Path.{◌≡◌, ap, ◌∙◌}
use mathlib.Core.List.{List, ◌++◌}
use Prim.Native.Nat.{ℕ, ◌≤◌}
use borrow.Author.Tests.{le-ltb, ltb-false}
use lib.ListN.{length, take, drop}
use lib.Seq.{take_at}
use Rattle.answers.specs.Outcome.{Outcome, given}
use Rattle.answers.proofs.OutcomeLaws.{not_refused}
use Rattle.geometry.specs.declared.Point.{Point}
use Rattle.geometry.specs.Plane.{Disk}
use Rattle.disk_checks.specs.Checks.{check_of}
use Rattle.disk_checks.proofs.CheckLaws.{passed}
use Rattle.record_writer.specs.Layout.{record_length}
use Rattle.record_writer.specs.Bytes.{record_bytes}
use Rattle.record_writer.specs.Writing.{write_of, left_by, buffer_after}
use Rattle.record_writer.proofs.ByteLaws.{record_long}

module _ (d : Disk) (ps : List Point) (buf : List ℕ) where
  pub written : check_of d ps ≡ given tt → record_length ≤ length buf → write_of d ps buf ≡ given tt
  written c h = rw (le-ltb (length buf) record_length h) c

  pub written_checked : write_of d ps buf ≡ given tt → (record_length ≤ length buf) × (check_of d ps ≡ given tt)
  written_checked e = let eight = not_refused _ 8 e in (ltb-false (length buf) record_length eight.0, eight.1)

  pub in_front : check_of d ps ≡ given tt → take record_length (record_bytes d ps ++ drop record_length buf) ≡ record_bytes d ps
  in_front c = take_at (record_bytes d ps) (drop record_length buf) record_length (record_long d ps (passed d ps c).0)

  pub filled : write_of d ps buf ≡ given tt → take record_length (buffer_after d ps buf) ≡ record_bytes d ps
  filled e = ap (λ (o : Outcome (Unit {0})). take record_length (left_by o d ps buf)) e ∙ in_front (written_checked e).1
