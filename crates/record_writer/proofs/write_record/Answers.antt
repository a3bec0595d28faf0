-- `record_writer::write_record` meets its contract: the room, the checks, then the disk and the points behind it.
use mathlib.Core.Path.{sym, ap, ◌∙◌}
use mathlib.Core.List.{List, ◌++◌}
use Prim.Native.Nat.{ℕ}
use borrow.Author.Tests.{le-ltb}
use lib.ListN.{length}
use lib.Seq.{sets}
use Rattle.validity.proofs.ValidLaws.{members_counted}
use Rattle.geometry.specs.Plane.{members, numbers}
use Rattle.record_writer.specs.Layout.{record_length, first_at, s_width}
use Rattle.record_writer.specs.Bytes.{points_bytes, made_three, count_bytes}
use Rattle.record_writer.proofs.ByteLaws.{record_stored}
use Rattle.record_writer.proofs.write_record.Goals as goal

pub returns-clause-buf_after : goal.returns-clause-buf_after
returns-clause-buf_after c =
    let l = c.args.buf.now in
    let t = c.args.f.support in
    let long = le-ltb (length l) record_length c.if-buf-lt-RECORD_LENGTH.false in
    rw (long, sym c.in_ok-check.ensures)
    (c.put_points.ensures
    ∙ ap (λ (m : List ℕ). sets m (first_at s_width) (points_bytes (made_three (members t)) ++ count_bytes (members t))) c.put_disk.ensures
    ∙ record_stored l (numbers c.args.f.disk) (members t) (members_counted t) c.if-buf-lt-RECORD_LENGTH.false)
