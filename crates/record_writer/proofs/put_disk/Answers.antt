-- `record_writer::put_disk` meets its contract: each field is stored behind the ones before it.
use mathlib.Core.Path.{◌≡◌, ap, ap₂, ◌∙◌}
use mathlib.Core.List.{List, ◌++◌}
use Prim.Native.Nat.{ℕ}
use borrow.Author.Rules.{rules}
use lib.ListN.{length-append}
use lib.IntN.{ℤ}
use lib.Seq.{sets}
use mir.Syntax.{w64}
use mir.Val.{to_z, of_z}
use Rattle.record_writer.specs.Layout.{number_width, s_width, x_at, y_at, e_at, s_at}
use Rattle.big_endian.proofs.ByteLists.{bytes_of-length}
use Rattle.big_endian.proofs.Stores.{put_first, put_next}
use Rattle.big_endian.specs.Fields.{bytes_of, put}
use Rattle.twos_complement.specs.Twos.{twos}
use Rattle.geometry.specs.Plane.{numbers}
use Rattle.record_writer.proofs.put_disk.Goals as goal

pub returns : goal.returns
returns c =
    let d = numbers c.args.d in
    let l = c.args.buf.now in
    let x = twos number_width d.x in
    let y = twos number_width d.y in
    let e = d.e in
    let x_back : to_z w64 (of_z w64 d.x) ≡ d.x = search rules in
    let y_back : to_z w64 (of_z w64 d.y) ≡ d.y = search rules in
    let x-stored : c.put_signed_at.new.buf ≡ sets l x_at (bytes_of number_width x) =
    c.put_signed_at.ensures ∙ ap (λ (z : ℤ). put number_width (twos number_width z) x_at l) x_back ∙ put_first number_width x l x_at in
    let y-stored : c.put_signed_at-2.new.buf ≡ sets l x_at (bytes_of number_width x ++ bytes_of number_width y) =
    c.put_signed_at-2.ensures
    ∙ ap₂ (λ (z : ℤ) (m : List ℕ). put number_width (twos number_width z) y_at m) y_back x-stored
    ∙ put_next number_width y l x_at (bytes_of number_width x) number_width (bytes_of-length number_width x) in
    let e-stored : c.put_at.new.buf ≡ sets l x_at (bytes_of number_width x ++ bytes_of number_width y ++ bytes_of number_width e) =
    c.put_at.ensures
    ∙ ap (put number_width e e_at) y-stored
    ∙ put_next number_width e l x_at (bytes_of number_width x ++ bytes_of number_width y) e_at (simp (length-append, bytes_of-length)) in
    c.put_wide.ensures
    ∙ ap (put s_width d.s s_at) e-stored
    ∙ put_next s_width d.s l x_at (bytes_of number_width x ++ bytes_of number_width y ++ bytes_of number_width e) s_at (simp (length-append, bytes_of-length))
