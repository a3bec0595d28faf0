-- `record_writer::put_wide` meets its contract: a field of 16 bytes is two of 8.
use mathlib.Core.Path.{sym, ap, ◌∙◌}
use mathlib.Core.List.{List}
use Prim.Native.Nat.{ℕ, ◌+◌, ◌^◌, ◌<◌}
use native.Mathlib.Omega.{arith}
use lib.Seq.{sets}
use Rattle.big_endian.specs.Fields.{bytes_of, put}
use Rattle.big_endian.proofs.ByteLists.{bytes_of-length}
use Rattle.big_endian.proofs.Stores.{put_first, put_next}
use Rattle.big_endian.proofs.Parts.{bytes_of-parts}
use Rattle.wide_numbers.specs.Value.{value}
use Rattle.record_writer.specs.Layout.{number_width, s_width}
use Rattle.record_writer.proofs.put_wide.Goals as goal

pub returns : goal.returns
returns c =
    let w = c.args.w in
    let at = c.args.at in
    let l = c.args.buf.now in
    let high = bytes_of number_width w.hi in
    let word : w.lo < 2 ^ 64 = omega arith in
    c.put_at-2.ensures
    ∙ ap (put number_width w.lo (at + number_width)) (c.put_at.ensures ∙ put_first number_width w.hi l at)
    ∙ put_next number_width w.lo l at high number_width (bytes_of-length number_width w.hi)
    ∙ ap (λ (bs : List ℕ). sets l at bs) (sym (bytes_of-parts number_width number_width w.hi w.lo word))
    ∙ sym (put_first s_width (value w) l at)
