-- `big_endian::put_at` meets its contract: the last n of the 8 bytes of v are those of its field.
use mathlib.Core.Path.{◌≡◌, sym, ap, ap₂, ◌∙◌}
use mathlib.Core.List.{◌++◌, append_assoc}
use Prim.Native.Nat.{◌+◌, ◌-◌}
use native.Mathlib.Omega.{arith}
use borrow.Rule.Slice.PartMut.{put_mid}
use lib.ListN.{take, drop}
use lib.Seq.{drop-drop, take_all}
use Rattle.big_endian.specs.Fields.{bytes_of}
use Rattle.big_endian.proofs.ByteLists.{bytes_of-length, to_be, drop_bytes, put_splits}
use Rattle.big_endian.proofs.put_at.Goals as goal

pub returns : goal.returns
returns c =
    let buf = c.args.buf.now in
    let at = c.args.at in
    let n = c.args.n in
    let v = c.args.v in
    let size : at + n - at ≡ n = omega arith in
    let all : 8 ≡ (8 - n) + n = omega (arith, c.requires.0) in
    let field : c.copy_from_slice.new.self ≡ bytes_of n v =
    c.copy_from_slice.ensures.after
    ∙ ap (λ l. take (8 - (8 - n)) (drop (8 - n) l)) (c.to_be_bytes.ensures ∙ to_be v ∙ ap (λ k. bytes_of k v) all)
    ∙ ap (take (8 - (8 - n))) (drop_bytes (8 - n) n v)
    ∙ take_all (8 - (8 - n)) (bytes_of n v) (omega (arith, bytes_of-length n v)) in
    ap₂ (λ k y. put_mid at k buf y) size field
    ∙ ap (λ r. take at buf ++ (bytes_of n v ++ r)) (drop-drop n at buf)
    ∙ sym (append_assoc (take at buf) (bytes_of n v) (drop (at + n) buf))
    ∙ sym (put_splits n v at buf c.requires.1)
