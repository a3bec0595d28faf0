-- `record_reader::Record::s` meets its contract: a field of n bytes is one of n − 8 and, behind it, one of 8.
use mathlib.Core.Path.{◌≡◌, sym, ap, ap₂, ◌∙◌}
use Prim.Native.Nat.{ℕ, ◌+◌, ◌-◌, ◌*◌, ◌^◌}
use native.Mathlib.Omega.{arith}
use Rattle.big_endian.specs.Fields.{get}
use Rattle.big_endian.proofs.Parts.{get-parts}
use Rattle.record_writer.specs.Layout.{number_width, s_at}
use Rattle.record_reader.proofs.Record.s.Goals as goal

pub returns : goal.returns
returns c =
    let n = c.args.self.now.s_width in
    let xs = c.args.self.now.bytes.now in
    let whole : n - number_width + number_width ≡ n = omega (arith, c.args.self.now.width.from_eight) in
    ap₂ (λ (h l : ℕ). h * 2 ^ 64 + l) c.get_at-hi.ensures.0 c.get_at-lo.ensures.0
    ∙ sym (get-parts (n - number_width) number_width s_at xs)
    ∙ ap (λ (k : ℕ). get k 0 s_at xs) whole
