use mathlib.Core.Path.{◌≡◌, sym, ap, ap₂, ◌∙◌, subst}
use Prim.Native.Nat.{ℕ, ◌+◌, ◌-◌, ◌*◌, ◌^◌, ◌≤◌, ◌<◌}
use native.Mathlib.Nat.{lt_of_lt_of_le}
use native.Mathlib.Omega.{arith}
use lib.Arith.{digits_lt}
use lib.ListN.{length, get_or, drop, length-drop}
use lib.Pow.{pow-add, pow_mono}
use lib.Seq.{get_or-take, get_or-drop}
use Rattle.std.proofs.Common.{length-take-le}
use Rattle.big_endian.specs.Fields.{get}
use Rattle.big_endian.proofs.FieldLaws.{get_none, get-one}
use Rattle.big_endian.proofs.get_at.Goals as goal
use Rattle.big_endian.proofs.get_at.Goals.{In-loop-b, After-from}

-- one byte more, 8 digits more
more : (i sum b : ℕ) → sum < 2 ^ (8 * i) → b < 256 → sum * 256 + b < 2 ^ (8 * (i + 1))
more i sum b s h =
    let e : 8 * (i + 1) ≡ 8 * i + 8 = omega arith in
    subst (λ (k : ℕ). sum * 256 + b < 2 ^ k) (sym e) (subst (λ (k : ℕ). sum * 256 + b < k) (sym (pow-add 2 (8 * i) 8)) (digits_lt s h))

in_word : (i x : ℕ) → i ≤ 8 → x < 2 ^ (8 * i) → x < 2 ^ 64
in_word i x l h = let e : 8 * i ≤ 64 = omega arith in lt_of_lt_of_le h (pow_mono e)

-- the field has n bytes, so the index is below n
within : (c : In-loop-b) → c.loop-b.b-index < c.args.n
within c =
    let at = c.args.at in
    let n = c.args.n in
    let buf = c.args.buf.now in
    let room : at + n - at ≤ length (drop at buf) = omega (arith, length-drop at buf, c.requires.1) in
    omega (arith, c.loop-b-test.true, length-take-le (at + n - at) (drop at buf) room)

-- the byte that was read
byte : (c : After-from) → c.from.result ≡ get_or c.args.buf.now (c.args.at + c.loop-b.b-index) 0
byte c =
    let at = c.args.at in
    let buf = c.args.buf.now in
    let i = c.loop-b.b-index in
    let below = within (goal.at.overflow_add-sum c).In-loop-b in
    c.from.ensures ∙ get_or-take (at + c.args.n - at) (drop at buf) i 0 (omega (arith, below)) ∙ get_or-drop at buf i 0

small : (c : After-from) → c.from.result < 256
small c = subst (λ (b : ℕ). b < 256) (sym (byte c)) (c.type_inv.buf (c.args.at + c.loop-b.b-index)).fits

next : (c : After-from) → c.loop-b.sum * 256 + c.from.result < 2 ^ (8 * (c.loop-b.b-index + 1))
next c = more c.loop-b.b-index c.loop-b.sum c.from.result c.loop-b.invariant.1 (small c)

pub overflow_mul-sum : goal.overflow_mul-sum
overflow_mul-sum c =
    let i = c.loop-b.b-index in
    let sum = c.loop-b.sum in
    let h : sum * 256 + 0 < 2 ^ 64 =
    in_word (i + 1) (sum * 256 + 0) (omega (arith, within c, c.requires.0)) (more i sum 0 c.loop-b.invariant.1 (omega arith)) in
    record { fits = omega arith }

pub overflow_add-sum : goal.overflow_add-sum
overflow_add-sum c =
    let below = within (goal.at.overflow_add-sum c).In-loop-b in
    record { fits = in_word (c.loop-b.b-index + 1) (c.loop-b.sum * 256 + c.from.result) (omega (arith, below, c.requires.0)) (next c) }

pub loop-b-preserved : goal.loop-b-preserved
loop-b-preserved c =
    let buf = c.args.buf.now in
    let at = c.args.at in
    let n = c.args.n in
    let i = c.loop-b.b-index in
    let sum = c.loop-b.sum in
    let below = within (goal.at.loop-b-preserved c).In-loop-b in
    let left : n - (i + 1) ≡ n - i - 1 = omega arith in
    let behind : at + (i + 1) ≡ at + i + 1 = omega arith in (
      omega (arith, below),
      next c,
      ap₂ (λ (k m : ℕ). get k (sum * 256 + c.from.result) m buf) left behind
          ∙ ap (λ (b : ℕ). get (n - i - 1) (sum * 256 + b) (at + i + 1) buf) (byte c)
          ∙ get-one (n - i) sum (at + i) buf (omega (arith, below))
          ∙ c.loop-b.invariant.2,
    )

pub returns : goal.returns
returns c =
    let buf = c.args.buf.now in
    let at = c.args.at in
    let n = c.args.n in
    let i = c.loop-b.b-index in
    let sum = c.loop-b.sum in
    let room : at + n - at ≤ length (drop at buf) = omega (arith, length-drop at buf, c.requires.1) in
    let all : i ≡ n = omega (arith, c.loop-b-test.false, c.loop-b.invariant.0, length-take-le (at + n - at) (drop at buf) room) in
    let none : n - i ≡ 0 = omega arith in (
      sym (get_none sum (at + i) buf) ∙ ap (λ (k : ℕ). get k sum (at + i) buf) (sym none) ∙ c.loop-b.invariant.2,
      subst (λ (k : ℕ). sum < 2 ^ (8 * k)) all c.loop-b.invariant.1,
    )
