-- `twos_complement::of_bits` meets its contract. With h half the numbers of n bytes, bits u from h on are those of -1 - (h + h - 1 - u).
use mathlib.Core.Path.{◌≡◌, sym, ap, ◌∙◌, subst}
use Prim.Native.Nat.{ℕ, suc, ◌+◌, ◌-◌, ◌^◌, ◌≤◌, ◌<◌}
use native.Mathlib.Omega.{arith}
use lib.IntN.{pos, negsuc}
use mir.Syntax.{w64}
use mir.ValLaws.{to_z_pos}
use Rattle.twos_complement.specs.Twos.{half}
use Rattle.twos_complement.proofs.TwosLaws.{half_le, half_pos, back_low, back-high}
use Rattle.integers.proofs.Complement.{minus_back}
use Rattle.twos_complement.proofs.of_bits.Goals as goal

-- the machine's form of the complement
turned : (h u : ℕ) → 0 < h → h - 1 + h - u ≡ h + h - suc u
turned h u p = omega arith

pub returns-then-u-h : goal.returns-then-u-h
returns-then-u-h c =
    let u = c.args.u in
    let n = c.args.n in
    let l : u < half n = subst (λ (h : ℕ). u < h) c.half_of-h.ensures c.if-u-h.true in
    let s : u < 2 ^ 63 = omega (arith, half_le c.requires.width) in
    to_z_pos w64 u s ∙ sym (back_low n u l)

pub returns-else-u-h : goal.returns-else-u-h
returns-else-u-h c =
    let u = c.args.u in
    let n = c.args.n in
    let h = c.half_of-h.result in
    let rest = h - 1 + h - u in
    let l : half n ≤ u = subst (λ (h : ℕ). h ≤ u) c.half_of-h.ensures c.if-u-h.false in
    let small : rest < 2 ^ 63 = omega (arith, half_le c.requires.width, half_pos c.requires.width) in
    minus_back _ (pos rest) (to_z_pos w64 rest small) (record { sfits = small })
    ∙ ap (λ (h : ℕ). negsuc (h - 1 + h - u)) c.half_of-h.ensures
    ∙ ap negsuc (turned (half n) u (half_pos c.requires.width))
    ∙ sym (back-high n u l)
