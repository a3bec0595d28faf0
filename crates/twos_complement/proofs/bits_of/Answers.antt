-- `twos_complement::bits_of` meets its contract. With h half the numbers of n bytes, a z below 0 has the bits h + h - 1 - (-1 - z).
use mathlib.Core.Path.{◌≡◌, refl, ap, ap₂, ◌∙◌}
use mathlib.Core.Bool.{true, false}
use Prim.Native.Nat.{ℕ, suc, ◌+◌, ◌-◌, ◌*◌, ◌<◌}
use native.Mathlib.Omega.{arith}
use lib.Pow.{pow_pos}
use lib.IntN.{ℤ, negsuc, ◌-ℤ◌, nat_abs}
use mir.Syntax.{w64}
use mir.Val.{SFits, to_z, of_z}
use mir.Facts.{to_z-of_z}
use Rattle.twos_complement.specs.Twos.{half, twos}
use Rattle.integers.proofs.Complement.{complement, minus_back, Side, under, from, sided}
use Rattle.twos_complement.proofs.bits_of.Goals as goal

-- ---- of a z below 0
complement_bits : (n : ℕ) (z : ℤ) → Side z true → half n - 1 + half n - nat_abs (complement z) ≡ twos n z
unfolding twos
complement_bits n _ (under m) = turned (half n) m (pow_pos (8 * n - 1))
  where
    turned : (h m : ℕ) → 0 < h → h - 1 + h - m ≡ h + h - suc m
    turned h m p = omega arith

-- ---- of a z from 0 on
bits : (n : ℕ) (z : ℤ) → Side z false → nat_abs z ≡ twos n z
unfolding twos
bits n _ (from m) = refl

-- -1 - z, as the machine has it
complemented : (z : ℤ) → SFits w64 z → to_z w64 (of_z w64 (negsuc 0 -ℤ to_z w64 (of_z w64 z))) ≡ complement z
complemented z f = minus_back _ z (to_z-of_z f) f

pub returns-then-z-lt0 : goal.returns-then-z-lt0
returns-then-z-lt0 c =
    let z = c.args.z in
    let f = c.ranges.z in
    ap₂ (λ (h : ℕ) (y : ℤ). h - 1 + h - nat_abs y) c.half_of-h.ensures (complemented z f)
    ∙ complement_bits c.args.n z (sided f c.if-z-lt0.true)

pub returns-else-z-lt0 : goal.returns-else-z-lt0
returns-else-z-lt0 c =
    let z = c.args.z in
    let f = c.ranges.z in
    ap nat_abs (to_z-of_z f) ∙ bits c.args.n z (sided f c.if-z-lt0.false)
