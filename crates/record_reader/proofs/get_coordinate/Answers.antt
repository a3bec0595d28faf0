-- `record_reader::get_coordinate` meets its contract: two bytes hold no more than an i16 does.
use mathlib.Core.Path.{◌≡◌, sym, ap, ◌∙◌, subst}
use Prim.Native.Nat.{ℕ, ◌^◌, ◌<◌}
use lib.IntN.{ℤ}
use mir.Facts.{to_z-of_z}
use mir.Syntax.{w16, w64}
use mir.Val.{SFits, to_z, of_z}
use Rattle.twos_complement.specs.Twos.{back}
use Rattle.twos_complement.proofs.TwosLaws.{back_mag}
use Rattle.record_reader.proofs.get_coordinate.Goals as goal

-- the number of two bytes fits an i16
narrow : {u : ℕ} → u < 2 ^ 16 → SFits w16 (back 2 u)
narrow {u} h = record { sfits = back_mag 2 u h }

number : {z : ℤ} (u : ℕ) → SFits w64 z → z ≡ back 2 u → to_z w64 (of_z w64 z) ≡ back 2 u
number u f e = to_z-of_z f ∙ e

pub overflow_cast-result : goal.overflow_cast-result
overflow_cast-result c =
    subst (SFits w16) (sym (number c.get_at-u.result (record { sfits = c.of_bits.type_inv }) c.of_bits.ensures)) (narrow c.get_at-u.ensures.1)

pub returns : goal.returns
returns c =
    ap (λ (z : ℤ). to_z w16 (of_z w16 z)) (number c.get_at-u.result (record { sfits = c.of_bits.type_inv }) c.of_bits.ensures)
    ∙ to_z-of_z (narrow c.get_at-u.ensures.1)
    ∙ ap (back 2) c.get_at-u.ensures.0
