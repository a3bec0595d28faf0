-- Document 02, item 14: how true the preview is.
--
--   near           : a fraction no larger than a coordinate, rounded: its bits are read as a number near it
--   equal          : the bits of a float that stands for a whole number are read as that number
--   true_preview   : all that item 14 says
use mathlib.Core.Path.{◌≡◌, refl, sym, ap, ◌∙◌, subst}
use mathlib.Core.Logic.{inl, inr}
use mathlib.Core.Bool.{Bool, false, true≢false}
use mathlib.Core.Option.{Option, some}
use mathlib.Core.List.{List}
use Prim.Native.Nat.{ℕ, ◌*◌, ◌^◌, ◌≤◌, ◌<◌}
use native.Mathlib.Nat.{mul_assoc, mul_right_comm, eq_of_mul-eq-mul_right}
use lib.IntN.{ℤ, pos, negsuc, nat_abs, ◌-ℤ◌, ◌*ℤ◌}
use lib.Pow.{pow_pos}
use lib.Ieee.{Float, nan, inf, fin, binary64, up, down, round, to_bits, of_bits}
use lib.Ieee.Bits.{is_true}
use lib.Ieee.Exact.{HasValue}
use lib.Ieee.Fits.{down_pos}
use lib.Ieee.Scale.{finite}
use Rattle.answers.specs.Outcome.{given}
use Rattle.integers.specs.Order.{signed}
use Rattle.integers.proofs.Laws.{sub_self}
use Rattle.integers.proofs.Signs.{signed-*}
use Rattle.geometry.specs.declared.Point.{Point}
use Rattle.geometry.specs.EmBox.{em, largest}
use Rattle.geometry.specs.Plane.{Disk}
use Rattle.preview.specs.declared.Preview.{Preview}
use Rattle.preview.specs.Preview.{negative, preview_of}
use Rattle.preview.proofs.Finite.{has-finite}
use Rattle.claims.proofs.Values.{x_size, y_size, all_values}
use Rattle.preview_claims.specs.Reading.{Dyadic, read_bits}
use Rattle.preview_claims.specs.TruePreview.{Near, Equal, PreviewIsTrue, TruePreview}
use Rattle.preview_claims.proofs.Apart.{carried, distance_most}
use Rattle.preview_claims.proofs.Rounding.{round_close}
use Rattle.preview_claims.proofs.NearlyMet.{nearly_met}
use Rattle.preview_claims.proofs.Reading.{Read, read_bits_lem, across, reading}

-- ---- what a float is read as

-- a float stands for one number
same_value : (v : Float) (s t : Bool) (a c g l : ℕ) → HasValue v s a c → HasValue v t g l → (s ≡ t) × (a * l ≡ g * c)
same_value nan s t a c g l p q = absurd p
same_value (inf u) s t a c g l p q = absurd p
same_value (fin u m e) s t a c g l p q = (
  sym p.0 ∙ q.0,
  eq_of_mul-eq-mul_right (down e) (down_pos e) (a * l) (g * c)
      (mul_right_comm a l (down e)
      ∙ ap (λ (z : ℕ). z * l) (sym p.1)
      ∙ mul_right_comm (m * up e) c l
      ∙ ap (λ (z : ℕ). z * c) q.1
      ∙ mul_right_comm g (down e) c),
)

-- the bits of a float that stands for g/l, with the sign s
record ReadAs (b : ℕ) (s : Bool) (g l : ℕ) : Type 0 where
  size : ℕ
  power : ℤ
  read : read_bits b ≡ some (record { whole = signed s size; power = power })
  same : size * up power * l ≡ g * down power

read_as : (v : Float) (b : ℕ) (s : Bool) (g l : ℕ) → of_bits binary64 b ≡ v → HasValue v s g l → ReadAs b s g l
read_as v b s g l e h = elim (read_bits_lem b) [ inl r ↦ is_read r | inr n ↦ absurd (not_read n.not_finite) ]
  where
    value : HasValue (of_bits binary64 b) s g l
    value = subst (λ (w : Float). HasValue w s g l) (sym e) h

    is_read : Read (of_bits binary64 b) (read_bits b) → ReadAs b s g l
    is_read r =
        let k = same_value (of_bits binary64 b) r.sign s r.units (2 ^ 1074) g l r.in_units value in
        record {
          size = r.size;
          power = r.power;
          read = r.is ∙ ap (λ (t : Bool). some (record { whole = signed t r.size; power = r.power })) k.0;
          same = across (r.size * up r.power) (down r.power) r.units (2 ^ 1074) g l (pow_pos 1074) r.scaled k.1;
        }

    not_read : finite (of_bits binary64 b) ≡ false → ⊥
    not_read n = true≢false (sym (is_true (finite (of_bits binary64 b)) (has-finite (of_bits binary64 b) s g l value)) ∙ n)

signed_size : (z : ℤ) → signed (negative z) (nat_abs z) ≡ z
signed_size (pos n) = refl
signed_size (negsuc n) = refl

-- the sign of z before both
signs_out : (z : ℤ) (m U D e : ℕ)
    → signed (negative z) (m * U * e) -ℤ signed (negative z) (nat_abs z * D) ≡ signed (negative z) m *ℤ pos (U * e) -ℤ z *ℤ pos D
signs_out z m U D e =
    let s = negative z in
    ap (λ (y : ℕ). signed s y -ℤ signed s (nat_abs z * D)) (mul_assoc m U e)
    ∙ ap (λ (y : ℤ). y -ℤ signed s (nat_abs z * D)) (signed-* s m (U * e))
    ∙ ap (λ (y : ℤ). signed s m *ℤ pos (U * e) -ℤ y) (signed-* s (nat_abs z) D ∙ ap (λ (y : ℤ). y *ℤ pos D) (signed_size z))

-- ---- the values of a preview

near : (v : Float) (b : ℕ) (z : ℤ) (e : ℕ) → 0 < e → nat_abs z ≤ largest em * e → v ≡ round binary64 (negative z) (nat_abs z) e
    → of_bits binary64 b ≡ v → Near (read_bits b) z e
near v b z e e_some most once back =
    let s = negative z in
    let a = nat_abs z in
    let c = round_close s a e e_some most in
    let r = read_as (round binary64 s a e) b s c.over c.under (back ∙ once) c.value in
    let U = up r.power in
    let D = down r.power in
    subst (λ (n : Option Dyadic). Near n z e) (sym r.read)
    (subst (λ (n : ℤ). nat_abs n * 2 ^ 43 ≤ e * D) (signs_out z r.size U D e)
    (distance_most s (carried (2 ^ 43) (r.size * U) D c.over c.under a e c.some r.same c.near)))

equal : (v : Float) (b r : ℕ) → HasValue v false r 1 → of_bits binary64 b ≡ v → Equal (read_bits b) r
equal v b r h back =
    let k = read_as v b false r 1 back h in
    let U = up k.power in
    let D = down k.power in
    let same : k.size * (U * 1) ≡ r * D = sym (mul_assoc k.size U 1) ∙ k.same in
    subst (λ (n : Option Dyadic). Equal n r) (sym k.read) (ap nat_abs (sub_self (pos (k.size * (U * 1))) (pos (r * D)) (ap pos same)))

accepted : (d : Disk) (ps : List Point) (p : Preview) → preview_of d ps ≡ given p → PreviewIsTrue d ps p
accepted d ps p e =
    let k = (all_values.preview d ps p).0 e in
    let right = k.2 in
    let back = all_values.preview_bits d ps p e in
    let x : of_bits binary64 (to_bits binary64 p.x) ≡ p.x = cc in
    let y : of_bits binary64 (to_bits binary64 p.y) ≡ p.y = cc in
    let r : of_bits binary64 (to_bits binary64 p.radius) ≡ p.radius = cc in
    record {
      scale = k.0.e_some;
      x_near = near p.x (to_bits binary64 p.x) d.x d.e k.0.e_some (x_size d ps k.0) right.x_rounded.once x;
      y_near = near p.y (to_bits binary64 p.y) d.y d.e k.0.e_some (y_size d ps k.0) right.y_rounded.once y;
      whole = right.whole;
      whole_given = (all_values.radius d ps right.whole).1 (k.0, k.1, right.is_least);
      radius_exact = equal p.radius (to_bits binary64 p.radius) right.whole right.radius_exact r;
    }

pub true_preview : TruePreview
true_preview = record { accepted = accepted; reading = reading; nearly_met = nearly_met }
