-- Whole numbers up to 2^53 are floats without loss, so a quotient is the fraction itself, rounded once.
--
--   in_float_lem            : the cast to a float is taken
--   exact               : the float that it gives stands for the number
--   quotient_rounds     : the quotient of two such floats is the fraction of the two numbers, rounded once
--   preview_exact       : for a valid disk: each number that the preview converts is small enough for these
use mathlib.Core.Path.{◌≡◌, refl, sym, ap, ◌∙◌, subst}
use mathlib.Core.Bool.{Bool, true, false, cond}
use Prim.Native.Nat.{ℕ, suc, ◌*◌, ◌^◌, ◌≤◌, ◌<◌}
use native.Mathlib.Nat.{mul-one, mul_assoc, mul_comm, mul_left_comm, mul-pos, zero-mul, lt_irrefl}
use native.Mathlib.Omega.{arith}
use borrow.Author.Tests.{ne_eqb}
use lib.Dec.{T, eqb, le→leb}
use lib.IntN.{ℤ, pos, negsuc, nat_abs}
use lib.Ieee.{Float, nan, inf, fin, binary64, unlike, up, down, round, of_int, in_float, div}
use lib.Ieee.Back.{round_whole}
use lib.Ieee.Exact.{HasValue}
use lib.Ieee.Fits.{down_pos}
use lib.Ieee.Scale.{round_same}
use Rattle.geometry.specs.EmBox.{em}
use Rattle.geometry.specs.Plane.{Disk}
use Rattle.validity.specs.Valid.{valid_disk}
use Rattle.radius.specs.Radius.{whole_radius}
use Rattle.validity.proofs.ValidLaws.{limits}
use Rattle.radius.proofs.RadiusLaws.{radius_limit}
use Rattle.preview.specs.Preview.{negative, quotient}

-- ---- whole numbers

-- the cast is taken
pub in_float_lem : (z : ℤ) → nat_abs z ≤ 2 ^ 53 → T (in_float binary64 z)
unfolding in_float
in_float_lem (pos n) h = le→leb n (2 ^ 53) h
in_float_lem (negsuc n) h = le→leb (suc n) (2 ^ 53) h

-- and what it gives is the number, with its sign
pub exact : (z : ℤ) → nat_abs z ≤ 2 ^ 53 → HasValue (of_int binary64 z) (negative z) (nat_abs z) 1
unfolding of_int
exact (pos n) h = round_whole binary64 false n h
exact (negsuc n) h = round_whole binary64 true (suc n) h

-- ---- the quotient of two floats is the quotient of the numbers that they stand for, rounded once

like : (s : Bool) → unlike s false ≡ s
like true = refl
like false = refl

-- a float that stands for an e above 0 has digits
digits : (n ud dd e : ℕ) → 0 < e → 0 < dd → n * ud * 1 ≡ e * dd → 0 < n * ud
digits n ud dd e h k v = subst (λ (x : ℕ). 0 < x) (sym (sym (mul-one (n * ud)) ∙ v)) (mul-pos h k)

no_zero : (n ud : ℕ) → 0 < n * ud → n ≡ 0 → ⊥
no_zero n ud h z = lt_irrefl 0 (subst (λ (x : ℕ). 0 < x) (ap (λ (y : ℕ). y * ud) z ∙ zero-mul ud) h)

-- the fraction that `div` rounds is a / e
cross : (m n ue de ud dd a e : ℕ) → m * ue * 1 ≡ a * de → n * ud * 1 ≡ e * dd → m * ue * dd * e ≡ a * (n * ud * de)
cross m n ue de ud dd a e p q =
    let x : m * ue ≡ a * de = sym (mul-one (m * ue)) ∙ p in
    let y : n * ud ≡ e * dd = sym (mul-one (n * ud)) ∙ q in
    let mid : a * de * dd * e ≡ a * (e * dd * de) = simp (mul_assoc, mul_comm, mul_left_comm) in
    ap (λ (z : ℕ). z * dd * e) x ∙ mid ∙ sym (ap (λ (z : ℕ). a * (z * de)) y)

divided : (x y : Float) (s : Bool) (a e : ℕ) → HasValue x s a 1 → HasValue y false e 1 → 0 < e → div binary64 x y ≡ round binary64 s a e
unfolding div
divided nan y s a e p q h = absurd p
divided (inf t) y s a e p q h = absurd p
divided (fin t m k) nan s a e p q h = absurd q
divided (fin t m k) (inf u) s a e p q h = absurd q
divided (fin t m k) (fin u n d) s a e p q h =
    let above : 0 < n * up d = digits n (up d) (down d) e h (down_pos d) q.1 in
    let some : eqb n 0 ≡ false = ne_eqb n 0 (no_zero n (up d) above) in
    ap (λ (b : Bool). cond b (cond (eqb m 0) nan (inf (unlike t u))) (round binary64 (unlike t u) (m * up k * down d) (n * up d * down k))) some
    ∙ ap (λ (w : Bool). round binary64 w (m * up k * down d) (n * up d * down k)) (ap (unlike t) q.0 ∙ like t ∙ p.0)
    ∙ round_same binary64 s (m * up k * down d) (n * up d * down k) a e (mul-pos above (down_pos k)) h
    (cross m n (up k) (down k) (up d) (down d) a e p.1 q.1)

pub quotient_rounds : (z : ℤ) (e : ℕ) → nat_abs z ≤ 2 ^ 53 → 0 < e → e ≤ 2 ^ 53 → quotient z e ≡ round binary64 (negative z) (nat_abs z) e
quotient_rounds z e h p k = divided (of_int binary64 z) (of_int binary64 (pos e)) (negative z) (nat_abs z) e (exact z h) (exact (pos e) k) p

-- ---- a preview's numbers

pub record Exact (d : Disk) : Type 0 where
  pub x_exact : HasValue (of_int binary64 d.x) (negative d.x) (nat_abs d.x) 1
  pub y_exact : HasValue (of_int binary64 d.y) (negative d.y) (nat_abs d.y) 1
  pub e_exact : HasValue (of_int binary64 (pos d.e)) false d.e 1
  pub r_exact : HasValue (of_int binary64 (pos (whole_radius d))) false (whole_radius d) 1
  pub x_once : quotient d.x d.e ≡ round binary64 (negative d.x) (nat_abs d.x) d.e
  pub y_once : quotient d.y d.e ≡ round binary64 (negative d.y) (nat_abs d.y) d.e

pub preview_exact : (d : Disk) → valid_disk d ≡ true → Exact d
preview_exact d h =
    let k = limits em d h in
    let x : nat_abs d.x ≤ 2 ^ 53 = omega (arith, k.x_small) in
    let y : nat_abs d.y ≤ 2 ^ 53 = omega (arith, k.y_small) in
    let e : d.e ≤ 2 ^ 53 = omega (arith, k.e_small) in
    let r : whole_radius d ≤ 2 ^ 53 = omega (arith, radius_limit d k) in
    record {
      x_exact = exact d.x x;
      y_exact = exact d.y y;
      e_exact = exact (pos d.e) e;
      r_exact = exact (pos (whole_radius d)) r;
      x_once = quotient_rounds d.x d.e x k.e_some e;
      y_once = quotient_rounds d.y d.e y k.e_some e;
    }
