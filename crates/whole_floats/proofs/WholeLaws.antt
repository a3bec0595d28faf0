-- The whole number that a float stands for.
--
--   given_whole, given_broken    : `whole_of` of a finite float, by whether there is a remainder
--   whole_stands, stands_whole   : `whole_of v` gives z exactly where v stands for z
--   whole-or-broken              : and is 11 otherwise
use Rattle.std.proofs.Common.{◌≡◌, ℕ, ◌*◌, ◌/◌, ◌%◌, Bool, true, false, not, eqb, ◌⊎◌, ℤ, pos, ◌*ℤ◌, nat_abs, sym, refl, ap, ◌∙◌, inl, inr, mul-div_cancel, eq-eqb, ne_eqb, eqb-true}
use native.Mathlib.Nat.{mul-mod_left, div-mul_cancel, dvd_of_mod-eq-zero}
use borrow.Author.Tests.{not-false}
use lib.IntN.{*ℤ_comm}
use lib.Ieee.{Float, nan, inf, fin, up, down}
use lib.Ieee.Fits.{down_pos}
use Rattle.answers.specs.Outcome.{given, refused, refuse_if}
use Rattle.answers.proofs.OutcomeLaws.{not_given, not_refused, given_same}
use Rattle.integers.specs.Order.{signed}
use Rattle.integers.proofs.Abs.{abs_*}
use Rattle.integers.proofs.Signs.{abs_signed, signed-*, not_zero}
use Rattle.integers.proofs.Order.{≡_cancel}
use Rattle.whole_floats.specs.Whole.{StandsFor, whole_of}

-- ---- with and without a remainder

module _ (s : Bool) (m : ℕ) (e : ℤ) where
  pub given_whole : m * up e % down e ≡ 0 → whole_of (fin s m e) ≡ given (signed s (m * up e / down e))
  unfolding whole_of
  given_whole h = rw (eq-eqb (m * up e % down e) 0 h)

  pub given_broken : (m * up e % down e ≡ 0 → ⊥) → whole_of (fin s m e) ≡ refused 11
  unfolding whole_of
  given_broken h = rw (ne_eqb (m * up e % down e) 0 h)

-- ---- by the float's value

pub whole_stands : (v : Float) (z : ℤ) → whole_of v ≡ given z → StandsFor v z
unfolding whole_of
whole_stands nan z h = not_given h
whole_stands (inf s) z h = not_given h
whole_stands (fin s m e) z h =
    let M = m * up e in
    let D = down e in
    let test = not_refused (not (eqb (M % D) 0)) 11 h in
    let none : M % D ≡ 0 = eqb-true (M % D) 0 (not-false (eqb (M % D) 0) test.0) in
    ap (signed s) (sym (div-mul_cancel D (dvd_of_mod-eq-zero D none))) ∙ signed-* s (M / D) D ∙ ap (λ (x : ℤ). x *ℤ pos D) (given_same test.1)

pub stands_whole : (v : Float) (z : ℤ) → StandsFor v z → whole_of v ≡ given z
stands_whole nan z h = absurd h
stands_whole (inf s) z h = absurd h
stands_whole (fin s m e) z h =
    let M = m * up e in
    let D = down e in
    let size : M ≡ nat_abs z * D = sym (abs_signed s M) ∙ ap nat_abs h ∙ abs_* z (pos D) in
    let none : M % D ≡ 0 = ap (λ (x : ℕ). x % D) size ∙ mul-mod_left (nat_abs z) D in
    let cut : M / D ≡ nat_abs z = ap (λ (x : ℕ). x / D) size ∙ mul-div_cancel (nat_abs z) (down_pos e) in
    let scaled : signed s (nat_abs z) *ℤ pos D ≡ z *ℤ pos D = sym (signed-* s (nat_abs z) D) ∙ ap (signed s) (sym size) ∙ h in
    given_whole s m e none
    ∙ ap (λ (n : ℕ). given (signed s n)) cut
    ∙ ap given (≡_cancel (not_zero D (down_pos e)) (*ℤ_comm (pos D) (signed s (nat_abs z)) ∙ scaled ∙ *ℤ_comm z (pos D)))

pub whole-or-broken : (v : Float) → ((z : ℤ) × (whole_of v ≡ given z)) ⊎ (whole_of v ≡ refused 11)
unfolding whole_of
whole-or-broken nan = inr refl
whole-or-broken (inf s) = inr refl
whole-or-broken (fin s m e) = go (eqb (m * up e % down e) 0)
  where
    go : (b : Bool) → ((z : ℤ) × (refuse_if (not b) 11 (given (signed s (m * up e / down e))) ≡ given z))
        ⊎ (refuse_if (not b) 11 (given (signed s (m * up e / down e))) ≡ refused 11)
    go true = inl (signed s (m * up e / down e), refl)
    go false = inr refl
