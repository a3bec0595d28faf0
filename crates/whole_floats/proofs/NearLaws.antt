-- What the reader of a float answers.
--
--   near-whole, near-broken, near-far : the answer for a finite float, by its size and by whether it has a fraction
--   near_not_finite                   : for a NaN or an infinity
--   within_i64, back_in_float         : between the edges the cast to an i64 is taken, and the cast back
--   back_same, back_other             : and the answer, by whether the cast back gives the float
--   near-beyond, answer-beyond        : beyond them
--   near-between                      : no range within 2^53 tells z from near z
use Rattle.std.proofs.Common.{◌≡◌, ℕ, ◌+◌, ◌*◌, ◌/◌, ◌%◌, ◌^◌, ◌<◌, ◌≤◌, Bool, true, false, cond, T, ltb, ◌⊎◌, ℤ, pos, nat_abs, sym, refl, ap, ◌∙◌, subst, inl, inr, true≢false, le_refl, le_of_lt, le-div_iff_mul-le, arith, lt→ltb, ltb-false, le-ltb, lt-ltb, eqb-true}
use borrow.Author.Tests.{eqb-false}
use lib.Ieee.{Float, nan, inf, fin, binary64, up, down, lt, eq, le, fits, of_int, to_signed, in_float}
use lib.Ieee.Fits.{down_pos}
use Rattle.std.specs.Bool.{then_some}
use Rattle.std.specs.Float.{float_is_finite}
use Rattle.answers.specs.Outcome.{Outcome, given, refused, and_then}
use Rattle.integers.specs.Order.{signed, between}
use Rattle.integers.proofs.Signs.{abs_signed}
use Rattle.integers.proofs.Tests.{between_most}
use Rattle.whole_floats.specs.Whole.{whole_of}
use Rattle.whole_floats.specs.Near.{far, near, near_of, whole_or_11}
use Rattle.whole_floats.proofs.WholeLaws.{given_whole, given_broken}
use Rattle.whole_floats.proofs.Sizes.{edge, minus_edge, below-edge, beyond-edge, before-edge, far-whole, cut_lt, cut, castable, back_test}

abbrev passed : Outcome ℤ → Outcome ℤ
passed o = and_then o (λ z. given (near z))

near-signed : (s : Bool) (c : ℕ) → c < far → near (signed s c) ≡ signed s c
near-signed s c h = rw (abs_signed s c, lt-ltb c far h)

far-signed : (s : Bool) (c : ℕ) → far ≤ c → near (signed s c) ≡ pos far
far-signed s c h = rw (abs_signed s c, le-ltb c far h)

module _ (s : Bool) (m : ℕ) (e : ℤ) where
  near-whole : m * up e < far * down e → m * up e % down e ≡ 0 → near_of (fin s m e) ≡ given (signed s (m * up e / down e))
  near-whole h z = ap passed (given_whole s m e z) ∙ ap given (near-signed s (m * up e / down e) (cut_lt m e h))

  near-broken : (m * up e % down e ≡ 0 → ⊥) → near_of (fin s m e) ≡ refused 11
  near-broken h = ap passed (given_broken s m e h)

  near-far : T (fits binary64 (fin s m e)) → far * down e ≤ m * up e → near_of (fin s m e) ≡ given (pos far)
  near-far t h = ap passed (given_whole s m e (far-whole s m e t h)) ∙ ap given (far-signed s (m * up e / down e) large)
    where
      large : far ≤ m * up e / down e
      large = (le-div_iff_mul-le (down_pos e)).1 h

pub near_not_finite : (v : Float) → float_is_finite v ≡ false → near_of v ≡ refused 11
unfolding whole_of float_is_finite
near_not_finite nan h = refl
near_not_finite (inf s) h = refl
near_not_finite (fin s m e) h = absurd (true≢false h)

-- ---- a float between the edges, through the code's cast and test

not_infinite : (s : Bool) → lt (inf s) edge ≡ true → lt minus_edge (inf s) ≡ true → ⊥
unfolding lt
not_infinite true l h = true≢false (sym h)
not_infinite false l h = true≢false (sym l)

not_nan : lt nan edge ≡ true → ⊥
unfolding lt
not_nan l = true≢false (sym l)

-- the cast to an i64 is taken
pub within_i64 : (v : Float) → lt v edge ≡ true → lt minus_edge v ≡ true → T (le (fin true 1 (pos 63)) v) × T (lt v (fin false 1 (pos 63)))
unfolding lt le eq
within_i64 nan l h = absurd (not_nan l)
within_i64 (inf s) l h = absurd (not_infinite s l h)
within_i64 (fin false m e) l h =
    let small = below-edge m e false l h in
    let d = down_pos e in (
      rw (lt-ltb 0 (2 ^ 63 * down e + m * up e * 1) (omega arith)) tt,
      lt→ltb (m * up e * 1) (2 ^ 63 * down e) (omega arith),
    )
within_i64 (fin true m e) l h =
    let small = below-edge m e true l h in
    let d = down_pos e in (
      rw (lt-ltb (m * up e * 1) (2 ^ 63 * down e) (omega arith)) tt,
      lt→ltb 0 (m * up e * 1 + 2 ^ 63 * down e) (omega arith),
    )

-- so is the cast back
pub back_in_float : (v : Float) → lt v edge ≡ true → lt minus_edge v ≡ true → T (in_float binary64 (to_signed 63 v))
back_in_float nan l h = absurd (not_nan l)
back_in_float (inf s) l h = absurd (not_infinite s l h)
back_in_float (fin s m e) l h =
    let small = below-edge m e s l h in
    subst (λ (z : ℤ). T (in_float binary64 z)) (sym (cut s m e small)) (castable s (m * up e / down e) (le_of_lt (cut_lt m e small)))

pub back_same : (v : Float) → lt v edge ≡ true → lt minus_edge v ≡ true → eq (of_int binary64 (to_signed 63 v)) v ≡ true → given (to_signed 63 v) ≡ near_of v
back_same nan l h t = absurd (not_nan l)
back_same (inf s) l h t = absurd (not_infinite s l h)
back_same (fin s m e) l h t =
    let small = below-edge m e s l h in
    let none : m * up e % down e ≡ 0 = eqb-true (m * up e % down e) 0
    (sym (back_test s m e small) ∙ ap (λ (z : ℤ). eq (of_int binary64 z) (fin s m e)) (sym (cut s m e small)) ∙ t) in
    ap given (cut s m e small) ∙ sym (near-whole s m e small none)

pub back_other : (v : Float) → lt v edge ≡ true → lt minus_edge v ≡ true → eq (of_int binary64 (to_signed 63 v)) v ≡ false → refused 11 ≡ near_of v
back_other nan l h t = absurd (not_nan l)
back_other (inf s) l h t = absurd (not_infinite s l h)
back_other (fin s m e) l h t =
    let small = below-edge m e s l h in
    sym (near-broken s m e (eqb-false (m * up e % down e) 0
    (sym (back_test s m e small) ∙ ap (λ (z : ℤ). eq (of_int binary64 z) (fin s m e)) (sym (cut s m e small)) ∙ t)))

-- beyond them
pub near-beyond : (v : Float) → T (fits binary64 v) → float_is_finite v ≡ true → (lt v edge ≡ false) ⊎ (lt minus_edge v ≡ false) → given (pos far) ≡ near_of v
unfolding float_is_finite
near-beyond nan t f o = absurd (true≢false (sym f))
near-beyond (inf s) t f o = absurd (true≢false (sym f))
near-beyond (fin s m e) t f (inl p) = sym (near-far s m e t (beyond-edge m e s p))
near-beyond (fin s m e) t f (inr p) = sym (near-far s m e t (before-edge m e s p))

-- the code's answer there
pub answer-beyond : (v : Float) → T (fits binary64 v) → (b : Bool) → b ≡ float_is_finite v → (lt v edge ≡ false) ⊎ (lt minus_edge v ≡ false)
    → whole_or_11 (then_some b (pos far)) ≡ near_of v
answer-beyond v t true h o = near-beyond v t (sym h) o
answer-beyond v t false h o = sym (near_not_finite v (sym h))

-- ---- against a range

pub near-between : (lo z hi : ℤ) {B : ℕ} → nat_abs lo ≤ B → nat_abs hi ≤ B → B < far → between lo (near z) hi ≡ between lo z hi
near-between lo z hi {B} l h f = go (ltb (nat_abs z) far) refl
  where
    clash : {n : ℕ} → n ≤ B → far ≤ n → ⊥
    clash m k = omega arith

    outside : (w : ℤ) → far ≤ nat_abs w → (b : Bool) → between lo w hi ≡ b → b ≡ false
    outside w k false e = refl
    outside w k true e = absurd (clash (between_most lo w hi l h e) k)

    go : (b : Bool) → ltb (nat_abs z) far ≡ b → between lo (cond b z (pos far)) hi ≡ between lo z hi
    go true e = refl
    go false e = outside (pos far) (le_refl far) (between lo (pos far) hi) refl ∙ sym (outside z (ltb-false (nat_abs z) far e) (between lo z hi) refl)
