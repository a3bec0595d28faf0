-- A float's size against 2^53, and its whole part as a float.
--
--   edge, minus_edge         == 2^53 and −2^53
--   below-edge               : a float between the edges is smaller than 2^53 in size
--   beyond-edge, before-edge : a finite float that is not is of that size or more
--   far-whole                : and has no fraction then
--   cut_lt, cut              : the whole part of a float between the edges
--   castable                 : such a whole part is a float without loss
--   back_test                : and equals the float it was cut from exactly where nothing was cut off
use Rattle.std.proofs.Common.{◌≡◌, ℕ, zero, suc, ◌+◌, ◌-◌, ◌*◌, ◌/◌, ◌%◌, ◌^◌, ◌<◌, ◌≤◌, min, Bool, true, false, ◌&&◌, ◌||◌, T, eqb, ltb, leb, ℤ, pos, negsuc, sym, refl, ap, ◌∙◌, le_of_lt, div-lt_iff_lt-mul, div-add-mod', zero-mul, mul-one, mul_right_comm, arith, lit≤, le→leb, ltb→lt, pow_pos, ltb-false, ltb-true, eq-eqb, ne_eqb, eqb-true}
use mathlib.Core.Bool.{beq}
use native.Mathlib.Nat.{mod-one, eq_of_mul-eq-mul_right}
use borrow.Author.Tests.{eqb-false}
use lib.Ieee.{Float, nan, inf, fin, binary64, up, down, lt, eq, fits, of_int, to_signed, in_float}
use lib.Ieee.Back.{round_whole}
use lib.Ieee.Exact.{HasValue}
use lib.Ieee.Fits.{down_pos, and_l, and_r}
use Rattle.integers.specs.Order.{signed}
use Rattle.integers.proofs.Tests.{last_test}
use Rattle.whole_floats.specs.Near.{far}

abbrev pub edge : Float
edge = fin false 1 (pos 53)

abbrev pub minus_edge : Float
minus_edge = fin true 1 (pos 53)

-- ---- against the edges

-- a sum with far·D in it is above 0
no_sum : (x D n : ℕ) → 0 < D → x + far * D ≡ n → ltb 0 n ≡ false → ⊥
no_sum x D n h e t = let l : n ≤ 0 = ltb-false 0 n t in omega arith

module _ (m : ℕ) (e : ℤ) where
  abbrev M : ℕ
  M = m * up e

  abbrev D : ℕ
  D = down e

  pub below-edge : (s : Bool) → lt (fin s m e) edge ≡ true → lt minus_edge (fin s m e) ≡ true → M < far * D
  unfolding lt
  below-edge false p q = let l = ltb-true (M * 1) (far * D) p in omega (arith, l, mul-one M)
  below-edge true p q = let l = ltb-true (M * 1) (far * D) q in omega (arith, l, mul-one M)

  pub beyond-edge : (s : Bool) → lt (fin s m e) edge ≡ false → far * D ≤ M
  unfolding lt
  beyond-edge false p = let l = ltb-false (M * 1) (far * D) p in omega (arith, l, mul-one M)
  beyond-edge true p = absurd (no_sum (M * 1) D (M * 1 + far * D) (down_pos e) refl p)

  pub before-edge : (s : Bool) → lt minus_edge (fin s m e) ≡ false → far * D ≤ M
  unfolding lt
  before-edge false p = absurd (no_sum (M * 1) D (far * D + M * 1) (down_pos e) (omega arith) p)
  before-edge true p = let l = ltb-false (M * 1) (far * D) p in omega (arith, l, mul-one M)

-- ---- no fraction beyond them

digits_lt : (s : Bool) (m : ℕ) (e : ℤ) → T (fits binary64 (fin s m e)) → m < far
unfolding fits
digits_lt s zero e t = pow_pos 53
digits_lt s (suc m) e t =
    let a = eqb (suc m % 2) 1 in
    let b = ltb (suc m) far in
    let c = leb (down e) (2 ^ 1074) in
    ltb→lt (suc m) far (and_r a b (and_l (a && b) c (and_l (a && b && c) (ltb (suc m * up e) (2 ^ 1024 * down e)) t)))

pub far-whole : (s : Bool) (m : ℕ) (e : ℤ) → T (fits binary64 (fin s m e)) → far * down e ≤ m * up e → m * up e % down e ≡ 0
far-whole s m (pos k) t h = mod-one (m * 2 ^ k)
far-whole s m (negsuc k) t h = absurd (small m (2 ^ suc k) (digits_lt s m (negsuc k) t) (down_pos (negsuc k)) h)
  where
    small : (m D : ℕ) → m < far → 0 < D → far * D ≤ m * 1 → ⊥
    small m D h p l = omega (arith, mul-one m)

-- ---- the whole part

whole_cut : (c n : ℕ) → c < far → far ≤ n → min c n ≡ c
whole_cut c n h l = omega arith

pub cut_lt : (m : ℕ) (e : ℤ) → m * up e < far * down e → m * up e / down e < far
cut_lt m e h = (div-lt_iff_lt-mul (down_pos e)).1 h

pub cut : (s : Bool) (m : ℕ) (e : ℤ) → m * up e < far * down e → to_signed 63 (fin s m e) ≡ signed s (m * up e / down e)
unfolding to_signed
cut true m e h = ap (λ (n : ℕ). signed true n) (whole_cut (m * up e / down e) (2 ^ 63) (cut_lt m e h) (lit≤ tt))
cut false m e h = ap (λ (n : ℕ). signed false n) (whole_cut (m * up e / down e) (2 ^ 63 - 1) (cut_lt m e h) (lit≤ tt))

pub castable : (s : Bool) (c : ℕ) → c ≤ far → T (in_float binary64 (signed s c))
unfolding in_float
castable false c h = le→leb c far h
castable true zero h = tt
castable true (suc c) h = le→leb (suc c) far h

-- ---- and as a float again

-- the sign of the float: 0 has none
abbrev sign : Bool → ℕ → Bool
sign false c = false
sign true zero = false
sign true (suc c) = true

value : (s : Bool) (c : ℕ) → c ≤ far → HasValue (of_int binary64 (signed s c)) (sign s c) c 1
unfolding of_int
value false c h = round_whole binary64 false c h
value true zero h = round_whole binary64 false 0 h
value true (suc c) h = round_whole binary64 true (suc c) h

-- the signs agree, or both are 0
signs : (s t : Bool) (c A : ℕ) → t ≡ sign s c → (c ≡ 0 → A ≡ 0) → (beq t s || eqb A 0) ≡ true
signs false t c A e z = rw e
signs true t zero A e z = rw (e, eq-eqb A 0 (z refl))
signs true t (suc c) A e z = rw e

-- A / k and B / k are equal exactly where A and B are
scaled : (A B k : ℕ) → 0 < k → eqb (A * k) (B * k) ≡ eqb A B
scaled A B k h = go (eqb A B) refl
  where
    go : (b : Bool) → eqb A B ≡ b → eqb (A * k) (B * k) ≡ b
    go true e = eq-eqb (A * k) (B * k) (ap (λ (x : ℕ). x * k) (eqb-true A B e))
    go false e = ne_eqb (A * k) (B * k) (λ (x : A * k ≡ B * k). eqb-false A B e (eq_of_mul-eq-mul_right k h A B x))

same_value : (x : Float) (s : Bool) (c m : ℕ) (e : ℤ) → HasValue x (sign s c) c 1 → eq x (fin s m e) ≡ eqb (c * down e) (m * up e)
unfolding eq
same_value nan s c m e v = absurd v
same_value (inf t) s c m e v = absurd v
same_value (fin t n d) s c m e v =
    let A = n * up d * down e in
    let size : n * up d ≡ c * down d = sym (mul-one (n * up d)) ∙ v.1 in
    let over : A ≡ c * down e * down d = ap (λ (x : ℕ). x * down e) size ∙ mul_right_comm c (down d) (down e) in
    let none : c ≡ 0 → A ≡ 0 = λ z. over ∙ ap (λ (x : ℕ). x * down e * down d) z ∙ ap (λ (x : ℕ). x * down d) (zero-mul (down e)) ∙ zero-mul (down d) in
    ap (λ (b : Bool). eqb A (m * up e * down d) && b) (signs s t c A v.0 none)
    ∙ sym (last_test (eqb A (m * up e * down d)))
    ∙ ap (λ (x : ℕ). eqb x (m * up e * down d)) over
    ∙ scaled (c * down e) (m * up e) (down d) (down_pos d)

no_rest : (M D : ℕ) → (b : Bool) → eqb (M / D * D) M ≡ b → eqb (M % D) 0 ≡ b
no_rest M D true h = let e = eqb-true (M / D * D) M h in let d = div-add-mod' M D in eq-eqb (M % D) 0 (omega arith)
no_rest M D false h = let d = div-add-mod' M D in ne_eqb (M % D) 0 (λ (z : M % D ≡ 0). eqb-false (M / D * D) M h (omega arith))

pub back_test : (s : Bool) (m : ℕ) (e : ℤ) → m * up e < far * down e
    → eq (of_int binary64 (signed s (m * up e / down e))) (fin s m e) ≡ eqb (m * up e % down e) 0
back_test s m e h =
    let c = m * up e / down e in
    same_value (of_int binary64 (signed s c)) s c m e (value s c (le_of_lt (cut_lt m e h)))
    ∙ sym (no_rest (m * up e) (down e) (eqb (c * down e) (m * up e)) refl)
