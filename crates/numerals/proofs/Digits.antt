-- Numbers, digit by digit.
--
--   grown, fewer_digits         : k digits have a value below 10 ^ k
--   many, front, behind         == how many digits are at the front of the bytes, these, and what follows them
--   front_digits, front_length  : they are digits, as many as are counted
--   ended                       == a word ends behind them
--   parted, digits_front        : they are that word then
--   no_word_end, no_digit, five_digits : where none ends, and where they are not 1 to 4, that word is no number
--   Reading text rest v         == the bytes before the rest are digits, four at most, of the value v
--   reading_start, reading_next : at the front, and behind one digit more
--   digits_over, low_byte, high_byte : no digit is left
--   fifth, none_read, unended, all_read : what the word is then
--   numeral-signed, sign_ahead  : a number is the value of the digits behind its sign
use Prim.Native.Nat.{ℕ, suc, ◌+◌, ◌-◌, ◌*◌, ◌^◌, ◌≤◌, ◌<◌}
use mathlib.Core.Path.{◌≡◌, refl, sym, ap, ◌∙◌, subst}
use mathlib.Core.Bool.{Bool, true, false, ◌&&◌, true≢false}
use mathlib.Core.List.{List, [], ◌∷◌}
use mathlib.Core.Option.{none, some, map}
use native.Mathlib.Nat.{pow-suc, pow-le-pow_right, lt_of_lt_of_le}
use native.Mathlib.Numerals.{add-one}
use native.Mathlib.Omega.{arith}
use lib.Dec.{leb}
use lib.ListN.{length, get_or, take, drop}
use borrow.Author.Tests.{le-leb, lt-leb, leb-true, eqb-true, ne_eqb}
use Rattle.std.specs.List.{prefix_len}
use Rattle.std.proofs.lemmas.List.Folds.{length-prefix_len}
use Rattle.integers.specs.Order.{signed}
use Rattle.integers.proofs.Tests.{first, rest}
use Rattle.numerals.specs.Numeral.{is_digit, all_digits, decimal, some_if, digits, numeral}
use Rattle.std.proofs.lemmas.List.{take_rest}
use Rattle.numerals.proofs.Front.{from_here, up_to_here, from_on, up_to_on, ends_first, no_byte, a_byte}
use Rattle.numerals.specs.Places.{is_byte, ends_word, up_to, from, starts, ends, after_sign, word, after_word}

-- ---- a digit

digit_low : (b : ℕ) → is_digit b ≡ true → 48 ≤ b
digit_low b h = leb-true 48 b (first (leb 48 b) (leb b 57) h)

digit-high : (b : ℕ) → is_digit b ≡ true → b ≤ 57
digit-high b h = leb-true b 57 (rest (leb 48 b) (leb b 57) h)

-- a digit is no end of a word
digit_inside : (b : ℕ) → is_digit b ≡ true → ends_word b ≡ false
digit_inside b h =
    let low = digit_low b h in
    rw (ne_eqb b 32 (λ e. omega (arith, low)), ne_eqb b 10 (λ e. omega (arith, low)))

-- ---- the value

pub grown : (k v d : ℕ) → v < 10 ^ k → d ≤ 9 → 10 * v + d < 10 ^ (k + 1)
grown k v d h l = rw (add-one, pow-suc) (omega arith)

pub fewer_digits : (m k v : ℕ) → v < 10 ^ k → k ≤ m → v < 10 ^ m
fewer_digits m k v h l = lt_of_lt_of_le h (pow-le-pow_right {n = 10} (omega arith) {i = k} {j = m} l)

-- ---- the digits at the front

abbrev pub many : List ℕ → ℕ
many bs = prefix_len is_digit bs

abbrev pub front : List ℕ → List ℕ
front bs = take (many bs) bs

abbrev pub behind : List ℕ → List ℕ
behind bs = drop (many bs) bs

module _ (b : ℕ) (bs : List ℕ) where
  many_digit : is_digit b ≡ true → many (b ∷ bs) ≡ suc (many bs)
  many_digit h = rw h (omega arith)

  many_other : is_digit b ≡ false → many (b ∷ bs) ≡ 0
  many_other h = rw h

  front_digit : is_digit b ≡ true → front (b ∷ bs) ≡ b ∷ front bs
  front_digit h = ap (λ (n : ℕ). take n (b ∷ bs)) (many_digit h)

  front_other : is_digit b ≡ false → front (b ∷ bs) ≡ []
  front_other h = ap (λ (n : ℕ). take n (b ∷ bs)) (many_other h)

  behind_digit : is_digit b ≡ true → behind (b ∷ bs) ≡ behind bs
  behind_digit h = ap (λ (n : ℕ). drop n (b ∷ bs)) (many_digit h)

  behind_other : is_digit b ≡ false → behind (b ∷ bs) ≡ b ∷ bs
  behind_other h = ap (λ (n : ℕ). drop n (b ∷ bs)) (many_other h)

front_step : (t : Bool) (b : ℕ) (bs : List ℕ) → is_digit b ≡ t → all_digits (front bs) ≡ true → all_digits (front (b ∷ bs)) ≡ true
unfolding all_digits
front_step true b bs h ih = ap all_digits (front_digit b bs h) ∙ rw h ih
front_step false b bs h ih = ap all_digits (front_other b bs h)

pub front_digits : (bs : List ℕ) → all_digits (front bs) ≡ true
unfolding all_digits
front_digits [] = refl
front_digits (b ∷ bs) = front_step (is_digit b) b bs refl (front_digits bs)

pub front_length : (bs : List ℕ) → length (front bs) ≡ many bs
front_length bs = length-prefix_len is_digit bs

-- ---- the word at the front

-- a word ends behind the digits
abbrev pub ended : List ℕ → Bool
ended bs = ends ends_word (behind bs)

word_digit : (b : ℕ) (bs : List ℕ) → is_digit b ≡ true → word (b ∷ bs) ≡ b ∷ word bs
word_digit b bs h = up_to_on ends_word b bs (digit_inside b h)

other_step : (t : Bool) (b : ℕ) (bs : List ℕ) → is_digit b ≡ false → ends_word b ≡ t → all_digits (word (b ∷ bs)) ≡ t
unfolding all_digits
other_step true b bs h e = ap all_digits (up_to_here ends_word (b ∷ bs) (ends_first ends_word b bs ∙ e))
other_step false b bs h e = ap all_digits (up_to_on ends_word b bs e) ∙ rw h

word_digits_step : (t : Bool) (b : ℕ) (bs : List ℕ) → is_digit b ≡ t → all_digits (word bs) ≡ ended bs → all_digits (word (b ∷ bs)) ≡ ended (b ∷ bs)
unfolding all_digits
word_digits_step true b bs h ih = ap all_digits (word_digit b bs h) ∙ rw h ih ∙ ap (ends ends_word) (sym (behind_digit b bs h))
word_digits_step false b bs h ih =
    other_step (ends_word b) b bs h refl
    ∙ sym (ends_first ends_word b bs)
    ∙ ap (ends ends_word) (sym (behind_other b bs h))

-- the word is digits exactly where it ends behind them
word_digits : (bs : List ℕ) → all_digits (word bs) ≡ ended bs
unfolding all_digits up_to ends
word_digits [] = refl
word_digits (b ∷ bs) = word_digits_step (is_digit b) b bs refl (word_digits bs)

abbrev Parted : List ℕ → Type 0
Parted bs = (word bs ≡ front bs) × (after_word bs ≡ behind bs)

parted_step : (t : Bool) (b : ℕ) (bs : List ℕ) → is_digit b ≡ t → (ended bs ≡ true → Parted bs) → ended (b ∷ bs) ≡ true → Parted (b ∷ bs)
parted_step true b bs h ih e =
    let p = ih (ap (ends ends_word) (sym (behind_digit b bs h)) ∙ e) in (
      word_digit b bs h ∙ ap (λ (l : List ℕ). b ∷ l) p.0 ∙ sym (front_digit b bs h),
      from_on ends_word b bs (digit_inside b h) ∙ p.1 ∙ sym (behind_digit b bs h),
    )
parted_step false b bs h ih e =
    let k = ap (ends ends_word) (sym (behind_other b bs h)) ∙ e in
    (up_to_here ends_word (b ∷ bs) k ∙ sym (front_other b bs h), from_here ends_word (b ∷ bs) k ∙ sym (behind_other b bs h))

pub parted : (bs : List ℕ) → ended bs ≡ true → Parted bs
unfolding up_to from
parted [] e = (refl, refl)
parted (b ∷ bs) e = parted_step (is_digit b) b bs refl (parted bs) e

pub digits_front : (bs : List ℕ) → ended bs ≡ true → 1 ≤ many bs → many bs ≤ 4 → digits (word bs) ≡ some (decimal 0 (front bs))
unfolding digits
digits_front bs e l h =
    ap digits (parted bs e).0
    ∙ rw (front_length bs, le-leb 1 (many bs) l, le-leb (many bs) 4 h, front_digits bs)

pub no_word_end : (bs : List ℕ) → ended bs ≡ false → digits (word bs) ≡ none
unfolding digits
no_word_end bs e = go (leb 1 (length (word bs))) (leb (length (word bs)) 4) (all_digits (word bs)) (word_digits bs ∙ e)
  where
    go : (p q r : Bool) → r ≡ false → some_if (p && (q && r)) (decimal 0 (word bs)) ≡ none
    go true true r h = rw h
    go true false r h = refl
    go false q r h = refl

-- the count of the digits is not 1 to 4
count_refused : (bs : List ℕ) → leb 1 (many bs) && leb (many bs) 4 ≡ false → (t : Bool) → ended bs ≡ t → digits (word bs) ≡ none
unfolding digits
count_refused bs h false e = no_word_end bs e
count_refused bs h true e =
    ap digits (parted bs e).0
    ∙ rw (front_length bs) (go (leb 1 (many bs)) (leb (many bs) 4) (all_digits (front bs)) h)
  where
    go : (p q r : Bool) → p && q ≡ false → some_if (p && (q && r)) (decimal 0 (front bs)) ≡ none
    go true true r k = absurd (true≢false k)
    go true false r k = refl
    go false q r k = refl

pub no_digit : (bs : List ℕ) → many bs ≡ 0 → digits (word bs) ≡ none
no_digit bs h = count_refused bs (rw h) (ended bs) refl

pub five_digits : (bs : List ℕ) → 4 < many bs → digits (word bs) ≡ none
five_digits bs h = count_refused bs (rw (le-leb 1 (many bs) (omega (arith, h)), lt-leb (many bs) 4 h)) (ended bs) refl

-- ---- digit by digit

pub record Reading (text rest : List ℕ) (v : ℕ) : Type 0 where
  pub shorter : length rest ≤ length text
  pub few : length text - length rest ≤ 4
  pub bound : v < 10 ^ (length text - length rest)
  pub counted : many text ≡ (length text - length rest) + many rest
  pub value : decimal v (front rest) ≡ decimal 0 (front text)
  pub left : behind rest ≡ behind text

pub reading_start : (text : List ℕ) → Reading text text 0
reading_start text =
    let none : length text - length text ≡ 0 = omega arith in
    record { shorter = omega arith; few = omega arith; bound = rw none (omega arith); counted = rw none (omega arith); value = refl; left = refl }

pub is_digit_by : (b : ℕ) → 48 ≤ b → b < 58 → is_digit b ≡ true
is_digit_by b h k = rw (le-leb 48 b h, le-leb b 57 (omega (arith, k)))

reading_step : (text : List ℕ) (d : ℕ) (bs : List ℕ) (v : ℕ) → is_digit d ≡ true → (length text - length (d ∷ bs) ≡ 4 → ⊥)
    → Reading text (d ∷ bs) v
    → Reading text bs (10 * v + (d - 48))
unfolding decimal
reading_step text d bs v h n r =
    let long : length (d ∷ bs) ≡ length bs + 1 = omega arith in
    let next : length text - length bs ≡ (length text - length (d ∷ bs)) + 1 = omega (arith, r.shorter, long) in
    let high = digit-high d h in
    record {
      shorter = omega (arith, r.shorter, long);
      few = omega (arith, r.few, n, next);
      bound = rw next (grown (length text - length (d ∷ bs)) v (d - 48) r.bound (omega (arith, high)));
      counted = omega (arith, r.counted, many_digit d bs h, next);
      value = sym (ap (decimal v) (front_digit d bs h)) ∙ r.value;
      left = sym (behind_digit d bs h) ∙ r.left;
    }

pub reading_next : (text rest : List ℕ) (v d : ℕ) → 1 ≤ length rest → 48 ≤ get_or rest 0 0 → get_or rest 0 0 < 58 → d ≡ get_or rest 0 0 - 48
    → (length text - length rest ≡ 4 → ⊥) → Reading text rest v → Reading text (take (length rest - 1) (drop 1 rest)) (10 * v + d)
reading_next text [] v d some_left low high is n r = absurd (no_byte some_left)
reading_next text (b ∷ bs) v d some_left low high is n r =
    subst (λ (l : List ℕ). Reading text l (10 * v + d)) (sym (take_rest (b ∷ bs) 1))
    (subst (λ (x : ℕ). Reading text bs (10 * v + x)) (sym is) (reading_step text b bs v (is_digit_by b low high) n r))

-- the bound of a digit more
pub reading_room : {text rest : List ℕ} {v : ℕ} → (length text - length rest ≡ 4 → ⊥) → Reading text rest v → v < 1000
reading_room n r = fewer_digits 3 _ _ r.bound (omega (arith, r.few, n))

-- ---- where the digits end

pub digits_over : (rest : List ℕ) → length rest < 1 → many rest ≡ 0
digits_over [] h = refl
digits_over (b ∷ bs) h = absurd (a_byte (length bs) h)

pub low_byte : (rest : List ℕ) → 1 ≤ length rest → get_or rest 0 0 < 48 → many rest ≡ 0
low_byte [] h l = absurd (no_byte h)
low_byte (b ∷ bs) h l = many_other b bs (rw (lt-leb 48 b l))

pub high_byte : (rest : List ℕ) → 1 ≤ length rest → 58 ≤ get_or rest 0 0 → many rest ≡ 0
high_byte [] h l = absurd (no_byte h)
high_byte (b ∷ bs) h l = many_other b bs (sym (stop-right (leb 48 b) (lt-leb b 57 (omega (arith, l)))))
  where
    stop-right : (a : Bool) {c : Bool} → c ≡ false → false ≡ a && c
    stop-right true e = sym e
    stop-right false e = refl

module _ {text rest : List ℕ} {v : ℕ} (r : Reading text rest v) where
  pub fifth : 1 ≤ length rest → 48 ≤ get_or rest 0 0 → get_or rest 0 0 < 58 → length text - length rest ≡ 4 → digits (word text) ≡ none
  fifth some_left low high n = five_digits text (omega (arith, r.counted, n, more rest some_left low high))
    where
      more : (l : List ℕ) → 1 ≤ length l → 48 ≤ get_or l 0 0 → get_or l 0 0 < 58 → 1 ≤ many l
      more [] s l h = absurd (no_byte s)
      more (b ∷ bs) s l h = omega (arith, many_digit b bs (is_digit_by b l h))

  module _ (over : many rest ≡ 0) where
    behind_here : behind text ≡ rest
    behind_here = sym r.left ∙ ap (λ (n : ℕ). drop n rest) over

    front_none : front rest ≡ []
    front_none = ap (λ (n : ℕ). take n rest) over

    pub none_read : length rest ≡ length text → digits (word text) ≡ none
    none_read e = no_digit text (omega (arith, r.counted, over, e))

    pub unended : ends ends_word rest ≡ false → digits (word text) ≡ none
    unended e = no_word_end text (ap (ends ends_word) behind_here ∙ e)

    pub all_read : (length rest ≡ length text → ⊥) → ends ends_word rest ≡ true
        → (digits (word text) ≡ some v) × (rest ≡ after_word text) × (v < 10000)
    unfolding decimal
    all_read n e =
        let end = ap (ends ends_word) behind_here ∙ e in (
          digits_front text end (omega (arith, r.counted, over, n, r.shorter)) (omega (arith, r.counted, over, r.few))
              ∙ ap some (sym r.value ∙ ap (decimal v) front_none),
          sym behind_here ∙ sym (parted text end).1,
          fewer_digits 4 _ _ r.bound r.few,
        )

-- ---- the sign

signed-step : (plus minus ends : Bool) (b : ℕ) (bs : List ℕ) → is_byte 43 b ≡ plus → is_byte 45 b ≡ minus → ends_word b ≡ ends
    → numeral (word (b ∷ bs)) ≡ map (signed (starts (is_byte 45) (b ∷ bs))) (digits (word (after_sign (b ∷ bs))))
unfolding numeral digits starts up_to after_sign
signed-step true minus ends b bs p m e = rw (eqb-true b 43 p)
signed-step false true ends b bs p m e = rw (eqb-true b 45 m)
signed-step false false true b bs p m e = rw (e, p, m, e)
signed-step false false false b bs p m e = rw (e, p, m, e)

pub numeral-signed : (bs : List ℕ) → numeral (word bs) ≡ map (signed (starts (is_byte 45) bs)) (digits (word (after_sign bs)))
unfolding numeral digits starts up_to after_sign
numeral-signed [] = refl
numeral-signed (b ∷ bs) = signed-step (is_byte 43 b) (is_byte 45 b) (ends_word b) b bs refl refl refl

ahead_step : (plus minus : Bool) (b : ℕ) (bs : List ℕ) → is_byte 43 b ≡ plus → is_byte 45 b ≡ minus
    → after_word (after_sign (b ∷ bs)) ≡ after_word (b ∷ bs)
unfolding from after_sign
ahead_step true minus b bs p m = rw (eqb-true b 43 p)
ahead_step false true b bs p m = rw (eqb-true b 45 m)
ahead_step false false b bs p m = rw (p, m)

pub sign_ahead : (bs : List ℕ) → after_word (after_sign bs) ≡ after_word bs
unfolding after_sign
sign_ahead [] = refl
sign_ahead (b ∷ bs) = ahead_step (is_byte 43 b) (is_byte 45 b) b bs refl refl
