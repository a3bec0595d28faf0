-- A line as it is read: cs follows the spaces at the front of bs, ds the word and the spaces at the front of cs, es those of ds.
--
--   after_spaces_lem, after_word_lem    : the line's end is not passed on the way
--   line_blank                  : nothing behind the spaces
--   fault_first, fault_second   : a word that is no number, or none
--   fault_third, line_point     : a third word, or nothing, behind two numbers
use Prim.Native.Nat.{ℕ}
use mathlib.Core.Path.{◌≡◌, refl, sym, ◌∙◌, ap, subst}
use mathlib.Core.Bool.{Bool, true, false, ◌||◌, true≢false}
use mathlib.Core.List.{List, [], ◌∷◌}
use mathlib.Core.Option.{none, some}
use native.Mathlib.Omega.{arith}
use lib.IntN.{ℤ}
use lib.ListN.{drop}
use borrow.Author.Tests.{eqb-true, not-false}
use Rattle.lines.specs.Line.{words_of, blank, point, fault, line_of_words, line_of}
use Rattle.numerals.specs.Numeral.{numeral}
use Rattle.numerals.specs.Places.{is_feed, is_space, ends_word, from, ends, word, after_word, no_space}
use Rattle.lines.specs.LineAt.{first_line, after_line, after_spaces}
use Rattle.numerals.proofs.Front.{from_here, up_to_on}
use Rattle.lines.proofs.Words.{words-spaces, words_none, words_first, feed_later}

-- ---- the end of the line

space_before_feed : (b : ℕ) → no_space b ≡ false → is_feed b ≡ false
space_before_feed b h = ap is_feed (eqb-true b 32 (not-false (is_space b) h))

word-before_feed : (b : ℕ) → ends_word b ≡ false → is_feed b ≡ false
word-before_feed b h = go (is_space b) (is_feed b) h
  where
    go : (s f : Bool) → s || f ≡ false → f ≡ false
    go true f e = absurd (true≢false e)
    go false f e = e

pub after_spaces_lem : (bs : List ℕ) → from is_feed bs ≡ from is_feed (after_spaces bs)
after_spaces_lem bs = feed_later no_space space_before_feed bs

pub after_word_lem : (bs : List ℕ) → from is_feed bs ≡ from is_feed (after_word bs)
after_word_lem bs = feed_later ends_word word-before_feed bs

-- ---- words

abbrev full : List ℕ → Bool
full [] = false
full (b ∷ bs) = true

some_byte : (b : ℕ) (bs : List ℕ) → is_space b ≡ false → is_feed b ≡ false → word (b ∷ bs) ≡ [] → ⊥
some_byte b bs h k e = true≢false (ap full (sym (up_to_on ends_word b bs (rw (h, k))) ∙ e))

word_there_step : (t : Bool) (b : ℕ) (bs : List ℕ) → is_space b ≡ t
    → (ends is_feed (after_spaces bs) ≡ false → word (after_spaces bs) ≡ [] → ⊥)
    → ends is_feed (after_spaces (b ∷ bs)) ≡ false → word (after_spaces (b ∷ bs)) ≡ [] → ⊥
unfolding ends from
word_there_step true b bs h ih = rw h ih
word_there_step false b bs h ih = rw h (λ k e. some_byte b bs h k e)

word_there : (bs : List ℕ) → ends is_feed (after_spaces bs) ≡ false → word (after_spaces bs) ≡ [] → ⊥
unfolding ends from
word_there [] h e = true≢false h
word_there (b ∷ bs) h e = word_there_step (is_space b) b bs refl (word_there bs) h e

number_there : (w : List ℕ) (z : ℤ) → numeral w ≡ some z → w ≡ [] → ⊥
unfolding numeral
number_there [] z h e = let clash : ◌≡◌ {A = ℕ} 0 1 = cc in omega arith
number_there (b ∷ w) z h e = true≢false (ap full e)

-- ---- the parts of a line

pub record Spaced (bs cs : List ℕ) : Type 0 where
  pub is : cs ≡ after_spaces bs

-- the number z, and the spaces behind it
pub record Numbered (cs ds : List ℕ) (z : ℤ) : Type 0 where
  pub value : numeral (word cs) ≡ some z
  pub is : ds ≡ after_spaces (after_word cs)

line_words : List ℕ → List (List ℕ)
line_words bs = words_of (first_line bs)

words_spaced : {bs cs : List ℕ} → Spaced bs cs → line_words bs ≡ line_words cs
unfolding line_words
words_spaced {bs} s = words-spaces bs ∙ ap line_words (sym s.is)

words_numbered : {cs ds : List ℕ} {z : ℤ} → Numbered cs ds z → line_words cs ≡ word cs ∷ line_words ds
unfolding line_words
words_numbered {cs} {z} n =
    words_first cs (number_there (word cs) z n.value)
    ∙ ap (λ (ws : List (List ℕ)). word cs ∷ ws) (words-spaces (after_word cs) ∙ ap line_words (sym n.is))

words_some : {bs cs : List ℕ} → Spaced bs cs → ends is_feed cs ≡ false → line_words cs ≡ word cs ∷ line_words (after_word cs)
unfolding line_words
words_some {bs} {cs} s h = words_first cs (subst (λ (l : List ℕ). ends is_feed l ≡ false → word l ≡ [] → ⊥) (sym s.is) (word_there bs) h)

feed_numbered : {cs ds : List ℕ} {z : ℤ} → Numbered cs ds z → from is_feed cs ≡ from is_feed ds
feed_numbered {cs} n = after_word_lem cs ∙ after_spaces_lem (after_word cs) ∙ ap (from is_feed) (sym n.is)

feed_spaced : {bs cs : List ℕ} → Spaced bs cs → from is_feed bs ≡ from is_feed cs
feed_spaced {bs} s = after_spaces_lem bs ∙ ap (from is_feed) (sym s.is)

line_over : (bs cs : List ℕ) → from is_feed bs ≡ from is_feed cs → ends is_feed cs ≡ true → drop 1 cs ≡ after_line bs
line_over bs cs e h = ap (drop 1) (sym (from_here is_feed cs h) ∙ sym e)

-- ---- by its words

no_number_first : (w : List ℕ) (ws : List (List ℕ)) → numeral w ≡ none → line_of_words (w ∷ ws) ≡ fault
unfolding line_of_words
no_number_first w [] h = refl
no_number_first w (y ∷ []) h = rw h
no_number_first w (y ∷ z ∷ ws) h = refl

no_number_second : (w y : List ℕ) (ws : List (List ℕ)) {z : ℤ} → numeral w ≡ some z → numeral y ≡ none → line_of_words (w ∷ y ∷ ws) ≡ fault
unfolding line_of_words
no_number_second w y [] k h = rw (k, h)
no_number_second w y (v ∷ ws) k h = refl

module _ {bs cs : List ℕ} (s : Spaced bs cs) where
  pub line_blank : ends is_feed cs ≡ true → (line_of (first_line bs) ≡ blank) × (drop 1 cs ≡ after_line bs)
  unfolding line_of_words line_words
  line_blank h = (ap line_of_words (words_spaced s ∙ words_none cs h), line_over bs cs (feed_spaced s) h)

  pub fault_first : ends is_feed cs ≡ false → numeral (word cs) ≡ none → line_of (first_line bs) ≡ fault
  unfolding line_words
  fault_first h k = ap line_of_words (words_spaced s ∙ words_some s h) ∙ no_number_first (word cs) (line_words (after_word cs)) k

  module _ {ds : List ℕ} {x : ℤ} (n : Numbered cs ds x) where
    second : (t : Bool) → ends is_feed ds ≡ t → numeral (word ds) ≡ none → line_of_words (word cs ∷ line_words ds) ≡ fault
    unfolding line_of_words line_words
    second true h k = rw (words_none ds h)
    second false h k = rw (words_some (record { is = n.is }) h) (no_number_second (word cs) (word ds) (line_words (after_word ds)) n.value k)

    pub fault_second : numeral (word ds) ≡ none → line_of (first_line bs) ≡ fault
    unfolding line_words
    fault_second k = ap line_of_words (words_spaced s ∙ words_numbered n) ∙ second (ends is_feed ds) refl k

    module _ {es : List ℕ} {y : ℤ} (m : Numbered ds es y) where
      three-words : words_of (first_line bs) ≡ word cs ∷ word ds ∷ line_words es
      unfolding line_words
      three-words = words_spaced s ∙ words_numbered n ∙ ap (λ (ws : List (List ℕ)). word cs ∷ ws) (words_numbered m)

      pub fault_third : ends is_feed es ≡ false → line_of (first_line bs) ≡ fault
      unfolding line_of_words
      fault_third h = ap line_of_words (three-words ∙ ap (λ (ws : List (List ℕ)). word cs ∷ word ds ∷ ws) (words_some (record { is = m.is }) h))

      pub line_point : ends is_feed es ≡ true → (line_of (first_line bs) ≡ point (record { x = x; y = y })) × (drop 1 es ≡ after_line bs)
      unfolding line_of_words line_words
      line_point h = (
        ap line_of_words (three-words ∙ ap (λ (ws : List (List ℕ)). word cs ∷ word ds ∷ ws) (words_none es h)) ∙ rw (n.value, m.value),
        line_over bs es (feed_spaced s ∙ feed_numbered n ∙ feed_numbered m) h,
      )
