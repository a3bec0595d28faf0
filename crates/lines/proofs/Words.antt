-- Lines and words at the front of the bytes.
--
--   some_word      : a word that is some is kept
--   pieces_first   : the first piece goes up to the separator, and the others are those behind it
--   lines_first    : the same of lines
--   words-spaces   : spaces at the front do not matter
--   words_none     : at a line's end there are no words
--   words_first    : a word at the front is the first of the line
--   feed_later     : the line feed is that of the bytes behind spaces, and behind a word
use Prim.Native.Nat.{ℕ}
use mathlib.Core.Path.{◌≡◌, refl, sym, ◌∙◌, ap}
use mathlib.Core.Bool.{Bool, true, false}
use mathlib.Core.List.{List, [], ◌∷◌}
use lib.ListN.{drop}
use borrow.Author.Tests.{eqb-true}
use Rattle.lines.specs.Line.{join_piece, pieces, non_empty, lines_of, words_of}
use Rattle.numerals.specs.Places.{is_byte, is_feed, is_space, up_to, from, ends, word, after_word}
use Rattle.lines.specs.LineAt.{first_line, after_line, after_spaces}
use Rattle.numerals.proofs.Front.{up_to_here}

-- the claim of `pieces_first`, of all bytes that are some
abbrev FirstPiece : ℕ → List ℕ → Type 0
FirstPiece sep bs = pieces sep bs ≡ up_to (is_byte sep) bs ∷ pieces sep (drop 1 (from (is_byte sep) bs))

piece_alone : (t : Bool) (sep b : ℕ) → is_byte sep b ≡ t → FirstPiece sep (b ∷ [])
unfolding pieces join_piece up_to from
piece_alone true sep b h = rw h
piece_alone false sep b h = rw h

piece_before : (t : Bool) (sep b : ℕ) (bs : List ℕ) → is_byte sep b ≡ t → FirstPiece sep bs → FirstPiece sep (b ∷ bs)
unfolding pieces join_piece up_to from
piece_before true sep b bs h ih = rw h
piece_before false sep b bs h ih = rw (h, ih)

pub pieces_first : (sep b : ℕ) (bs : List ℕ) → FirstPiece sep (b ∷ bs)
pieces_first sep b [] = piece_alone (is_byte sep b) sep b refl
pieces_first sep b (a ∷ bs) = piece_before (is_byte sep b) sep b (a ∷ bs) refl (pieces_first sep a bs)

pub lines_first : (b : ℕ) (bs : List ℕ) → lines_of (b ∷ bs) ≡ first_line (b ∷ bs) ∷ lines_of (after_line (b ∷ bs))
lines_first b bs = pieces_first 10 b bs

-- ---- words

words-spaces-step : (t : Bool) (b : ℕ) (bs : List ℕ) → is_space b ≡ t → words_of (first_line bs) ≡ words_of (first_line (after_spaces bs))
    → words_of (first_line (b ∷ bs)) ≡ words_of (first_line (after_spaces (b ∷ bs)))
unfolding pieces join_piece non_empty up_to from
words-spaces-step true b bs h ih = rw (eqb-true b 32 h) ih
words-spaces-step false b bs h ih = rw h

pub words-spaces : (bs : List ℕ) → words_of (first_line bs) ≡ words_of (first_line (after_spaces bs))
unfolding from
words-spaces [] = refl
words-spaces (b ∷ bs) = words-spaces-step (is_space b) b bs refl (words-spaces bs)

pub words_none : (bs : List ℕ) → ends is_feed bs ≡ true → words_of (first_line bs) ≡ []
unfolding pieces non_empty
words_none bs h = rw (up_to_here is_feed bs h)

-- a word of the first line is a word of the bytes
word_of_line_step : (s f : Bool) (b : ℕ) (bs : List ℕ) → is_space b ≡ s → is_feed b ≡ f → up_to is_space (first_line bs) ≡ word bs
    → up_to is_space (first_line (b ∷ bs)) ≡ word (b ∷ bs)
unfolding up_to
word_of_line_step true true b bs h k ih = rw (h, k)
word_of_line_step true false b bs h k ih = rw (k, h)
word_of_line_step false true b bs h k ih = rw (h, k)
word_of_line_step false false b bs h k ih = rw (h, k, h, ih)

word_of_line : (bs : List ℕ) → up_to is_space (first_line bs) ≡ word bs
unfolding up_to
word_of_line [] = refl
word_of_line (b ∷ bs) = word_of_line_step (is_space b) (is_feed b) b bs refl refl (word_of_line bs)

rest_of_line_step : (s f : Bool) (b : ℕ) (bs : List ℕ) → is_space b ≡ s → is_feed b ≡ f → from is_space (first_line bs) ≡ first_line (after_word bs)
    → from is_space (first_line (b ∷ bs)) ≡ first_line (after_word (b ∷ bs))
unfolding up_to from
rest_of_line_step true true b bs h k ih = rw (k, h, k)
rest_of_line_step true false b bs h k ih = rw (k, h, k)
rest_of_line_step false true b bs h k ih = rw (k, h, k)
rest_of_line_step false false b bs h k ih = rw (h, k, h, ih)

rest_of_line : (bs : List ℕ) → from is_space (first_line bs) ≡ first_line (after_word bs)
unfolding up_to from
rest_of_line [] = refl
rest_of_line (b ∷ bs) = rest_of_line_step (is_space b) (is_feed b) b bs refl refl (rest_of_line bs)

-- a space behind a word parts it from the others, and is no word
words_behind_step : (t : Bool) (b : ℕ) (l : List ℕ) → is_space b ≡ t → words_of (drop 1 (from is_space l)) ≡ words_of (from is_space l)
    → words_of (drop 1 (from is_space (b ∷ l))) ≡ words_of (from is_space (b ∷ l))
unfolding pieces join_piece non_empty from
words_behind_step true b l h ih = rw (h, h)
words_behind_step false b l h ih = rw h ih

words_behind : (l : List ℕ) → words_of (drop 1 (from is_space l)) ≡ words_of (from is_space l)
unfolding from
words_behind [] = refl
words_behind (b ∷ l) = words_behind_step (is_space b) b l refl (words_behind l)

pub some_word : (w : List ℕ) (ws : List (List ℕ)) → (w ≡ [] → ⊥) → non_empty (w ∷ ws) ≡ w ∷ non_empty ws
unfolding non_empty
some_word [] ws h = absurd (h refl)
some_word (b ∷ w) ws h = refl

line_words_lem : (l : List ℕ) → (up_to is_space l ≡ [] → ⊥) → words_of l ≡ up_to is_space l ∷ words_of (from is_space l)
unfolding up_to
line_words_lem [] h = absurd (h refl)
line_words_lem (b ∷ l) h =
    ap non_empty (pieces_first 32 b l)
    ∙ some_word (up_to is_space (b ∷ l)) (pieces 32 (drop 1 (from is_space (b ∷ l)))) h
    ∙ ap (λ (ws : List (List ℕ)). up_to is_space (b ∷ l) ∷ ws) (words_behind (b ∷ l))

pub words_first : (bs : List ℕ) → (word bs ≡ [] → ⊥) → words_of (first_line bs) ≡ word bs ∷ words_of (first_line (after_word bs))
words_first bs h = rw (word_of_line bs, rest_of_line bs) at (line_words_lem (first_line bs) (λ e. h (sym (word_of_line bs) ∙ e)))

-- ---- the end of the line

module _ (stop : ℕ → Bool) (sooner : (b : ℕ) → stop b ≡ false → is_feed b ≡ false) where
  feed_step : (t : Bool) (b : ℕ) (bs : List ℕ) → stop b ≡ t → from is_feed bs ≡ from is_feed (from stop bs)
      → from is_feed (b ∷ bs) ≡ from is_feed (from stop (b ∷ bs))
  unfolding from
  feed_step true b bs h ih = rw h
  feed_step false b bs h ih = rw (h, sooner b h) ih

  pub feed_later : (bs : List ℕ) → from is_feed bs ≡ from is_feed (from stop bs)
  unfolding from
  feed_later [] = refl
  feed_later (b ∷ bs) = feed_step (stop b) b bs refl (feed_later bs)
