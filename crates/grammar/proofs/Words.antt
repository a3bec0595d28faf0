-- A text as lines, and a line as words with spaces around them.
--
--   lines_known, lines_read : the lines of a text are those of specs.Grammar.antt
--   with_byte        : a byte that is no separator, before bytes without one
--   Words line ws    == line is the words ws in this order, each some bytes without a space, with one or more spaces between two and spaces or none around all
--   words_are        : then these are its words
--   words_of_lem         : every line is its words so
use mathlib.Core.Path.{◌≡◌, refl, sym, ap, ◌∙◌, subst}
use mathlib.Core.Logic.{◌⊎◌, inl, inr}
use mathlib.Core.Bool.{Bool, true, false}
use mathlib.Core.List.Memᴰ
use mathlib.Core.List.{List, [], ◌∷◌, ◌++◌, append-nil, Memᴰ}
use Prim.Native.Nat.{ℕ, zero, suc}
use native.Mathlib.Omega.{arith}
use borrow.Author.Tests.{eqb-true, eqb-false, eq-eqb, ne_eqb}
use lib.Dec.{eqb}
use Rattle.lines.specs.Line.{join_piece, pieces, non_empty, lines_of, words_of}
use Rattle.lines.proofs.Words.{some_word}
use Rattle.grammar.specs.Grammar.{Without, AreLines, no_bytes, at_the_end, ended, spaces}

-- nothing, or a space first
abbrev pub Open : List ℕ → Type 0
Open r = (r ≡ []) ⊎ ((s : List ℕ) × (r ≡ 32 ∷ s))

pub record FirstWord (w line rest : List ℕ) : Type 0 where
  pub gap : ℕ
  pub parted : line ≡ spaces gap ++ (w ++ rest)
  pub some : w ≡ [] → ⊥
  pub bare : Without 32 w
  pub open_behind : Open rest

abbrev pub Words : List ℕ → List (List ℕ) → Type 0
Words line [] = (n : ℕ) × (line ≡ spaces n)
Words line (w ∷ ws) = (rest : List ℕ) × (FirstWord w line rest × Words rest ws)

pub no_word : {b : ℕ} {w : List ℕ} → b ∷ w ≡ [] → ⊥
no_word e = let z : ◌≡◌ {A = ℕ} 0 1 = cc in omega arith

-- ---- pieces

later : {sep b : ℕ} {w : List ℕ} → Without sep (b ∷ w) → Without sep w
later h c m = h c (Memᴰ.tail m)

differs : {sep b : ℕ} {w : List ℕ} → Without sep (b ∷ w) → eqb b sep ≡ false
differs {sep} {b} h = ne_eqb b sep (h b (Memᴰ.head refl))

pub pieces-before : (sep : ℕ) (w r : List ℕ) → Without sep w → pieces sep (w ++ sep ∷ r) ≡ w ∷ pieces sep r
unfolding pieces join_piece
pieces-before sep [] r h = rw (eq-eqb sep sep refl)
pieces-before sep (b ∷ w) r h = rw (differs h, pieces-before sep w r (later h))

pub pieces_all : (sep b : ℕ) (w : List ℕ) → Without sep (b ∷ w) → pieces sep (b ∷ w) ≡ (b ∷ w) ∷ []
unfolding pieces join_piece
pieces_all sep b [] h = rw (differs h)
pieces_all sep b (c ∷ w) h =
    ap (λ (t : Bool). join_piece t b (pieces sep (c ∷ w))) (differs h)
    ∙ ap (join_piece false b) (pieces_all sep c w (later h))

pub with_byte : (sep b : ℕ) (w : List ℕ) → (b ≡ sep → ⊥) → Without sep w → Without sep (b ∷ w)
with_byte sep b w d h c m = go (Memᴰ.cases_cons m)
  where
    go : (c ≡ b) ⊎ Memᴰ c w → c ≡ sep → ⊥
    go (inl e) k = d (sym e ∙ k)
    go (inr n) k = h c n k

without_none : (sep : ℕ) → Without sep []
without_none sep b m e = Memᴰ.not-nil m

-- ---- lines

pub lines_read : (text : List ℕ) (ls : List (List ℕ)) → AreLines text ls → lines_of text ≡ ls
unfolding pieces
lines_read text ls no_bytes = refl
lines_read text ls (at_the_end {b} {l} h) = pieces_all 10 b l h
lines_read text ls (ended {l} {rest} {ls = later_lines} h d) =
    pieces-before 10 l rest h ∙ ap {B = List (List ℕ)} (λ (r : List (List ℕ)). l ∷ r) (lines_read rest later_lines d)

abbrev AsLines : List ℕ → Type 0
AsLines text = (ls : List (List ℕ)) × AreLines text ls

more_of_line : (b : ℕ) (text : List ℕ) → (b ≡ 10 → ⊥) → (ls : List (List ℕ)) → AreLines text ls → AsLines (b ∷ text)
more_of_line b text d ls no_bytes = ((b ∷ []) ∷ [], at_the_end (with_byte 10 b [] d (without_none 10)))
more_of_line b text d ls (at_the_end {b = c} {l} h) = ((b ∷ c ∷ l) ∷ [], at_the_end (with_byte 10 b (c ∷ l) d h))
more_of_line b text d ls (ended {l} {rest} {ls = later_lines} h k) = ((b ∷ l) ∷ later_lines, ended (with_byte 10 b l d h) k)

as_lines : (text : List ℕ) → AsLines text
as_lines [] = ([], no_bytes)
as_lines (b ∷ text) = let h = as_lines text in go h (eqb b 10) refl
  where
    go : AsLines text → (t : Bool) → eqb b 10 ≡ t → AsLines (b ∷ text)
    go h true e = subst (λ (c : ℕ). AsLines (c ∷ text)) (sym (eqb-true b 10 e)) ([] ∷ h.0, ended (without_none 10) h.1)
    go h false e = more_of_line b text (eqb-false b 10 e) h.0 h.1

pub lines_known : (text : List ℕ) (ls : List (List ℕ)) → lines_of text ≡ ls → AreLines text ls
lines_known text ls e = let h = as_lines text in subst (AreLines text) (sym (lines_read text h.0 h.1) ∙ e) h.1

-- ---- words

spaces_skipped : (n : ℕ) (bs : List ℕ) → words_of (spaces n ++ bs) ≡ words_of bs
unfolding pieces join_piece non_empty
spaces_skipped zero bs = refl
spaces_skipped (suc n) bs = spaces_skipped n bs

spaces_none : (n : ℕ) → words_of (spaces n) ≡ []
unfolding pieces join_piece non_empty
spaces_none zero = refl
spaces_none (suc n) = spaces_none n

word_alone : (w : List ℕ) → (w ≡ [] → ⊥) → Without 32 w → words_of w ≡ w ∷ []
unfolding non_empty
word_alone [] h k = absurd (h refl)
word_alone (b ∷ w) h k = ap non_empty (pieces_all 32 b w k)

-- a word, and what is open behind it
word_first : (w rest : List ℕ) → (w ≡ [] → ⊥) → Without 32 w → Open rest → words_of (w ++ rest) ≡ w ∷ words_of rest
unfolding pieces join_piece non_empty
word_first w rest h k (inl e) =
    ap (λ (r : List ℕ). words_of (w ++ r)) e ∙ ap words_of (append-nil w) ∙ word_alone w h k ∙ ap (λ (r : List ℕ). w ∷ words_of r) (sym e)
word_first w rest h k (inr (s, e)) =
    ap (λ (r : List ℕ). words_of (w ++ r)) e ∙ ap non_empty (pieces-before 32 w s k) ∙ some_word w (pieces 32 s) h ∙ ap (λ (r : List ℕ). w ∷ words_of r) (sym e)

pub words_are : (ws : List (List ℕ)) (line : List ℕ) → Words line ws → words_of line ≡ ws
words_are [] line h = ap words_of h.1 ∙ spaces_none h.0
words_are (w ∷ ws) line h =
    let f = h.1.0 in
    ap words_of f.parted ∙ spaces_skipped f.gap (w ++ h.0) ∙ word_first w h.0 f.some f.bare f.open_behind
    ∙ ap {B = List (List ℕ)} (λ (r : List (List ℕ)). w ∷ r) (words_are ws h.0 h.1.1)

-- ---- every line

-- a space in front
more_space : (ws : List (List ℕ)) (bs : List ℕ) → Words bs ws → Words (32 ∷ bs) ws
more_space [] bs h = (suc h.0, ap {B = List ℕ} (λ (r : List ℕ). 32 ∷ r) h.1)
more_space (w ∷ ws) bs h = let f = h.1.0 in (
  h.0,
  (
    record {
      gap = suc f.gap;
      parted = ap {B = List ℕ} (λ (r : List ℕ). 32 ∷ r) f.parted;
      some = f.some;
      bare = f.bare;
      open_behind = f.open_behind;
    },
    h.1.1,
  ),
)

abbrev AsWords : List ℕ → Type 0
AsWords line = (ws : List (List ℕ)) × Words line ws

-- another byte in front: of the first word, where no space is before that, or a word of its own
alone : (b : ℕ) (bs : List ℕ) → (b ≡ 32 → ⊥) → Open bs → FirstWord (b ∷ []) (b ∷ bs) bs
alone b bs d o = record {
  gap = 0;
  parted = refl;
  some = no_word;
  bare = with_byte 32 b [] d (λ c m. absurd (Memᴰ.not-nil m));
  open_behind = o;
}

more_byte : (b : ℕ) (bs : List ℕ) → (b ≡ 32 → ⊥) → (ws : List (List ℕ)) → Words bs ws → AsWords (b ∷ bs)
more_byte b bs d [] (zero, e) = ((b ∷ []) ∷ [], (bs, (alone b bs d (inl e), (zero, e))))
more_byte b bs d [] (suc n, e) = ((b ∷ []) ∷ [], (bs, (alone b bs d (inr (spaces n, e)), (suc n, e))))
more_byte b bs d (w ∷ ws) h = go h.1.0.gap h.1.0.parted
  where
    go : (gap : ℕ) → bs ≡ spaces gap ++ (w ++ h.0) → AsWords (b ∷ bs)
    go zero e = (
      (b ∷ w) ∷ ws,
      (
        h.0,
        (
          record {
            gap = 0;
            parted = ap {B = List ℕ} (λ (r : List ℕ). b ∷ r) e;
            some = no_word;
            bare = with_byte 32 b w d h.1.0.bare;
            open_behind = h.1.0.open_behind;
          },
          h.1.1,
        ),
      ),
    )
    go (suc n) e = ((b ∷ []) ∷ w ∷ ws, (bs, (alone b bs d (inr (spaces n ++ (w ++ h.0), e)), h)))

as_words : (line : List ℕ) → AsWords line
as_words [] = ([], (0, refl))
as_words (b ∷ bs) = let h = as_words bs in go h (eqb b 32) refl
  where
    go : AsWords bs → (t : Bool) → eqb b 32 ≡ t → AsWords (b ∷ bs)
    go h true e = subst (λ (c : ℕ). AsWords (c ∷ bs)) (sym (eqb-true b 32 e)) (h.0, more_space h.0 bs h.1)
    go h false e = more_byte b bs (eqb-false b 32 e) h.0 h.1

pub words_of_lem : (line : List ℕ) → Words line (words_of line)
words_of_lem line = let h = as_words line in subst (Words line) (sym (words_are h.0 line h.1)) h.1
