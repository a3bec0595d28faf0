-- Lines are read as document 01 says (specs.Grammar.antt).
--
--   number_known, number_read  : bytes are read as a number exactly where they are one
--   number_some, number-bare   : a number is some bytes without a space
--   lines_are_these            : lines are read as blank, as a point or as a fault exactly where they are one
use mathlib.Core.Path.{◌≡◌, refl, sym, ap, ap₂, ◌∙◌, subst}
use mathlib.Core.Logic.{◌⊎◌, inl, inr}
use mathlib.Core.Bool.{Bool, true, false, ◌&&◌}
use mathlib.Core.List.Memᴰ
use mathlib.Core.List.{List, [], ◌∷◌, ◌++◌, Memᴰ}
use mathlib.Core.Option.{Option, none, some, map}
use Prim.Native.Nat.{ℕ, zero, suc, ◌≤◌}
use native.Mathlib.Omega.{arith}
use borrow.Author.Tests.{eqb-true, ne_eqb, leb-true, le-leb}
use lib.Dec.{eqb, leb}
use lib.IntN.{ℤ, pos, neg_ℤ}
use lib.ListN.{length}
use Rattle.integers.proofs.Tests.{first, rest, both}
use Rattle.geometry.specs.declared.Point.{Point}
use Rattle.numerals.specs.Numeral.{is_digit, all_digits, decimal, some_if, digits, numeral}
use Rattle.lines.specs.Line.{Line, blank, point, fault, point_of, line_of_words, line_of, words_of}
use Rattle.lines.proofs.OneKind.{blank_fault, blank_point, point_fault, point_same}
use Rattle.grammar.specs.Grammar.{Without, spaces, IsBlank, IsDigits, IsNumber, plain, plus, minus, IsPointLine, LinesAreThese}
use Rattle.grammar.proofs.Words.{no_word, with_byte, Open, FirstWord, Words, words_are, words_of_lem, lines_known, lines_read}

-- ---- digits

none_some : {A : Type 0} {a : A} → none ≡ some a → ⊥
none_some e = let z : ◌≡◌ {A = ℕ} 0 1 = cc in omega arith

some_if_lem : {A : Type 0} (b : Bool) (a v : A) → some_if b a ≡ some v → (b ≡ true) × (v ≡ a)
some_if_lem true a v e = (refl, cc)
some_if_lem false a v e = absurd (none_some e)

is_digit_lem : (b : ℕ) → is_digit b ≡ true → (48 ≤ b) × (b ≤ 57)
is_digit_lem b h = (leb-true 48 b (first (leb 48 b) (leb b 57) h), leb-true b 57 (rest (leb 48 b) (leb b 57) h))

all_digits_lem : (ds : List ℕ) → all_digits ds ≡ true → (b : ℕ) → Memᴰ b ds → (48 ≤ b) × (b ≤ 57)
unfolding all_digits
all_digits_lem [] h b m = absurd (Memᴰ.not-nil m)
all_digits_lem (d ∷ ds) h b m = go (all_digits_lem ds (rest (is_digit d) (all_digits ds) h) b) (Memᴰ.cases_cons m)
  where
    go : (Memᴰ b ds → (48 ≤ b) × (b ≤ 57)) → (b ≡ d) ⊎ Memᴰ b ds → (48 ≤ b) × (b ≤ 57)
    go f (inl e) = subst (λ (c : ℕ). (48 ≤ c) × (c ≤ 57)) (sym e) (is_digit_lem d (first (is_digit d) (all_digits ds) h))
    go f (inr k) = f k

digits_all : (ds : List ℕ) → ((b : ℕ) → Memᴰ b ds → (48 ≤ b) × (b ≤ 57)) → all_digits ds ≡ true
unfolding all_digits
digits_all [] h = refl
digits_all (d ∷ ds) h =
    let k = h d (Memᴰ.head refl) in
    both (both (le-leb 48 d k.0) (le-leb d 57 k.1)) (digits_all ds (λ b m. h b (Memᴰ.tail m)))

digits_known : (ds : List ℕ) (v : ℕ) → digits ds ≡ some v → IsDigits ds v
unfolding digits
digits_known ds v e =
    let n = length ds in
    let k = some_if_lem (leb 1 n && (leb n 4 && all_digits ds)) (decimal 0 ds) v e in
    let l = rest (leb 1 n) (leb n 4 && all_digits ds) k.0 in
    record {
      some = leb-true 1 n (first (leb 1 n) (leb n 4 && all_digits ds) k.0);
      most = leb-true n 4 (first (leb n 4) (all_digits ds) l);
      digit = all_digits_lem ds (rest (leb n 4) (all_digits ds) l);
      value = k.1;
    }

digits_read : (ds : List ℕ) (v : ℕ) → IsDigits ds v → digits ds ≡ some v
unfolding digits
digits_read ds v h =
    let n = length ds in
    ap (λ (b : Bool). some_if b (decimal 0 ds)) (both (le-leb 1 n h.some) (both (le-leb n 4 h.most) (digits_all ds h.digit)))
    ∙ ap some (sym h.value)

-- ---- numbers

map_some : (f : ℕ → ℤ) (o : Option ℕ) (z : ℤ) → map f o ≡ some z → (v : ℕ) × ((o ≡ some v) × (z ≡ f v))
map_some f none z e = absurd (none_some e)
map_some f (some v) z e = (v, (refl, cc))

read_plus : (bs : List ℕ) → numeral (43 ∷ bs) ≡ map pos (digits bs)
unfolding numeral
read_plus bs = refl

read_minus : (bs : List ℕ) → numeral (45 ∷ bs) ≡ map (λ (v : ℕ). neg_ℤ (pos v)) (digits bs)
unfolding numeral
read_minus bs = refl

read_plain : (b : ℕ) (bs : List ℕ) → eqb b 43 ≡ false → eqb b 45 ≡ false → numeral (b ∷ bs) ≡ map pos (digits (b ∷ bs))
unfolding numeral
read_plain b bs p m = rw (p, m)

pub number_known : (w : List ℕ) (z : ℤ) → numeral w ≡ some z → IsNumber w z
unfolding numeral
number_known [] z e = absurd (none_some e)
number_known (b ∷ bs) z e = go (eqb b 43) (eqb b 45) refl refl
  where
    digits_are : (ds : List ℕ) (f : ℕ → ℤ) → numeral (b ∷ bs) ≡ map f (digits ds) → (v : ℕ) × (IsDigits ds v × (z ≡ f v))
    digits_are ds f h = let k = map_some f (digits ds) z (sym h ∙ e) in (k.0, (digits_known ds k.0 k.1.0, k.1.1))

    behind : (sign : ℕ) (f : ℕ → ℤ) → b ≡ sign → numeral (sign ∷ bs) ≡ map f (digits bs)
        → ((v : ℕ) → IsDigits bs v → IsNumber (sign ∷ bs) (f v)) → IsNumber (b ∷ bs) z
    behind sign f same h number =
        let k = digits_are bs f (ap (λ (c : ℕ). numeral (c ∷ bs)) same ∙ h) in
        subst (λ (c : ℕ). IsNumber (c ∷ bs) z) (sym same) (subst (IsNumber (sign ∷ bs)) (sym k.1.1) (number k.0 k.1.0))

    go : (p m : Bool) → eqb b 43 ≡ p → eqb b 45 ≡ m → IsNumber (b ∷ bs) z
    go true m p q = behind 43 pos (eqb-true b 43 p) (read_plus bs) (λ v h. plus h)
    go false true p q = behind 45 (λ (v : ℕ). neg_ℤ (pos v)) (eqb-true b 45 q) (read_minus bs) (λ v h. minus h)
    go false false p q = let k = digits_are (b ∷ bs) pos (read_plain b bs p q) in subst (IsNumber (b ∷ bs)) (sym k.1.1) (plain k.1.0)

plain_read : (ds : List ℕ) (v : ℕ) → IsDigits ds v → numeral ds ≡ some (pos v)
plain_read [] v h = absurd (none h.some)
  where
    none : 1 ≤ 0 → ⊥
    none k = omega arith
plain_read (b ∷ bs) v h =
    let low = (h.digit b (Memᴰ.head refl)).0 in
    read_plain b bs (ne_eqb b 43 (λ e. omega (arith, low))) (ne_eqb b 45 (λ e. omega (arith, low))) ∙ ap (map pos) (digits_read (b ∷ bs) v h)

pub number_read : (w : List ℕ) (z : ℤ) → IsNumber w z → numeral w ≡ some z
number_read w z (plain {ds} {v} h) = plain_read ds v h
number_read w z (plus {ds} {v} h) = read_plus ds ∙ ap (map pos) (digits_read ds v h)
number_read w z (minus {ds} {v} h) = read_minus ds ∙ ap (map (λ (n : ℕ). neg_ℤ (pos n))) (digits_read ds v h)

digits-bare : (ds : List ℕ) (v : ℕ) → IsDigits ds v → Without 32 ds
digits-bare ds v h b m e = let k = (h.digit b m).0 in low b k e
  where
    low : (b : ℕ) → 48 ≤ b → b ≡ 32 → ⊥
    low b k e = omega arith

digits_some : (ds : List ℕ) (v : ℕ) → IsDigits ds v → ds ≡ [] → ⊥
digits_some [] v h e = none h.some
  where
    none : 1 ≤ 0 → ⊥
    none k = omega arith
digits_some (b ∷ ds) v h e = let z : ◌≡◌ {A = ℕ} 0 1 = cc in omega arith

pub number_some : (w : List ℕ) (z : ℤ) → IsNumber w z → w ≡ [] → ⊥
number_some w z (plain {ds} {v} h) e = digits_some ds v h e
number_some w z (plus h) e = no_word e
number_some w z (minus h) e = no_word e

pub number-bare : (w : List ℕ) (z : ℤ) → IsNumber w z → Without 32 w
number-bare w z (plain {ds} {v} h) = digits-bare ds v h
number-bare w z (plus {ds} {v} h) = with_byte 32 43 ds (λ e. omega arith) (digits-bare ds v h)
number-bare w z (minus {ds} {v} h) = with_byte 32 45 ds (λ e. omega arith) (digits-bare ds v h)

-- ---- lines

pair_not_blank : (x y : Option ℤ) → point_of x y ≡ blank → ⊥
pair_not_blank (some x) (some y) e = blank_point _ (sym e)
pair_not_blank (some x) none e = blank_fault (sym e)
pair_not_blank none y e = blank_fault (sym e)

no_words : (ws : List (List ℕ)) → line_of_words ws ≡ blank → ws ≡ []
unfolding line_of_words
no_words [] e = refl
no_words (x ∷ []) e = absurd (blank_fault (sym e))
no_words (x ∷ y ∷ []) e = absurd (pair_not_blank (numeral x) (numeral y) e)
no_words (x ∷ y ∷ z ∷ ws) e = absurd (blank_fault (sym e))

record Pair (ws : List (List ℕ)) (p : Point) : Type 0 where
  x : List ℕ
  y : List ℕ
  two : ws ≡ x ∷ y ∷ []
  x_read : numeral x ≡ some p.x
  y_read : numeral y ≡ some p.y

pair_of : (a b : Option ℤ) (p : Point) → point_of a b ≡ point p → (a ≡ some p.x) × (b ≡ some p.y)
pair_of (some x) (some y) p e =
    let same = point_same _ p e in
    (ap (λ (q : Point). some q.x) same, ap (λ (q : Point). some q.y) same)
pair_of (some x) none p e = absurd (point_fault p (sym e))
pair_of none y p e = absurd (point_fault p (sym e))

two-words : (ws : List (List ℕ)) (p : Point) → line_of_words ws ≡ point p → Pair ws p
unfolding line_of_words
two-words [] p e = absurd (blank_point p e)
two-words (x ∷ []) p e = absurd (point_fault p (sym e))
two-words (x ∷ y ∷ []) p e = let k = pair_of (numeral x) (numeral y) p e in record { x = x; y = y; two = refl; x_read = k.0; y_read = k.1 }
two-words (x ∷ y ∷ z ∷ ws) p e = absurd (point_fault p (sym e))

-- two words do not touch
touching : (y r : List ℕ) → (y ≡ [] → ⊥) → Without 32 y → Open (y ++ r) → ⊥
touching [] r h k o = h refl
touching (b ∷ y) r h k (inl e) = no_word e
touching (b ∷ y) r h k (inr (s, e)) = let same : b ≡ 32 = cc in k b (Memᴰ.head refl) same

-- ---- a line, by its words

blank_known : (line : List ℕ) → line_of line ≡ blank → IsBlank line
blank_known line e = let w = subst (Words line) (no_words (words_of line) e) (words_of_lem line) in record { many = w.0; only = w.1 }

blank_read : (line : List ℕ) → IsBlank line → line_of line ≡ blank
unfolding line_of_words
blank_read line b = ap line_of_words (words_are [] line (b.many, b.only))

point_known : (line : List ℕ) (p : Point) → line_of line ≡ point p → IsPointLine line p
point_known line p e = go g.gap g.parted
  where
    k : Pair (words_of line) p
    k = two-words (words_of line) p e

    w : Words line (k.x ∷ k.y ∷ [])
    w = subst (Words line) k.two (words_of_lem line)

    f : FirstWord k.x line w.0
    f = w.1.0

    g : FirstWord k.y w.0 w.1.1.0
    g = w.1.1.1.0

    go : (gap : ℕ) → w.0 ≡ spaces gap ++ (k.y ++ w.1.1.0) → IsPointLine line p
    go zero h = absurd (touching k.y w.1.1.0 g.some g.bare (subst Open h f.open_behind))
    go (suc n) h = record {
      before = f.gap;
      between = n;
      behind = w.1.1.1.1.0;
      x = k.x;
      y = k.y;
      parted =
          f.parted
          ∙ ap (λ (r : List ℕ). spaces f.gap ++ (k.x ++ r)) (h ∙ ap (λ (r : List ℕ). spaces (suc n) ++ (k.y ++ r)) w.1.1.1.1.1);
      x_number = number_known k.x p.x k.x_read;
      y_number = number_known k.y p.y k.y_read;
    }

point_read : (line : List ℕ) (p : Point) → IsPointLine line p → line_of line ≡ point p
unfolding line_of_words
point_read line p h =
    ap line_of_words (words_are (h.x ∷ h.y ∷ []) line words)
    ∙ ap₂ point_of (number_read h.x p.x h.x_number) (number_read h.y p.y h.y_number)
  where
    closed : (n : ℕ) → Open (spaces n)
    closed zero = inl refl
    closed (suc n) = inr (spaces n, refl)

    words : Words line (h.x ∷ h.y ∷ [])
    words = (
      spaces (suc h.between) ++ (h.y ++ spaces h.behind),
      (
        record {
          gap = h.before;
          parted = h.parted;
          some = number_some h.x p.x h.x_number;
          bare = number-bare h.x p.x h.x_number;
          open_behind = inr (spaces h.between ++ (h.y ++ spaces h.behind), refl);
        },
        (
          spaces h.behind,
          (
            record {
              gap = suc h.between;
              parted = refl;
              some = number_some h.y p.y h.y_number;
              bare = number-bare h.y p.y h.y_number;
              open_behind = closed h.behind;
            },
            (h.behind, refl),
          ),
        ),
      ),
    )

fault_read : (line : List ℕ) → (IsBlank line → ⊥) → ((p : Point) → IsPointLine line p → ⊥) → line_of line ≡ fault
fault_read line b h = go (line_of line) refl
  where
    go : (i : Line) → line_of line ≡ i → i ≡ fault
    go blank e = absurd (b (blank_known line e))
    go (point p) e = absurd (h p (point_known line p e))
    go fault e = refl

pub lines_are_these : LinesAreThese
lines_are_these = record {
  lines = λ text ls. (lines_known text ls, lines_read text ls);
  blanks = λ line. (blank_known line, blank_read line);
  points = λ line p. (point_known line p, point_read line p);
  faults = λ line. (
    λ e. ((λ b. blank_fault (sym (blank_read line b) ∙ e)), (λ p h. point_fault p (sym (point_read line p h) ∙ e))),
    λ h. fault_read line h.0 h.1,
  );
}
