-- What a line is, by document 01's own words ("Description, sheet, record"). Shown in proofs/Words.antt and proofs/Grammar.antt.
--
--   Without b w         == the byte b is not in w
--   AreLines text ls    == "Lines end with byte 10 or at the end of the bytes"
--   spaces n            == n spaces
--   IsBlank line        == "a line of no bytes or only spaces (32)"
--   IsDigits ds v       == 1 to 4 decimal digits of the value v
--   IsNumber w z        == "one plus or one minus, then 1 to 4 digits as before" (02, item 1); "leading zeros and −0 are allowed"
--   IsPointLine line p  == "spaces or none, x, one or more spaces, y, spaces or none"
--   LinesAreThese       == these are the lines; a line is read as blank, or as the point p, exactly where it is one, and as a fault where it is neither
use Rattle.std.specs.Prelude.{◌≡◌, ◌↔◌, ℕ, suc, ◌≤◌, ℤ, pos, neg_ℤ, length, replicate}
use mathlib.Core.List.{List, [], ◌∷◌, ◌++◌, Memᴰ}
use Rattle.geometry.specs.declared.Point.{Point}
use Rattle.lines.specs.Line.{blank, point, fault, lines_of, line_of}
use Rattle.numerals.specs.Numeral.{decimal}

abbrev pub Without : ℕ → List ℕ → Type 0
Without sep w = (b : ℕ) → Memᴰ b w → b ≡ sep → ⊥

pub data AreLines : List ℕ → List (List ℕ) → Type 0 where
  no_bytes : AreLines [] []
  at_the_end : {b : ℕ} {l : List ℕ} → Without 10 (b ∷ l) → AreLines (b ∷ l) ((b ∷ l) ∷ [])
  ended : {l rest : List ℕ} {ls : List (List ℕ)} → Without 10 l → AreLines rest ls → AreLines (l ++ 10 ∷ rest) (l ∷ ls)

abbrev pub spaces : ℕ → List ℕ
spaces n = replicate n 32

pub record IsBlank (line : List ℕ) : Type 0 where
  pub many : ℕ
  pub only : line ≡ spaces many

pub record IsDigits (ds : List ℕ) (v : ℕ) : Type 0 where
  pub some : 1 ≤ length ds
  pub most : length ds ≤ 4
  pub digit : (b : ℕ) → Memᴰ b ds → (48 ≤ b) × (b ≤ 57)
  pub value : v ≡ decimal 0 ds

pub data IsNumber : List ℕ → ℤ → Type 0 where
  plain : {ds : List ℕ} {v : ℕ} → IsDigits ds v → IsNumber ds (pos v)
  -- byte 43 is the plus, byte 45 the minus
  plus : {ds : List ℕ} {v : ℕ} → IsDigits ds v → IsNumber (43 ∷ ds) (pos v)
  minus : {ds : List ℕ} {v : ℕ} → IsDigits ds v → IsNumber (45 ∷ ds) (neg_ℤ (pos v))

pub record IsPointLine (line : List ℕ) (p : Point) : Type 0 where
  pub before : ℕ
  pub between : ℕ
  pub behind : ℕ
  pub x : List ℕ
  pub y : List ℕ
  pub parted : line ≡ spaces before ++ (x ++ (spaces (suc between) ++ (y ++ spaces behind)))
  pub x_number : IsNumber x p.x
  pub y_number : IsNumber y p.y

pub record LinesAreThese : Type 0 where
  pub lines : (text : List ℕ) (ls : List (List ℕ)) → (lines_of text ≡ ls) ↔ AreLines text ls
  pub blanks : (line : List ℕ) → (line_of line ≡ blank) ↔ IsBlank line
  pub points : (line : List ℕ) (p : Point) → (line_of line ≡ point p) ↔ IsPointLine line p
  pub faults : (line : List ℕ) → (line_of line ≡ fault) ↔ ((IsBlank line → ⊥) × ((p : Point) → IsPointLine line p → ⊥))
