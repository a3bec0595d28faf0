-- Fields of whole numbers, one behind another.
--
--   Field              == a width in bytes and a number
--   joined fs          == the fields' bytes, one field behind another
--   total fs           == how many bytes they have
--   Fit fs             : each number is one of its width
--   ReadAt at fs xs    : from place `at` of xs on, the fields' numbers are read
--   joined_read        : joined fields are read at their places, whatever stands before them
--   read_joined        : fields that are read at their places, joined, are the bytes that stand there
use mathlib.Core.Path.{◌≡◌, refl, sym, ap, ap₂, ◌∙◌, subst, subst₂}
use mathlib.Core.List.{List, [], ◌∷◌, ◌++◌, append_assoc}
use Prim.Native.Nat.{ℕ, ◌+◌, ◌*◌, ◌^◌, ◌≤◌, ◌<◌}
use native.Mathlib.Nat.{add_assoc}
use native.Mathlib.Omega.{arith}
use lib.ListN.{length, get_or, take, drop, length-append}
use lib.Seq.{take-add, drop-drop}
use Rattle.big_endian.specs.Fields.{bytes_of, get}
use Rattle.big_endian.proofs.ByteLists.{bytes_of-length, get-bytes, bytes_of-get}

pub record Field : Type 0 where
  pub width : ℕ
  pub number : ℕ

abbrev pub joined : List Field → List ℕ
joined [] = []
joined (f ∷ fs) = bytes_of f.width f.number ++ joined fs

abbrev pub total : List Field → ℕ
total [] = 0
total (f ∷ fs) = f.width + total fs

abbrev pub Fit : List Field → Type 0
Fit [] = Unit {0}
Fit (f ∷ fs) = (f.number < 2 ^ (8 * f.width)) × Fit fs

abbrev pub ReadAt : ℕ → List Field → List ℕ → Type 0
ReadAt at [] xs = Unit {0}
ReadAt at (f ∷ fs) xs = (get f.width 0 at xs ≡ f.number) × ReadAt (at + f.width) fs xs

pub joined_read : (before : List ℕ) (fs : List Field) → Fit fs → ReadAt (length before) fs (before ++ joined fs)
joined_read before [] fit = tt
joined_read before (f ∷ fs) fit =
    let field = bytes_of f.width f.number in
    let shape : before ++ field ++ joined fs ≡ before ++ (field ++ joined fs) = append_assoc before field (joined fs) in
    let behind : length (before ++ field) ≡ length before + f.width =
    length-append before field ∙ ap (λ (n : ℕ). length before + n) (bytes_of-length f.width f.number) in (
      ap (get f.width 0 (length before)) (sym shape) ∙ get-bytes f.width f.number before (joined fs) fit.0,
      subst₂ (λ (n : ℕ) (xs : List ℕ). ReadAt n fs xs) behind shape (joined_read (before ++ field) fs fit.1),
    )

module _ (xs : List ℕ) (bytes : (k : ℕ) → get_or xs k 0 < 256) where
  pub read_joined : (at : ℕ) (fs : List Field) → ReadAt at fs xs → at + total fs ≤ length xs → joined fs ≡ take (total fs) (drop at xs)
  read_joined at [] r h = refl
  read_joined at (f ∷ fs) r h =
      ap₂ ◌++◌
      (ap (bytes_of f.width) (sym r.0) ∙ bytes_of-get xs bytes f.width 0 at (omega arith))
      (read_joined (at + f.width) fs r.1 (subst (λ (n : ℕ). n ≤ length xs) (sym (add_assoc at f.width (total fs))) h)
      ∙ ap (take (total fs)) (sym (drop-drop f.width at xs)))
      ∙ sym (take-add f.width (total fs) (drop at xs))
