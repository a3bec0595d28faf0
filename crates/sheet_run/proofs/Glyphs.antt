-- The glyphs of a sheet, one at a time.
--
--   letters_next, letters_done : the glyphs from i on
use mathlib.Core.Path.{◌≡◌, ap}
use mathlib.Core.List.{List, [], ◌∷◌, map}
use Prim.Native.Nat.{ℕ, ◌+◌, ◌-◌, ◌≤◌, ◌<◌}
use Rattle.sheet.specs.Sheet.{part_at}
use Rattle.sheet.proofs.Parts.{parts_next, parts_done}
use Rattle.letter.specs.Letter.{letter_of}
use Rattle.sheet_run.specs.Running.{letters}

module _ (s : List ℕ) (i n : ℕ) where
  pub letters_next : i < n → letters s i (n - i) ≡ letter_of (part_at s i) ∷ letters s (i + 1) (n - (i + 1))
  unfolding letters
  letters_next h = ap (map letter_of) (parts_next s i n h)

  pub letters_done : n ≤ i → letters s i (n - i) ≡ []
  unfolding letters
  letters_done h = ap (map letter_of) (parts_done s i n h)
