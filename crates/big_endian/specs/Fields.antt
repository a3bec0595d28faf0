-- Fields of n bytes in a list of bytes, high byte first (01, "Description, sheet, record").
--
--   digit n v       == the byte of v that has n bytes below it
--   bytes_of n v     == the n low bytes of v, the highest first
--   put n v at xs   == xs with the bytes of v written from place `at` on
--   get n a at xs   == the n bytes from place `at` on, read as digits to the base 256 behind those of a; a field is `get n 0 at xs`
--
-- The laws are in proofs/: FieldLaws (what a write leaves, what is read after it), ByteLists (a write as a list, a read written again).
use Rattle.std.specs.Prelude.{List, [], ◌∷◌, ℕ, zero, suc, ◌+◌, ◌*◌, ◌/◌, ◌%◌, ◌^◌, get_or}
use Rattle.std.proofs.lemmas.List.Edits.{sets}

abbrev pub digit : ℕ → ℕ → ℕ
digit n v = v / 2 ^ (8 * n) % 2 ^ 8

unfoldable pub bytes_of : ℕ → ℕ → List ℕ
bytes_of zero v = []
bytes_of (suc n) v = digit n v ∷ bytes_of n v

unfoldable pub put : ℕ → ℕ → ℕ → List ℕ → List ℕ
put n v at xs = sets xs at (bytes_of n v)

unfoldable pub get : ℕ → ℕ → ℕ → List ℕ → ℕ
get zero a at xs = a
get (suc n) a at xs = get n (a * 256 + get_or xs at 0) (suc at) xs
