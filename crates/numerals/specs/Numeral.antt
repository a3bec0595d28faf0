-- Numbers in a description (01: "A number is an optional minus and 1 to 4 decimal digits; leading zeros and −0 are allowed"; 02, item 1: "may begin
-- with one plus or one minus, then 1 to 4 digits as before").
--
--   digits ds    == the value of 1 to 4 decimal digits, and none for any other bytes
--   numeral w    == the value of a number: one plus, one minus or no sign, then 1 to 4 decimal digits
use Rattle.std.specs.Prelude.{ℕ, ◌+◌, ◌-◌, ◌*◌, Bool, true, false, ◌&&◌, List, [], ◌∷◌, eqb, leb, ℤ, pos, neg_ℤ, length}
use Rattle.std.proofs.Math.Option.{Option, none, some, map}

abbrev pub is_digit : ℕ → Bool
is_digit b = leb 48 b && leb b 57

unfoldable pub all_digits : List ℕ → Bool
all_digits [] = true
all_digits (d ∷ ds) = is_digit d && all_digits ds

-- the value of the digits ds behind digits of the value v
unfoldable pub decimal : ℕ → List ℕ → ℕ
decimal v [] = v
decimal v (d ∷ ds) = decimal (10 * v + (d - 48)) ds

abbrev pub some_if : {A : Type 0} → Bool → A → Option A
some_if true a = some a
some_if false a = none

-- leading zeros are allowed
unfoldable pub digits : List ℕ → Option ℕ
digits ds = some_if (leb 1 (length ds) && (leb (length ds) 4 && all_digits ds)) (decimal 0 ds)

-- "one plus or one minus, then 1 to 4 digits": byte 43 is the plus, byte 45 the minus; +0 and −0 are 0
unfoldable pub numeral : List ℕ → Option ℤ
numeral [] = none
numeral (b ∷ bs) = by_sign (eqb b 43) (eqb b 45)
  where
    by_sign : Bool → Bool → Option ℤ
    by_sign true minus = map pos (digits bs)
    by_sign false true = map (λ (v : ℕ). neg_ℤ (pos v)) (digits bs)
    by_sign false false = map pos (digits (b ∷ bs))
