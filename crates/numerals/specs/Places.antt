-- The front of a text's bytes, for the contracts of the functions that read from it.
--
--   up_to stop bs         == the bytes before the first at which stop holds
--   from stop bs         == the bytes from that one on
--   word, after_word      == the bytes up to a space, a line feed or the end, and the rest
--   starts f bs          == there is a first byte, and f holds of it
--   ends f bs            == there is none, or f holds of it
--   after_sign bs         == the bytes behind one plus or one minus that may stand at the front
use Rattle.std.specs.Prelude.{ℕ, Bool, true, false, not, ◌||◌, List, [], ◌∷◌, eqb}

abbrev pub is_byte : ℕ → ℕ → Bool
is_byte b a = eqb a b

abbrev pub is_space : ℕ → Bool
is_space b = is_byte 32 b

abbrev pub is_feed : ℕ → Bool
is_feed b = is_byte 10 b

abbrev pub no_space : ℕ → Bool
no_space b = not (is_space b)

abbrev pub ends_word : ℕ → Bool
ends_word b = is_space b || is_feed b

abbrev pub cut_before : Bool → ℕ → List ℕ → List ℕ
cut_before true b bs = []
cut_before false b bs = b ∷ bs

unfoldable pub up_to : (ℕ → Bool) → List ℕ → List ℕ
up_to stop [] = []
up_to stop (b ∷ bs) = cut_before (stop b) b (up_to stop bs)

abbrev pub keep_from : Bool → List ℕ → List ℕ → List ℕ
keep_from true here later = here
keep_from false here later = later

unfoldable pub from : (ℕ → Bool) → List ℕ → List ℕ
from stop [] = []
from stop (b ∷ bs) = keep_from (stop b) (b ∷ bs) (from stop bs)

abbrev pub word : List ℕ → List ℕ
word bs = up_to ends_word bs

abbrev pub after_word : List ℕ → List ℕ
after_word bs = from ends_word bs

unfoldable pub starts : (ℕ → Bool) → List ℕ → Bool
starts f [] = false
starts f (b ∷ bs) = f b

unfoldable pub ends : (ℕ → Bool) → List ℕ → Bool
ends f [] = true
ends f (b ∷ bs) = f b

abbrev pub is_sign : ℕ → Bool
is_sign b = is_byte 43 b || is_byte 45 b

unfoldable pub after_sign : List ℕ → List ℕ
after_sign [] = []
after_sign (b ∷ bs) = keep_from (is_sign b) bs (b ∷ bs)
