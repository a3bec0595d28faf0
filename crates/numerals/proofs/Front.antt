-- The front of a list of bytes.
--
--   from_here, up_to_here, ends_first : where a byte stops, or nothing is left
--   from_on, up_to_on                 : where it does not
--   minus_there, other_there, none_there : whether a minus is there, by the first byte
--   past_minus, past_plus, past_other, past_none : what follows one sign
--   end_space, end_feed, end_other, end_none : whether a word ends there
use Prim.Native.Nat.{ℕ, suc, ◌-◌, ◌<◌, ◌≤◌}
use mathlib.Core.Path.{◌≡◌, refl, sym, ◌∙◌}
use mathlib.Core.Bool.{Bool, true, false}
use mathlib.Core.List.{List, [], ◌∷◌}
use native.Mathlib.Omega.{arith}
use lib.ListN.{length, get_or, take, drop}
use borrow.Author.Tests.{ne_eqb}
use Rattle.std.proofs.lemmas.List.{take_rest}
use Rattle.numerals.specs.Places.{is_byte, ends_word, up_to, from, starts, ends, after_sign}

-- ---- up to a byte, and from it on

pub from_here : (stop : ℕ → Bool) (bs : List ℕ) → ends stop bs ≡ true → from stop bs ≡ bs
unfolding from ends
from_here stop [] h = refl
from_here stop (b ∷ bs) h = rw h

pub up_to_here : (stop : ℕ → Bool) (bs : List ℕ) → ends stop bs ≡ true → up_to stop bs ≡ []
unfolding up_to ends
up_to_here stop [] h = refl
up_to_here stop (b ∷ bs) h = rw h

pub from_on : (stop : ℕ → Bool) (b : ℕ) (bs : List ℕ) → stop b ≡ false → from stop (b ∷ bs) ≡ from stop bs
unfolding from
from_on stop b bs h = rw h

pub up_to_on : (stop : ℕ → Bool) (b : ℕ) (bs : List ℕ) → stop b ≡ false → up_to stop (b ∷ bs) ≡ b ∷ up_to stop bs
unfolding up_to
up_to_on stop b bs h = rw h

pub ends_first : (stop : ℕ → Bool) (b : ℕ) (bs : List ℕ) → ends stop (b ∷ bs) ≡ stop b
unfolding ends
ends_first stop b bs = refl

-- ---- a slice's patterns

pub no_byte : 1 ≤ 0 → ⊥
no_byte h = omega arith

pub a_byte : (n : ℕ) → suc n < 1 → ⊥
a_byte n h = omega arith

pub minus_there : (bs : List ℕ) → 1 ≤ length bs → get_or bs 0 0 ≡ 45 → true ≡ starts (is_byte 45) bs
unfolding starts
minus_there [] h e = absurd (no_byte h)
minus_there (b ∷ bs) h e = rw e

pub other_there : (bs : List ℕ) → 1 ≤ length bs → (get_or bs 0 0 ≡ 45 → ⊥) → false ≡ starts (is_byte 45) bs
unfolding starts
other_there [] h e = absurd (no_byte h)
other_there (b ∷ bs) h e = sym (ne_eqb b 45 e)

pub none_there : (bs : List ℕ) → length bs < 1 → false ≡ starts (is_byte 45) bs
unfolding starts
none_there [] h = refl
none_there (b ∷ bs) h = absurd (a_byte (length bs) h)

pub past_minus : (bs : List ℕ) → 1 ≤ length bs → get_or bs 0 0 ≡ 45 → take (length bs - 1) (drop 1 bs) ≡ after_sign bs
unfolding after_sign
past_minus [] h e = absurd (no_byte h)
past_minus (b ∷ bs) h e = take_rest (b ∷ bs) 1 ∙ rw e

pub past_plus : (bs : List ℕ) → 1 ≤ length bs → get_or bs 0 0 ≡ 43 → take (length bs - 1) (drop 1 bs) ≡ after_sign bs
unfolding after_sign
past_plus [] h e = absurd (no_byte h)
past_plus (b ∷ bs) h e = take_rest (b ∷ bs) 1 ∙ rw e

pub past_other : (bs : List ℕ) → 1 ≤ length bs → (get_or bs 0 0 ≡ 45 → ⊥) → (get_or bs 0 0 ≡ 43 → ⊥) → bs ≡ after_sign bs
unfolding after_sign
past_other [] h e f = absurd (no_byte h)
past_other (b ∷ bs) h e f = rw (ne_eqb b 45 e, ne_eqb b 43 f)

pub past_none : (bs : List ℕ) → length bs < 1 → bs ≡ after_sign bs
unfolding after_sign
past_none [] h = refl
past_none (b ∷ bs) h = absurd (a_byte (length bs) h)

pub end_none : (bs : List ℕ) → length bs < 1 → true ≡ ends ends_word bs
unfolding ends
end_none [] h = refl
end_none (b ∷ bs) h = absurd (a_byte (length bs) h)

pub end_space : (bs : List ℕ) → 1 ≤ length bs → get_or bs 0 0 ≡ 32 → true ≡ ends ends_word bs
unfolding ends
end_space [] h e = absurd (no_byte h)
end_space (b ∷ bs) h e = rw e

pub end_feed : (bs : List ℕ) → 1 ≤ length bs → get_or bs 0 0 ≡ 10 → true ≡ ends ends_word bs
unfolding ends
end_feed [] h e = absurd (no_byte h)
end_feed (b ∷ bs) h e = rw e

pub end_other : (bs : List ℕ) → 1 ≤ length bs → (get_or bs 0 0 ≡ 32 → ⊥) → (get_or bs 0 0 ≡ 10 → ⊥) → false ≡ ends ends_word bs
unfolding ends
end_other [] h e f = absurd (no_byte h)
end_other (b ∷ bs) h e f = rw (ne_eqb b 32 e, ne_eqb b 10 f)
