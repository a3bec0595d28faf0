-- The front of a list of bytes, as a slice's patterns have it.
--
--   space_behind, space_other, space_none : spaces passed one by one, by the first byte
--   over, no_rest, feed, no_feed, rest      : whether the line ends there, and what follows it
use Prim.Native.Nat.{ℕ, ◌-◌, ◌<◌, ◌≤◌}
use mathlib.Core.Path.{◌≡◌, refl, ap, ◌∙◌}
use mathlib.Core.Bool.{true, false}
use mathlib.Core.List.{List, [], ◌∷◌}
use lib.ListN.{length, get_or, take, drop}
use borrow.Author.Tests.{ne_eqb}
use Rattle.std.proofs.lemmas.List.{take_rest}
use Rattle.numerals.proofs.Front.{no_byte, a_byte}
use Rattle.numerals.specs.Places.{is_feed, from, ends}
use Rattle.lines.specs.LineAt.{after_spaces}

pub space_behind : (bs : List ℕ) → 1 ≤ length bs → get_or bs 0 0 ≡ 32 → after_spaces (take (length bs - 1) (drop 1 bs)) ≡ after_spaces bs
unfolding from
space_behind [] h e = absurd (no_byte h)
space_behind (b ∷ bs) h e = ap after_spaces (take_rest (b ∷ bs) 1) ∙ rw e

pub space_other : (bs : List ℕ) → 1 ≤ length bs → (get_or bs 0 0 ≡ 32 → ⊥) → bs ≡ after_spaces bs
unfolding from
space_other [] h e = absurd (no_byte h)
space_other (b ∷ bs) h e = rw (ne_eqb b 32 e)

pub space_none : (bs : List ℕ) → length bs < 1 → bs ≡ after_spaces bs
unfolding from
space_none [] h = refl
space_none (b ∷ bs) h = absurd (a_byte (length bs) h)

pub over : (bs : List ℕ) → length bs < 1 → ends is_feed bs ≡ true
unfolding ends
over [] h = refl
over (b ∷ bs) h = absurd (a_byte (length bs) h)

pub no_rest : (bs : List ℕ) → length bs < 1 → bs ≡ drop 1 bs
no_rest [] h = refl
no_rest (b ∷ bs) h = absurd (a_byte (length bs) h)

pub feed : (bs : List ℕ) → 1 ≤ length bs → get_or bs 0 0 ≡ 10 → ends is_feed bs ≡ true
unfolding ends
feed [] h e = absurd (no_byte h)
feed (b ∷ bs) h e = rw e

pub no_feed : (bs : List ℕ) → 1 ≤ length bs → (get_or bs 0 0 ≡ 10 → ⊥) → ends is_feed bs ≡ false
unfolding ends
no_feed [] h e = absurd (no_byte h)
no_feed (b ∷ bs) h e = ne_eqb b 10 e

pub rest : (bs : List ℕ) → take (length bs - 1) (drop 1 bs) ≡ drop 1 bs
rest bs = take_rest bs 1
