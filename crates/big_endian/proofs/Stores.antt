-- Runs of stores, one behind another.
--
--   sets_append   : a list is stored as its first part and, behind it, its second
--   put_first     : a field that is written is its bytes stored
--   put_next      : a field written behind stored bytes: its bytes are stored behind them
use mathlib.Core.Path.{◌≡◌, refl, sym, ap, ◌∙◌}
use mathlib.Core.List.{List, [], ◌∷◌, ◌++◌}
use Prim.Native.Nat.{ℕ, suc, ◌+◌}
use native.Mathlib.Nat.{add-zero, add-suc, suc-add}
use lib.ListN.{length, set}
use lib.Seq.{sets}
use Rattle.big_endian.specs.Fields.{bytes_of, put}

pub sets_append : (l : List ℕ) (i : ℕ) (us vs : List ℕ) (n : ℕ) → length us ≡ n → sets l i (us ++ vs) ≡ sets (sets l i us) (i + n) vs
sets_append l i us vs n e = go l i us ∙ ap (λ (k : ℕ). sets (sets l i us) (i + k) vs) e
  where
    go : (l : List ℕ) (i : ℕ) (us : List ℕ) → sets l i (us ++ vs) ≡ sets (sets l i us) (i + length us) vs
    go l i [] = ap (λ (k : ℕ). sets l k vs) (sym (add-zero i))
    go l i (u ∷ us) =
        go (set l i u) (suc i) us
        ∙ ap (λ (k : ℕ). sets (sets (set l i u) (suc i) us) k vs) (suc-add i (length us) ∙ sym (add-suc i (length us)))

pub put_first : (n v : ℕ) (l : List ℕ) (i : ℕ) → put n v i l ≡ sets l i (bytes_of n v)
unfolding put
put_first n v l i = refl

pub put_next : (n v : ℕ) (l : List ℕ) (i : ℕ) (us : List ℕ) (k : ℕ) → length us ≡ k → put n v (i + k) (sets l i us) ≡ sets l i (us ++ bytes_of n v)
unfolding put
put_next n v l i us k e = sym (sets_append l i us (bytes_of n v) k e)
