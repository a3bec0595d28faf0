-- Lists that are written from the front.
--
--   front_kept     : a list that stays behind its first k is its first k before what was behind
--   behind_stays   : what stays behind k places stays behind more
use mathlib.Core.Path.{◌≡◌, sym, ap, ◌∙◌}
use mathlib.Core.List.{List}
use Prim.Native.Nat.{ℕ, ◌+◌, ◌≤◌}
use lib.ListN.{length, take, drop, take-append-drop}
use lib.Seq.{length-take-le, drop-drop}
use Rattle.answers.specs.Lent.{front_put}

module _ {A : Type 0} (k : ℕ) (l l₀ : List A) where
  pub front_kept : k ≤ length l → drop k l ≡ drop k l₀ → l ≡ front_put (take k l) l₀
  front_kept h e = sym (take-append-drop k l) ∙ rw (length-take-le k l h, e)

  pub behind_stays : (m : ℕ) → drop k l ≡ drop k l₀ → drop (k + m) l ≡ drop (k + m) l₀
  behind_stays m e = sym (drop-drop m k l) ∙ ap (drop m) e ∙ drop-drop m k l₀
