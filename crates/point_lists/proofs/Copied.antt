-- A list of numbers copied over the front of another.
--
--   copied_front  : the front of the other is the list
use mathlib.Core.Path.{◌≡◌, refl, ap, ◌∙◌}
use mathlib.Core.List.{List, ◌++◌}
use Prim.Native.Nat.{◌+◌}
use lib.IntN.{ℤ}
use lib.ListN.{length, take, drop}
use lib.Seq.{paste, take-length, take_at}

pub copied_front : (l room : List ℤ) → take (length l) (paste room 0 l (length l)) ≡ l
copied_front l room =
    let rest = drop (0 + length l) room in
    ap (λ (m : List ℤ). take (length l) (m ++ rest)) (take-length l) ∙ take_at l rest (length l) refl
