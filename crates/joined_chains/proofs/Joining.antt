-- Two chains, and the list with their points in front.
--
--   points_even   : a list of even length has two numbers for each of its points
--   inner_numbers : the points of the numbers without the first two and the last two
--   laid_numbers  : a list with the numbers of two lists in front and zeros behind them
use mathlib.Core.Path.{◌≡◌, refl, sym, ap, ◌∙◌}
use mathlib.Core.List.{List, [], ◌∷◌, ◌++◌, append_assoc}
use Prim.Native.Nat.{ℕ, suc, ◌+◌, ◌*◌, ◌-◌, ◌%◌, ◌≤◌}
use native.Mathlib.Omega.{arith}
use lib.IntN.{ℤ, pos}
use lib.ListN.{length, take, drop, replicate, length-append}
use Rattle.geometry.specs.declared.Point.{Point}
use Rattle.geometry.specs.Points.{points, flat}
use Rattle.geometry.proofs.PointLists.{flat_append, length-flat}
use Rattle.hull.specs.Chains.{but_last, inner}
use Rattle.joined_chains.specs.Laid.{laid}

pub flat_points : (l : List ℤ) → length l % 2 ≡ 0 → flat (points l) ≡ l
unfolding points flat
flat_points [] h = refl
flat_points (x ∷ []) h = absurd (omega (arith, h))
flat_points (x ∷ y ∷ l) h = ap {B = List ℤ} (λ r. x ∷ y ∷ r) (flat_points l (omega (arith, h)))

pub points_even : (l : List ℤ) → length l % 2 ≡ 0 → 2 * length (points l) ≡ length l
points_even l h = sym (length-flat (points l)) ∙ ap length (flat_points l h)

but_last_numbers : (l : List ℤ) → length l % 2 ≡ 0 → points (take (length l - 2) l) ≡ but_last (points l)
unfolding points but_last
but_last_numbers [] h = refl
but_last_numbers (x ∷ []) h = refl
but_last_numbers (x ∷ y ∷ []) h = refl
but_last_numbers (x ∷ y ∷ z ∷ []) h = absurd (omega (arith, h))
but_last_numbers (x ∷ y ∷ z ∷ w ∷ l) h =
    let less : suc (suc (suc (suc (length l)))) - 2 ≡ suc (suc (suc (suc (length l)) - 2)) = omega arith in
    rw less (ap {B = List Point} (λ Q. record { x = x; y = y } ∷ Q) (but_last_numbers (z ∷ w ∷ l) (omega (arith, h))))

pub inner_numbers : (l : List ℤ) → length l % 2 ≡ 0 → points (take (length l - 2 - 2) (drop 2 l)) ≡ inner (points l)
unfolding points inner
inner_numbers [] h = refl
inner_numbers (x ∷ []) h = refl
inner_numbers (x ∷ y ∷ l) h =
    let less : suc (suc (length l)) - 2 - 2 ≡ length l - 2 = omega arith in rw less (but_last_numbers l (omega (arith, h)))

pub inner_short : (l : List ℤ) → length l ≤ 3 → points [] ≡ inner (points l)
unfolding points inner but_last
inner_short [] h = refl
inner_short (x ∷ []) h = refl
inner_short (x ∷ y ∷ []) h = refl
inner_short (x ∷ y ∷ z ∷ []) h = refl
inner_short (x ∷ y ∷ z ∷ w ∷ l) h = absurd (omega (arith, h))

pub laid_numbers : (a b : List ℤ) (H : List Point) (n : ℕ) → length a % 2 ≡ 0 → length b % 2 ≡ 0 → points a ++ points b ≡ H
    → a ++ (b ++ replicate (n - (length a + length b)) (pos 0)) ≡ laid H n
unfolding laid
laid_numbers a b H n ha hb e =
    let together : a ++ b ≡ flat (points a ++ points b) =
    sym (flat_append (points a) (points b) ∙ ap (λ (r : List ℤ). r ++ flat (points b)) (flat_points a ha) ∙ ap (λ (r : List ℤ). a ++ r) (flat_points b hb)) in
    let size : length a + length b ≡ 2 * length H =
    sym (length-append a b) ∙ ap length together ∙ ap (λ (Q : List Point). length (flat Q)) e ∙ length-flat H in
    sym (append_assoc a b (replicate (n - (length a + length b)) (pos 0)))
    ∙ ap (λ (r : List ℤ). r ++ replicate (n - (length a + length b)) (pos 0)) (together ∙ ap flat e)
    ∙ ap (λ (k : ℕ). flat H ++ replicate (n - k) (pos 0)) size
