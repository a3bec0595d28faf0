-- The place of a point in a rising list, and the list with the point in its place.
--
--   place_here, place_there, place_later : the place, by the first point of the list
--   Placed p Q j k                 == p goes in at k, in a list Q whose first point has the number j
--   placed                         : where the place is Some k, the point goes in there
--   there                          : where it is None, the list stays
--   placed_is, placed-length       : from the number 0 on: the list with the point, which has one more
use mathlib.Core.Path.{◌≡◌, refl, ap, ◌∙◌}
use mathlib.Core.Bool.{Bool, true, false}
use mathlib.Core.List.{List, [], ◌∷◌}
use Prim.Native.Nat.{ℕ, suc, ◌+◌, ◌-◌, ◌≤◌}
use native.Mathlib.Omega.{arith}
use lib.ListN.{length, length-append, length-take, length-drop}
use Rattle.geometry.specs.declared.Point.{Point}
use Rattle.geometry.specs.Order.{before}
use Rattle.point_lists.specs.Rising.{insert}
use Rattle.point_lists.proofs.Rising.{insert-ahead, insert_behind, insert_level}
use Rattle.std.specs.Prelude.{Some, None}
use Rattle.rising_lists.specs.Place.{place_of, inserted_at}

module _ (p q : Point) (Q : List Point) where
  pub place_here : (k : ℕ) → before p q ≡ true → place_of p (q ∷ Q) k ≡ Some k
  unfolding place_of
  place_here k e = rw e

  pub place_there : (k : ℕ) → before p q ≡ false → before q p ≡ false → place_of p (q ∷ Q) k ≡ None
  unfolding place_of
  place_there k e f = rw (e, f)

  pub place_later : (k : ℕ) → before p q ≡ false → before q p ≡ true → place_of p (q ∷ Q) k ≡ place_of p Q (k + 1)
  unfolding place_of
  place_later k e f = rw (e, f)

pub record Placed (p : Point) (Q : List Point) (j k : ℕ) : Type 0 where
  pub low : j ≤ k
  pub fit : k - j ≤ length Q
  pub is : insert p Q ≡ inserted_at (k - j) p Q

pub placed : (p : Point) (Q : List Point) (j k : ℕ) → place_of p Q j ≡ Some k → Placed p Q j k
unfolding place_of insert
placed p [] j k e =
    let same : j ≡ k = cc in
    let none : k - j ≡ 0 = omega arith in
    record { low = omega arith; fit = omega arith; is = rw none }
placed p (q ∷ Q) j k e = go (before p q) (before q p) refl refl (placed p Q (j + 1) k)
  where
    go : (a b : Bool) → before p q ≡ a → before q p ≡ b → (place_of p Q (j + 1) ≡ Some k → Placed p Q (j + 1) k) → Placed p (q ∷ Q) j k
    go true b f g later =
        let here : place_of p (q ∷ Q) j ≡ Some j = place_here p q Q j f in
        let same : j ≡ k = cc in
        let none : k - j ≡ 0 = omega arith in
        record { low = omega arith; fit = omega arith; is = insert-ahead p q Q f ∙ rw none }
    go false false f g later =
        let here : place_of p (q ∷ Q) j ≡ None = place_there p q Q j f g in
        let z : ◌≡◌ {A = ℕ} 0 1 = cc in
        absurd (omega arith)
    go false true f g later =
        let here : place_of p (q ∷ Q) j ≡ place_of p Q (j + 1) = place_later p q Q j f g in
        let l : Placed p Q (j + 1) k = later (cc) in
        let next : k - j ≡ suc (k - (j + 1)) = omega (arith, l.low) in
        record {
          low = omega (arith, l.low);
          fit = omega (arith, l.low, l.fit);
          is = insert_behind p q Q f g ∙ rw next (ap {B = List Point} (λ r. q ∷ r) l.is);
        }

pub there : (p : Point) (Q : List Point) (j : ℕ) → place_of p Q j ≡ None → insert p Q ≡ Q
unfolding place_of insert
there p [] j e = let z : ◌≡◌ {A = ℕ} 0 1 = cc in absurd (omega arith)
there p (q ∷ Q) j e = go (before p q) (before q p) refl refl (there p Q (j + 1))
  where
    go : (a b : Bool) → before p q ≡ a → before q p ≡ b → (place_of p Q (j + 1) ≡ None → insert p Q ≡ Q) → insert p (q ∷ Q) ≡ q ∷ Q
    go true b f g later =
        let here : place_of p (q ∷ Q) j ≡ Some j = place_here p q Q j f in
        let z : ◌≡◌ {A = ℕ} 0 1 = cc in
        absurd (omega arith)
    go false false f g later = insert_level p q Q f g
    go false true f g later =
        let here : place_of p (q ∷ Q) j ≡ place_of p Q (j + 1) = place_later p q Q j f g in
        insert_behind p q Q f g ∙ ap {B = List Point} (λ r. q ∷ r) (later (cc))

-- in a list whose first point has the number 0
module _ (p : Point) (Q : List Point) (k : ℕ) (l : Placed p Q 0 k) where
  pub placed_is : insert p Q ≡ inserted_at k p Q
  placed_is = let same : k - 0 ≡ k = omega arith in rw same at l.is

  pub placed-length : length (insert p Q) ≡ length Q + 1
  placed-length = rw placed_is (simp (length-append, length-take, length-drop) (omega (arith, l.fit)))
