-- The four corners of a square, written as points one behind another.
--
--   four_put       : four points written behind the first j
--   minus_value, plus_value : a coordinate of a corner, as the machine works it out
--   low_corner, high_corner : two opposite corners of a square in the em box have small coordinates
--   corners-boxed  : the corners of all squares lie in the em box where those of each do
use mathlib.Core.Path.{◌≡◌, refl, ap, ap₂, ◌∙◌}
use mathlib.Core.Logic.{inl, inr}
use mathlib.Core.List.Memᴰ
use mathlib.Core.List.{List, [], ◌∷◌, ◌++◌}
use Prim.Native.Nat.{ℕ, ◌+◌, ◌*◌, ◌≤◌}
use native.Mathlib.Omega.{arith}
use lib.Dec.{T}
use lib.IntN.{ℤ, nat_abs, ◌+ℤ◌, ◌-ℤ◌}
use lib.ListN.{length}
use mir.Syntax.{w16}
use mir.Val.{SFits, to_z, of_z}
use mir.Facts.{to_z-of_z}
use Rattle.integers.proofs.Bounds.{Value, v_eq, v_abs}
use Rattle.integers.proofs.Tests.{test_true}
use Rattle.geometry.specs.declared.Point.{Point}
use Rattle.geometry.specs.EmBox.{em, largest, in_em_box}
use Rattle.geometry.specs.Points.{first_points}
use Rattle.geometry.proofs.EmBox.{point_size, box_members}
use Rattle.point_lists.specs.Sets.{In}
use Rattle.point_lists.specs.Put.{put_at}
use Rattle.point_lists.proofs.Put.{length-put, first_points-put}
use Rattle.tracings.specs.declared.TracedPoint.{TracedPoint}
use Rattle.tracings.specs.Squares.{corners, all_corners}
use Rattle.square_corners.specs.Laying.{Boxed, AllBoxed}

one-put : (l m : List ℤ) (n k : ℕ) (p : Point) → k ≡ n + 1 → m ≡ put_at l n p → 2 * n + 2 ≤ length l → first_points k m ≡ first_points n l ++ (p ∷ [])
one-put l m n k p e q h = ap₂ first_points e q ∙ first_points-put l n p h

pub four_put : (l₀ l₁ l₂ l₃ l₄ : List ℤ) (j : ℕ) (a b c d : Point) → 2 * j + 8 ≤ length l₀
    → l₁ ≡ put_at l₀ j a → l₂ ≡ put_at l₁ (j + 1) b → l₃ ≡ put_at l₂ (j + 2) c → l₄ ≡ put_at l₃ (j + 3) d
    → first_points (j + 4) l₄ ≡ first_points j l₀ ++ (a ∷ b ∷ c ∷ d ∷ [])
four_put l₀ l₁ l₂ l₃ l₄ j a b c d h e₁ e₂ e₃ e₄ =
    one-put l₃ l₄ (j + 3) (j + 4) d (omega arith) e₄ (omega (arith, n₃))
    ∙ ap (λ (Q : List Point). Q ++ (d ∷ [])) (one-put l₂ l₃ (j + 2) (j + 3) c (omega arith) e₃ (omega (arith, n₂)))
    ∙ ap (λ (Q : List Point). (Q ++ (c ∷ [])) ++ (d ∷ [])) (one-put l₁ l₂ (j + 1) (j + 2) b (omega arith) e₂ (omega (arith, n₁)))
    ∙ ap (λ (Q : List Point). ((Q ++ (b ∷ [])) ++ (c ∷ [])) ++ (d ∷ [])) (one-put l₀ l₁ j (j + 1) a refl e₁ (omega arith))
    ∙ together (first_points j l₀)
  where
    n₁ : length l₁ ≡ length l₀
    n₁ = ap length e₁ ∙ length-put l₀ j a

    n₂ : length l₂ ≡ length l₀
    n₂ = ap length e₂ ∙ length-put l₁ (j + 1) b ∙ n₁

    n₃ : length l₃ ≡ length l₀
    n₃ = ap length e₃ ∙ length-put l₂ (j + 2) c ∙ n₂

    together : (Q : List Point) → (((Q ++ (a ∷ [])) ++ (b ∷ [])) ++ (c ∷ [])) ++ (d ∷ []) ≡ Q ++ (a ∷ b ∷ c ∷ d ∷ [])
    together [] = refl
    together (q ∷ Q) = ap {B = List Point} (λ R. q ∷ R) (together Q)

-- ---- the coordinates

module _ {a b : ℤ} (f : SFits w16 a) (g : SFits w16 b) where
  abbrev pub minus_value : {B : ℕ} → nat_abs (a -ℤ b) ≤ B → Value (to_z w16 (of_z w16 a) -ℤ to_z w16 (of_z w16 b))
  minus_value h = v_eq (ap₂ ◌-ℤ◌ (to_z-of_z f) (to_z-of_z g)) (v_abs {z = a -ℤ b} h)

  abbrev pub plus_value : {B : ℕ} → nat_abs (a +ℤ b) ≤ B → Value (to_z w16 (of_z w16 a) +ℤ to_z w16 (of_z w16 b))
  plus_value h = v_eq (ap₂ ◌+ℤ◌ (to_z-of_z f) (to_z-of_z g)) (v_abs {z = a +ℤ b} h)

module _ (s : TracedPoint) (h : Boxed s) where
  pub low_corner : (nat_abs (s.x -ℤ s.t) ≤ largest em) × (nat_abs (s.y -ℤ s.t) ≤ largest em)
  unfolding corners
  low_corner = point_size em _ (test_true (in_em_box _) (box_members (corners s) h _ (Memᴰ.head refl)))

  pub high_corner : (nat_abs (s.x +ℤ s.t) ≤ largest em) × (nat_abs (s.y +ℤ s.t) ≤ largest em)
  unfolding corners
  high_corner =
      let last = Memᴰ.tail (Memᴰ.tail (Memᴰ.tail (Memᴰ.head refl))) in
      point_size em _ (test_true (in_em_box _) (box_members (corners s) h _ last))

-- ---- all corners

pub corners-boxed : (ss : List TracedPoint) → AllBoxed ss → (p : Point) → In p (all_corners ss) → T (in_em_box p)
unfolding all_corners
corners-boxed [] f p i = absurd (Memᴰ.not-nil i)
corners-boxed (s ∷ ss) f p i = elim (Memᴰ.append_cases (corners s) i) [
  | inl k ↦ box_members (corners s) (f s (Memᴰ.head refl)) p k
  | inr k ↦ corners-boxed ss (λ r m. f r (Memᴰ.tail m)) p k
]
