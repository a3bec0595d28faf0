-- The points of a list on a disk's boundary.
--
--   boundary_of d P            == the points of P on d's boundary
--   boundary_on, boundary_off : they are those of the list without its first point, and that point where it is on the boundary
--   boundary_in, in_boundary  : they are the points of the list that pass the test
use mathlib.Core.Path.{◌≡◌, refl, sym, ◌∙◌, ap, subst}
use mathlib.Core.Logic.{◌⊎◌, inl, inr}
use mathlib.Core.Bool.{Bool, true, false}
use mathlib.Core.List.Memᴰ
use mathlib.Core.List.{List, [], ◌∷◌}
use lib.Dec.{T}
use Rattle.geometry.specs.declared.Point.{Point}
use Rattle.geometry.specs.Plane.{Disk}
use Rattle.point_lists.specs.Sets.{In}
use Rattle.support_tests.specs.Tests.{on_boundary_test}

unfoldable pub boundary_of : Disk → List Point → List Point
boundary_of d [] = []
boundary_of d (p ∷ P) = keep (on_boundary_test d p) (boundary_of d P)
  where
    keep : Bool → List Point → List Point
    keep true Q = p ∷ Q
    keep false Q = Q

module _ (d : Disk) where
  boundary_on : (q : Point) (P : List Point) → on_boundary_test d q ≡ true → boundary_of d (q ∷ P) ≡ q ∷ boundary_of d P
  unfolding boundary_of
  boundary_on q P e = rw e

  boundary_off : (q : Point) (P : List Point) → on_boundary_test d q ≡ false → boundary_of d (q ∷ P) ≡ boundary_of d P
  unfolding boundary_of
  boundary_off q P e = rw e

  pub boundary_in : (P : List Point) (x : Point) → In x (boundary_of d P) → In x P × T (on_boundary_test d x)
  unfolding boundary_of
  boundary_in [] x i = absurd (Memᴰ.not-nil i)
  boundary_in (q ∷ P) x i = go (on_boundary_test d q) refl (λ j. boundary_in P x j)
    where
      later : In x P × T (on_boundary_test d x) → In x (q ∷ P) × T (on_boundary_test d x)
      later h = (Memᴰ.tail h.0, h.1)

      here : on_boundary_test d q ≡ true → (In x (boundary_of d P) → In x P × T (on_boundary_test d x)) → (x ≡ q) ⊎ In x (boundary_of d P)
          → In x (q ∷ P) × T (on_boundary_test d x)
      here e f (inl k) = (Memᴰ.head k, subst T (sym (ap (on_boundary_test d) k ∙ e)) tt)
      here e f (inr j) = later (f j)

      go : (b : Bool) → on_boundary_test d q ≡ b → (In x (boundary_of d P) → In x P × T (on_boundary_test d x)) → In x (q ∷ P) × T (on_boundary_test d x)
      go true e f = here e f (Memᴰ.cases_cons (subst (In x) (boundary_on q P e) i))
      go false e f = later (f (subst (In x) (boundary_off q P e) i))

  pub in_boundary : (P : List Point) (x : Point) → In x P → T (on_boundary_test d x) → In x (boundary_of d P)
  in_boundary [] x i t = absurd (Memᴰ.not-nil i)
  in_boundary (q ∷ P) x i t = go (on_boundary_test d q) refl (λ j. in_boundary P x j t) (Memᴰ.cases_cons i)
    where
      go : (b : Bool) → on_boundary_test d q ≡ b → (In x P → In x (boundary_of d P)) → (x ≡ q) ⊎ In x P → In x (boundary_of d (q ∷ P))
      go true e f (inl k) = subst (In x) (sym (boundary_on q P e)) (Memᴰ.head k)
      go true e f (inr j) = subst (In x) (sym (boundary_on q P e)) (Memᴰ.tail (f j))
      go false e f (inl k) = absurd (subst T (ap (on_boundary_test d) k ∙ e) t)
      go false e f (inr j) = subst (In x) (sym (boundary_off q P e)) (f j)
