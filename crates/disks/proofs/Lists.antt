-- Permutations of lists of points (`List.Permᴰ` of the library).
--
--   perm_in, perm_same, perm_length : they keep the members and the length
--   last_first                      : the last point put first
use mathlib.Core.Path.{◌≡◌, refl, ◌∙◌, ap}
use mathlib.Core.Logic.{◌⊎◌, inl, inr}
use mathlib.Core.List.Memᴰ
use mathlib.Core.List.Permᴰ
use mathlib.Core.List.{List, [], ◌∷◌, ◌++◌, Permᴰ}
use Prim.Native.Nat.{suc}
use lib.ListN.{length}
use Rattle.geometry.specs.declared.Point.{Point}
use Rattle.point_lists.specs.Sets.{In, Same}

over_head : {a b x : Point} {l m : List Point} → a ≡ b → (In x l → In x m) → (x ≡ a) ⊎ In x l → In x (b ∷ m)
over_head e f (inl h) = Memᴰ.head (h ∙ e)
over_head e f (inr h) = Memᴰ.tail (f h)

over_second : {a b b' x : Point} {l : List Point} → b ≡ b' → (x ≡ b) ⊎ In x l → In x (b' ∷ a ∷ l)
over_second e (inl h) = Memᴰ.head (h ∙ e)
over_second e (inr h) = Memᴰ.tail (Memᴰ.tail h)

over_both : {a b a' b' x : Point} {l : List Point} → a ≡ b' → b ≡ a' → (x ≡ a) ⊎ In x (b ∷ l) → In x (a' ∷ b' ∷ l)
over_both e f (inl h) = Memᴰ.tail (Memᴰ.head (h ∙ e))
over_both e f (inr h) = over_second f (Memᴰ.cases_cons h)

pub perm_in : {x : Point} {l m : List Point} → Permᴰ l m → In x l → In x m
perm_in Permᴰ.nil h = h
perm_in {x} (Permᴰ.cons {l₁ = l} {l₂ = m} e d) h = over_head e (λ (k : In x l). perm_in d k) (Memᴰ.cases_cons h)
perm_in (Permᴰ.swap e f) h = over_both e f (Memᴰ.cases_cons h)
perm_in (Permᴰ.trans d k) h = perm_in k (perm_in d h)

pub perm_same : {l m : List Point} → Permᴰ l m → Same l m
perm_same d = record { to = λ p h. perm_in d h; from = λ p h. perm_in (Permᴰ.symm d) h }

pub perm_length : {l m : List Point} → Permᴰ l m → length l ≡ length m
perm_length Permᴰ.nil = refl
perm_length (Permᴰ.cons e d) = ap suc (perm_length d)
perm_length (Permᴰ.swap e f) = refl
perm_length (Permᴰ.trans d k) = perm_length d ∙ perm_length k

-- the last to the front
pub last_first : (l : List Point) (p : Point) → Permᴰ (l ++ (p ∷ [])) (p ∷ l)
last_first l p = Permᴰ.trans (Permᴰ.middle p l []) (Permᴰ.cons refl (Permᴰ.append-nil l))
