-- Points, and what holds of each point of a list.
--
--   point_path       : points with the same coordinates are equal
--   none_of, also    : a fact of each member of a list, put together
--   same_refl, same_sym : a list names the set that it names, and so do two lists in either order
use mathlib.Core.Path.{◌≡◌, sym, subst}
use mathlib.Core.Logic.{◌⊎◌, inl, inr}
use mathlib.Core.List.Memᴰ
use mathlib.Core.List.{List, [], ◌∷◌}
use Rattle.geometry.specs.declared.Point.{Point}
use Rattle.point_lists.specs.Sets.{In, Same}

pub point_path : {p q : Point} → p.x ≡ q.x → p.y ≡ q.y → p ≡ q
point_path a b = λ i. record { x = a i; y = b i }

pub none_of : (Z : Point → Type 0) (p : Point) → In p [] → Z p
none_of Z p m = absurd (Memᴰ.not-nil m)

pub also : (Z : Point → Type 0) {a : Point} {l : List Point} → Z a → ((p : Point) → In p l → Z p) → (p : Point) → In p (a ∷ l) → Z p
also Z {a} {l} z h p m = go (Memᴰ.cases_cons m)
  where
    go : (p ≡ a) ⊎ In p l → Z p
    go (inl e) = subst Z (sym e) z
    go (inr k) = h p k

pub same_refl : (P : List Point) → Same P P
same_refl P = record { to = λ p m. m; from = λ p m. m }

pub same_sym : {P Q : List Point} → Same P Q → Same Q P
same_sym s = record { to = s.from; from = s.to }
