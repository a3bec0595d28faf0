-- `hull_of` gives the hull.
--
--   reverse-in, reverse_falls   : a rising list reversed has the same points and falls
--   Ends, ends                  == the first point of a reversed list is the last of the list, and its last one the first
--   chains_of                   : the two chains of a rising list of two points at least
--   around_hull                 : of a rising list Q, `around Q` is the hull
--   hull_of_lem                     : IsHull P (hullOf P), for every list P
--   hull_of_only                 : and only `hull_of P` is
--   hull_some                   : the hull of some points has a corner
use mathlib.Core.Path.{◌≡◌, refl, sym, ◌∙◌, ap, subst}
use mathlib.Core.Logic.{◌⊎◌, inl, inr}
use mathlib.Core.List.Memᴰ
use mathlib.Core.List.{List, [], ◌∷◌, ◌++◌, reverse, reverse-cons}
use Prim.Native.Nat.{◌≤◌}
use native.Mathlib.Omega.{arith}
use lib.ListN.{length}
use Rattle.geometry.specs.declared.Point.{Point}
use Rattle.point_lists.specs.Sets.{In}
use Rattle.point_lists.specs.Rising.{sorted, Rising}
use Rattle.point_lists.proofs.Sets.{also, none_of, same_sym}
use Rattle.point_lists.proofs.Rising.{sorted_rises, sorted_same}
use Rattle.hull.specs.Hull.{UpTo, IsHull}
use Rattle.hull.specs.Chains.{push, chain, but_last, inner, around, hull_of}
use Rattle.hull.proofs.Unique.{hull_unique, hull_same}
use Rattle.hull.proofs.Pushed.{Sorted, last, last_in, up_to_last, Chained, chained}
use Rattle.hull.proofs.Directions.{Rises, Falls, rising_way, falling_way}
use Rattle.hull.proofs.Joined.{Chains, joined}

-- ---- a list reversed

pub reverse_to : (l : List Point) (x : Point) → In x l → In x (reverse l)
reverse_to [] x i = i
reverse_to (p ∷ l) x i = subst (λ (k : List Point). In x k) (sym (reverse-cons p l)) (go (λ j. reverse_to l x j) (Memᴰ.cases_cons i))
  where
    go : (In x l → In x (reverse l)) → (x ≡ p) ⊎ In x l → In x (reverse l ++ (p ∷ []))
    go f (inl e) = Memᴰ.append_right (reverse l) (Memᴰ.head e)
    go f (inr j) = Memᴰ.append_left (p ∷ []) (f j)

pub reverse-from : (l : List Point) (x : Point) → In x (reverse l) → In x l
reverse-from [] x i = i
reverse-from (p ∷ l) x i = go (λ j. reverse-from l x j) (Memᴰ.append_cases (reverse l) (subst (λ (k : List Point). In x k) (reverse-cons p l) i))
  where
    go : (In x (reverse l) → In x l) → In x (reverse l) ⊎ In x (p ∷ []) → In x (p ∷ l)
    go f (inl j) = Memᴰ.tail (f j)
    go f (inr j) = also (λ y. In y (p ∷ l)) (Memᴰ.head refl) (none_of (λ y. In y (p ∷ l))) x j

pub sorted_behind : (Less : Point → Point → Type 0) (l : List Point) (p : Point) → Sorted Less l → ((x : Point) → In x l → Less x p)
    → Sorted Less (l ++ (p ∷ []))
sorted_behind Less [] p s f = (none_of (λ q. Less p q), tt)
sorted_behind Less (q ∷ l) p s f = (
  λ x i. go x (Memᴰ.append_cases l i),
  sorted_behind Less l p s.1 (λ x i. f x (Memᴰ.tail i)),
)
  where
    go : (x : Point) → In x l ⊎ In x (p ∷ []) → Less q x
    go x (inl j) = s.0 x j
    go x (inr j) = also (λ y. Less q y) (f q (Memᴰ.head refl)) (none_of (λ y. Less q y)) x j

pub reverse_falls : (l : List Point) → Rising l → Sorted Falls (reverse l)
reverse_falls [] r = tt
reverse_falls (p ∷ l) r = subst (Sorted Falls) (sym (reverse-cons p l))
    (sorted_behind Falls (reverse l) p (reverse_falls l r.1) (λ x i. r.0 x (reverse-from l x i)))

pub record Ends (p : Point) (l : List Point) : Type 0 where
  pub rest : List Point
  pub is : reverse (p ∷ l) ≡ last p l ∷ rest
  pub end : last (last p l) rest ≡ p

pub last_behind : (p q : Point) (l : List Point) → last p (l ++ (q ∷ [])) ≡ q
last_behind p q [] = refl
last_behind p q (r ∷ l) = last_behind r q l

pub ends : (p : Point) (l : List Point) → Ends p l
ends p [] = record { rest = []; is = refl; end = refl }
ends p (q ∷ l) = go (ends q l)
  where
    go : Ends q l → Ends p (q ∷ l)
    go e = record {
      rest = e.rest ++ (p ∷ []);
      is = reverse-cons p (q ∷ l) ∙ ap (λ (k : List Point). k ++ (p ∷ [])) e.is;
      end = last_behind (last q l) p e.rest;
    }

-- ---- the two chains

pub rising-sorted : (l : List Point) → Rising l → Sorted Rises l
rising-sorted [] r = tt
rising-sorted (p ∷ l) r = (r.0, rising-sorted l r.1)

module _ (a b : Point) (Q : List Point) (r : Rising (a ∷ b ∷ Q)) where
  abbrev pub P : List Point
  P = a ∷ b ∷ Q

  abbrev pub z : Point
  z = last b Q

  pub back : Ends a (b ∷ Q)
  back = ends a (b ∷ Q)

  in_back : (p : Point) → In p P → In p (z ∷ back.rest)
  in_back p i = subst (λ (k : List Point). In p k) back.is (reverse_to P p i)

  from_back : (p : Point) → In p (z ∷ back.rest) → In p P
  from_back p i = reverse-from P p (subst (λ (k : List Point). In p k) (sym back.is) i)

  pub lower : Chained rising_way a (b ∷ Q)
  lower = chained rising_way a (b ∷ Q) (rising-sorted P r)

  pub upper : Chained falling_way z back.rest
  upper = chained falling_way z back.rest (subst (Sorted Falls) back.is (reverse_falls P r))

  from_first : (p : Point) → In p P → UpTo a p
  from_first = also (λ p. UpTo a p) (inl refl) (λ p i. inr (r.0 p i))

  pub chains_of : Chains P a z lower.rest upper.rest
  chains_of = record {
    members = also (λ p. In p P) (Memᴰ.head refl) (λ p i. Memᴰ.tail (lower.is_chain.members p i));
    members_back = also (λ p. In p P) (from_back z (Memᴰ.head refl)) (λ p i. from_back p (Memᴰ.tail (upper.is_chain.members p i)));
    rises = lower.is_chain.sorted;
    falls = upper.is_chain.sorted;
    turns = lower.is_chain.turns;
    turns_back = upper.is_chain.turns;
    left = lower.is_chain.left;
    left_back = λ p i. upper.is_chain.left p (in_back p i);
    end = lower.is_chain.end;
    end_back = upper.is_chain.end ∙ back.end;
    least = from_first;
    greatest = λ p i. up_to_last Rises a (b ∷ Q) (rising-sorted P r) p i;
  }

  pub around_is : around P ≡ a ∷ (lower.rest ++ but_last upper.rest)
  unfolding around inner
  around_is = ap {B = List Point} (λ k. k ++ inner (chain (reverse P))) lower.is
      ∙ ap {B = List Point} (λ k. (a ∷ lower.rest) ++ inner k) (ap chain back.is ∙ upper.is)

  around-two : IsHull P (around P)
  around-two = subst (IsHull P) (sym around_is) (joined a z lower.rest upper.rest (r.0 z (last_in b Q)) chains_of)

pub around_hull : (Q : List Point) → Rising Q → IsHull Q (around Q)
unfolding around inner chain push but_last
around_hull [] r = record { members = λ p i. i; corners = λ p i. Memᴰ.not-nil i }
around_hull (a ∷ []) r = record { members = λ p i. i; corners = also (λ p. p ≡ a) refl (none_of (λ p. p ≡ a)) }
around_hull (a ∷ b ∷ Q) r = around-two a b Q r

-- ---- the hull

pub hull_of_lem : (P : List Point) → IsHull P (hull_of P)
unfolding hull_of
hull_of_lem P = hull_same (same_sym (sorted_same P)) (around_hull (sorted P) (sorted_rises P))

pub hull_of_only : (P H : List Point) → IsHull P H → H ≡ hull_of P
hull_of_only P H h = hull_unique H (hull_of P) h (hull_of_lem P)

some_corner : {p : Point} {P : List Point} (H : List Point) → IsHull (p ∷ P) H → 1 ≤ length H
some_corner {p} [] h = absurd (h.corners p (Memᴰ.head refl))
some_corner (a ∷ H) h = omega arith

pub hull_some : (P : List Point) → (P ≡ [] → ⊥) → 1 ≤ length (hull_of P)
hull_some [] n = absurd (n refl)
hull_some (p ∷ P) n = some_corner (hull_of (p ∷ P)) (hull_of_lem (p ∷ P))
