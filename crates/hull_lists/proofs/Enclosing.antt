-- The hull from the lowest and the highest points of a list.
--
--   Closed, closing   == a sorted list closed by a point that comes behind its last one or is that one
--   enclosed_hull     : `enclosed` of the lowest and the highest points is the hull
--   enclosed_only     : so it is `hull_of`
use mathlib.Core.Path.{◌≡◌, refl, sym, ap, ap₂, subst, ◌∙◌}
use mathlib.Core.Logic.{◌⊎◌, inl, inr, ◌≢◌}
use mathlib.Core.List.Memᴰ
use mathlib.Core.List.{List, [], ◌∷◌, ◌++◌}
use lib.Dec.{T}
use lib.IntN.{ℤ}
use Rattle.integers.specs.Order.{◌≼◌, ◌≺◌}
use Rattle.integers.proofs.Order.{≤_of_eq, Compared, less, same, more, compared, <-≤_clash}
use Rattle.geometry.specs.declared.Point.{Point}
use Rattle.geometry.specs.Order.{before}
use Rattle.point_lists.specs.Sets.{In}
use Rattle.point_lists.proofs.Sets.{point_path, also, none_of}
use Rattle.point_lists.proofs.Order.{by_y, is_before}
use Rattle.hull.specs.Hull.{IsHull}
use Rattle.hull.specs.Chains.{inner, hull_of}
use Rattle.hull.specs.Skimmed.{skim_chain}
use Rattle.hull.proofs.Pushed.{Direction, Sorted, last, up_to_last}
use Rattle.hull.proofs.Directions.{Rises, Falls, rising_way, falling_way}
use Rattle.hull.proofs.HullOf.{hull_of_only, sorted_behind, last_behind}
use Rattle.hull.proofs.TwoSides.{Sides, ends_x, ends_y, two_sides}
use Rattle.hull_lists.specs.Enclosed.{closed, enclosed}
use Rattle.hull_lists.proofs.Closing.{closed_kept, closed_more, enclosed_is}

-- ---- a list closed

pub record Closed (Less : Point → Point → Type 0) (a : Point) (A : List Point) (z : Point) : Type 0 where
  pub rest : List Point
  pub is : closed (a ∷ A) z ≡ a ∷ rest
  pub sorted : Sorted Less (a ∷ rest)
  pub end : last a rest ≡ z
  pub more : (q : Point) → In q (a ∷ A) → In q (a ∷ rest)
  pub only : (q : Point) → In q (a ∷ rest) → In q (a ∷ A) ⊎ (q ≡ z)

abbrev front : Point → List Point → List Point
front a [] = []
front a (b ∷ A) = a ∷ front b A

front_last : (a : Point) (A : List Point) → a ∷ A ≡ front a A ++ (last a A ∷ [])
front_last a [] = refl
front_last a (b ∷ A) = ap {B = List Point} (λ Q. a ∷ Q) (front_last b A)

differs : (a b : ℤ) → a ≺ b → a ≢ b
differs a b h e = <-≤_clash h (≤_of_eq (sym e))

module _ {Less : Point → Point → Type 0} (d : Direction Less) (a : Point) (A : List Point) (z : Point) (s : Sorted Less (a ∷ A))
    (x : (last a A).x ≡ z.x) (ahead : (last a A).y ≢ z.y → Less (last a A) z) where
  kept : (last a A).y ≡ z.y → Closed Less a A z
  kept y = record {
    rest = A;
    is = ap (λ (Q : List Point). closed Q z) (front_last a A) ∙ closed_kept (last a A) z (front a A) y ∙ sym (front_last a A);
    sorted = s;
    end = point_path x y;
    more = λ q i. i;
    only = λ q i. inl i;
  }

  added : (last a A).y ≢ z.y → Closed Less a A z
  added y = record {
    rest = A ++ (z ∷ []);
    is = ap (λ (Q : List Point). closed Q z) (front_last a A) ∙ closed_more (last a A) z (front a A) y
        ∙ ap (λ (Q : List Point). Q ++ (z ∷ [])) (sym (front_last a A));
    sorted = sorted_behind Less (a ∷ A) z s (λ q i. behind q (up_to_last Less a A s q i));
    end = last_behind a z A;
    more = λ q i. Memᴰ.append_left (z ∷ []) i;
    only = λ q i. go q (Memᴰ.append_cases (a ∷ A) i);
  }
    where
      behind : (q : Point) → (q ≡ last a A) ⊎ (Less q (last a A)) → Less q z
      behind q (inl e) = subst (λ (r : Point). Less r z) (sym e) (ahead y)
      behind q (inr h) = d.trans q (last a A) z h (ahead y)

      go : (q : Point) → In q (a ∷ A) ⊎ In q (z ∷ []) → In q (a ∷ A) ⊎ (q ≡ z)
      go q (inl i) = inl i
      go q (inr i) = inr (also (λ r. r ≡ z) refl (none_of (λ r. r ≡ z)) q i)

  pub closing : Closed Less a A z
  closing = go (compared (last a A).y z.y)
    where
      go : Compared (last a A).y z.y → Closed Less a A z
      go (less h) = added (differs (last a A).y z.y h)
      go (same e) = kept e
      go (more h) = added (λ e. differs z.y (last a A).y h (sym e))

-- ---- the two lists closed

upward : (p q : Point) → p.x ≡ q.x → p.y ≼ q.y → p.y ≢ q.y → T (before p q)
upward p q x h n = go (compared p.y q.y)
  where
    go : Compared p.y q.y → T (before p q)
    go (less k) = is_before (by_y x k)
    go (same e) = absurd (n e)
    go (more k) = <-≤_clash k h

module _ {P : List Point} (a z : Point) (A B : List Point) (s : Sides P (a ∷ A) (z ∷ B)) where
  low : Closed Rises a A z
  low = closing rising_way a A z s.rises (ends_x a z A B s).0 (upward (last a A) z (ends_x a z A B s).0 (ends_y a z A B s).0)

  high : Closed Falls z B a
  high = closing falling_way z B a s.falls (ends_x a z A B s).1
      (λ n. upward a (last z B) (sym (ends_x a z A B s).1) (ends_y a z A B s).1 (λ e. n (sym e)))

  low_in : (q : Point) → In q (a ∷ A) ⊎ (q ≡ z) → In q P
  low_in q (inl i) = s.low_members q i
  low_in q (inr e) = subst (λ (r : Point). In r P) (sym e) (s.high_members z (Memᴰ.head refl))

  high_in : (q : Point) → In q (z ∷ B) ⊎ (q ≡ a) → In q P
  high_in q (inl i) = s.high_members q i
  high_in q (inr e) = subst (λ (r : Point). In r P) (sym e) (s.low_members a (Memᴰ.head refl))

  closed_sides : Sides P (a ∷ low.rest) (z ∷ high.rest)
  closed_sides = record {
    low_members = λ q i. low_in q (low.only q i);
    high_members = λ q i. high_in q (high.only q i);
    rises = low.sorted;
    falls = high.sorted;
    has_low = λ p i. let w = s.has_low p i in record { low = w.low; low_in = low.more w.low w.low_in; low_x = w.low_x; under = w.under };
    has_high = λ p i. let w = s.has_high p i in record { high = w.high; high_in = high.more w.high w.high_in; high_x = w.high_x; over = w.over };
  }

  sides_hull : IsHull P (enclosed (a ∷ A) (z ∷ B))
  sides_hull = subst (IsHull P)
      (sym (enclosed_is a z (a ∷ A) (z ∷ B) A B refl refl ∙ ap₂ (λ (C D : List Point). skim_chain C ++ inner (skim_chain D)) low.is high.is))
      (two_sides P (a ∷ low.rest) (z ∷ high.rest) closed_sides (low.end, high.end))

pub enclosed_hull : (P A B : List Point) → Sides P A B → IsHull P (enclosed A B)
unfolding enclosed
enclosed_hull P [] B s = record { members = λ p i. absurd (Memᴰ.not-nil i); corners = λ p i. Memᴰ.not-nil (s.has_low p i).low_in }
enclosed_hull P (a ∷ A) [] s = record { members = λ p i. absurd (Memᴰ.not-nil i); corners = λ p i. Memᴰ.not-nil (s.has_high p i).high_in }
enclosed_hull P (a ∷ A) (z ∷ B) s = sides_hull a z A B s

pub enclosed_only : (P A B : List Point) → Sides P A B → enclosed A B ≡ hull_of P
enclosed_only P A B s = hull_of_only P (enclosed A B) (enclosed_hull P A B s)
