-- The hull from two lists: a rising one with the lowest points of a list, and a falling one with its highest points.
--
--   Below, Above Q p   == Q has a point below p or at p, above p or at p, with the same x
--   Meet A B           == each list ends where the other one starts
--   Sides P A B        == A and B are such lists of points of P: every point of P has one of A below it or at it, and one of B above it or at it
--   ends_x, ends_y     : the ends of the one list are above those of the other
--   two_sides          : the chains of A and B, where they meet, are the hull of P
use mathlib.Core.Path.{◌≡◌, refl, sym, ◌∙◌, ap, subst}
use mathlib.Core.Logic.{◌⊎◌, inl, inr}
use mathlib.Core.List.Memᴰ
use mathlib.Core.List.{List, [], ◌∷◌, ◌++◌}
use lib.Dec.{T}
use lib.IntN.{pos, ◌-ℤ◌}
use Rattle.integers.specs.Order.{◌≼◌}
use Rattle.integers.proofs.Ring.{poly}
use Rattle.integers.proofs.Order.{≤_antisym, ≤_trans, ≤_of_eq, ≤_of_<, Compared, less, same, more, compared, <-≤_clash, nonneg, le, eq, ◌⊞◌, ◌⊠◌}
use Rattle.geometry.specs.declared.Point.{Point}
use Rattle.geometry.specs.Order.{before}
use Rattle.point_lists.specs.Sets.{In}
use Rattle.point_lists.proofs.Sets.{point_path, also, none_of}
use Rattle.point_lists.proofs.Order.{ByCoordinates, by_x, by_y, by_coordinates, is_before, before_not_equal, before_trans}
use Rattle.hull.specs.Hull.{cross, OnLeft, UpTo, IsHull}
use Rattle.hull.specs.Chains.{push, chain, but_last, inner}
use Rattle.hull.specs.Skimmed.{skimmed, skim_chain}
use Rattle.hull.proofs.Pushed.{Sorted, last, last_in, up_to_last}
use Rattle.hull.proofs.Directions.{Rises, Falls, rising_way, falling_way}
use Rattle.hull.proofs.Joined.{Chains, joined}
use Rattle.hull.proofs.Skimmed.{SkimChained, skim_chained}

pub record Below (Q : List Point) (p : Point) : Type 0 where
  pub low : Point
  pub low_in : In low Q
  pub low_x : low.x ≡ p.x
  pub under : low.y ≼ p.y

pub record Above (Q : List Point) (p : Point) : Type 0 where
  pub high : Point
  pub high_in : In high Q
  pub high_x : high.x ≡ p.x
  pub over : p.y ≼ high.y

abbrev pub Meet : List Point → List Point → Type 0
Meet [] B = Unit {0}
Meet (a ∷ A) [] = Unit {0}
Meet (a ∷ A) (z ∷ B) = (last a A ≡ z) × (last z B ≡ a)

pub record Sides (P A B : List Point) : Type 0 where
  pub low_members : (p : Point) → In p A → In p P
  pub high_members : (p : Point) → In p B → In p P
  pub rises : Sorted Rises A
  pub falls : Sorted Falls B
  pub has_low : (p : Point) → In p P → Below A p
  pub has_high : (p : Point) → In p P → Above B p

-- ---- what holds of the lowest points holds above them

above : (a b lo p : Point) → lo.x ≡ p.x → lo.y ≼ p.y → a.x ≼ b.x → pos 0 ≼ cross a b lo → pos 0 ≼ cross a b p
above a b lo p e h s f = nonneg (a.x ∷ a.y ∷ b.x ∷ b.y ∷ lo.x ∷ lo.y ∷ p.x ∷ p.y ∷ []) (f ⊞ le s ⊠ le h ⊞ eq (b.y -ℤ a.y) e)
    (search poly depth 30) tt

below : (a b hi p : Point) → hi.x ≡ p.x → p.y ≼ hi.y → b.x ≼ a.x → pos 0 ≼ cross a b hi → pos 0 ≼ cross a b p
below a b hi p e h s f = nonneg (a.x ∷ a.y ∷ b.x ∷ b.y ∷ hi.x ∷ hi.y ∷ p.x ∷ p.y ∷ []) (f ⊞ le s ⊠ le h ⊞ eq (b.y -ℤ a.y) e)
    (search poly depth 30) tt

x_rises : (a b : Point) → T (before a b) → a.x ≼ b.x
x_rises a b t = go (by_coordinates a b t)
  where
    go : ByCoordinates a b → a.x ≼ b.x
    go (by_x h) = ≤_of_< h
    go (by_y e h) = ≤_of_eq e

left_above : (lo p : Point) → lo.x ≡ p.x → lo.y ≼ p.y → (l : List Point) → Sorted Rises l → OnLeft l lo → OnLeft l p
left_above lo p e h [] s f = tt
left_above lo p e h (a ∷ []) s f = tt
left_above lo p e h (a ∷ b ∷ l) s f = (
  above a b lo p e h (x_rises a b (s.0 b (Memᴰ.head refl))) f.0,
  left_above lo p e h (b ∷ l) s.1 f.1,
)

left_below : (hi p : Point) → hi.x ≡ p.x → p.y ≼ hi.y → (l : List Point) → Sorted Falls l → OnLeft l hi → OnLeft l p
left_below hi p e h [] s f = tt
left_below hi p e h (a ∷ []) s f = tt
left_below hi p e h (a ∷ b ∷ l) s f = (
  below a b hi p e h (x_rises b a (s.0 b (Memᴰ.head refl))) f.0,
  left_below hi p e h (b ∷ l) s.1 f.1,
)

up_to_above : (p q : Point) → p.x ≡ q.x → p.y ≼ q.y → UpTo p q
up_to_above p q e h = go (compared p.y q.y)
  where
    go : Compared p.y q.y → UpTo p q
    go (less k) = inr (is_before (by_y e k))
    go (same k) = inl (point_path e k)
    go (more k) = <-≤_clash k h

pub up_to_trans : (p q r : Point) → UpTo p q → UpTo q r → UpTo p r
up_to_trans p q r (inl e) k = subst (λ (x : Point). UpTo x r) (sym e) k
up_to_trans p q r (inr h) (inl e) = inr (subst (λ (x : Point). T (before p x)) e h)
up_to_trans p q r (inr h) (inr k) = inr (before_trans p q r h k)

-- ---- the ends of the lists

up_to_x : (p q : Point) → UpTo p q → p.x ≼ q.x
up_to_x p q (inl e) = ≤_of_eq (ap (λ (r : Point). r.x) e)
up_to_x p q (inr t) = x_rises p q t

up_to_y : (p q : Point) → UpTo p q → p.x ≡ q.x → p.y ≼ q.y
up_to_y p q (inl e) f = ≤_of_eq (ap (λ (r : Point). r.y) e)
up_to_y p q (inr t) f = go (by_coordinates p q t)
  where
    go : ByCoordinates p q → p.y ≼ q.y
    go (by_x h) = <-≤_clash h (≤_of_eq (sym f))
    go (by_y e h) = ≤_of_< h

module _ {P : List Point} (a z : Point) (A B : List Point) (s : Sides P (a ∷ A) (z ∷ B)) where
  from_first : (q : Point) → In q (a ∷ A) → UpTo a q
  from_first = also (λ q. UpTo a q) (inl refl) (λ q j. inr (s.rises.0 q j))

  to_first : (q : Point) → In q (z ∷ B) → UpTo q z
  to_first = also (λ q. UpTo q z) (inl refl) (λ q j. inr (s.falls.0 q j))

  to_last : (q : Point) → In q (a ∷ A) → UpTo q (last a A)
  to_last q i = up_to_last Rises a A s.rises q i

  from_last : (q : Point) → In q (z ∷ B) → UpTo (last z B) q
  from_last q i = go (up_to_last Falls z B s.falls q i)
    where
      go : (q ≡ last z B) ⊎ T (before (last z B) q) → UpTo (last z B) q
      go (inl e) = inl (sym e)
      go (inr t) = inr t

  over_last : Above (z ∷ B) (last a A)
  over_last = s.has_high (last a A) (s.low_members (last a A) (last_in a A))

  under_last : Below (a ∷ A) (last z B)
  under_last = s.has_low (last z B) (s.high_members (last z B) (last_in z B))

  under_first : Below (a ∷ A) z
  under_first = s.has_low z (s.high_members z (Memᴰ.head refl))

  over_first : Above (z ∷ B) a
  over_first = s.has_high a (s.low_members a (Memᴰ.head refl))

  pub ends_x : ((last a A).x ≡ z.x) × ((last z B).x ≡ a.x)
  ends_x = (
    ≤_antisym (≤_trans (≤_of_eq (sym over_last.high_x)) (up_to_x over_last.high z (to_first over_last.high over_last.high_in)))
        (≤_trans (≤_of_eq (sym under_first.low_x)) (up_to_x under_first.low (last a A) (to_last under_first.low under_first.low_in))),
    ≤_antisym (≤_trans (up_to_x (last z B) over_first.high (from_last over_first.high over_first.high_in)) (≤_of_eq over_first.high_x))
        (≤_trans (up_to_x a under_last.low (from_first under_last.low under_last.low_in)) (≤_of_eq under_last.low_x)),
  )

  pub ends_y : ((last a A).y ≼ z.y) × (a.y ≼ (last z B).y)
  ends_y = (
    ≤_trans over_last.over (up_to_y over_last.high z (to_first over_last.high over_last.high_in) (over_last.high_x ∙ ends_x.0)),
    ≤_trans (up_to_y a under_last.low (from_first under_last.low under_last.low_in) (sym (under_last.low_x ∙ ends_x.1))) under_last.under,
  )

-- ---- the hull

module _ {P : List Point} (a z : Point) (A B : List Point) (s : Sides P (a ∷ A) (z ∷ B)) (meets : Meet (a ∷ A) (z ∷ B)) where
  lower : SkimChained rising_way a A
  lower = skim_chained rising_way a A s.rises

  upper : SkimChained falling_way z B
  upper = skim_chained falling_way z B s.falls

  chains : Chains P a z lower.rest upper.rest
  chains = record {
    members = also (λ p. In p P) (s.low_members a (Memᴰ.head refl)) (λ p i. s.low_members p (Memᴰ.tail (lower.is_chain.members p i)));
    members_back = also (λ p. In p P) (s.high_members z (Memᴰ.head refl)) (λ p i. s.high_members p (Memᴰ.tail (upper.is_chain.members p i)));
    rises = lower.is_chain.sorted;
    falls = upper.is_chain.sorted;
    turns = lower.is_chain.turns;
    turns_back = upper.is_chain.turns;
    left = λ p i. let w = s.has_low p i in
        left_above w.low p w.low_x w.under (a ∷ lower.rest) lower.is_chain.sorted (lower.is_chain.left w.low w.low_in);
    left_back = λ p i. let w = s.has_high p i in
        left_below w.high p w.high_x w.over (z ∷ upper.rest) upper.is_chain.sorted (upper.is_chain.left w.high w.high_in);
    end = lower.is_chain.end ∙ meets.0;
    end_back = upper.is_chain.end ∙ meets.1;
    least = λ p i. let w = s.has_low p i in
        up_to_trans a w.low p (also (λ q. UpTo a q) (inl refl) (λ q j. inr (s.rises.0 q j)) w.low w.low_in)
        (up_to_above w.low p w.low_x w.under);
    greatest = λ p i. let w = s.has_high p i in
        up_to_trans p w.high z (up_to_above p w.high (sym w.high_x) w.over)
        (also (λ q. UpTo q z) (inl refl) (λ q j. inr (s.falls.0 q j)) w.high w.high_in);
  }

  chains_are : skim_chain (a ∷ A) ++ inner (skim_chain (z ∷ B)) ≡ a ∷ (lower.rest ++ but_last upper.rest)
  unfolding inner
  chains_are = ap {B = List Point} (λ k. k ++ inner (skim_chain (z ∷ B))) lower.is ∙ ap {B = List Point} (λ k. (a ∷ lower.rest) ++ inner k) upper.is

  sides_hull : T (before a z) → IsHull P (skim_chain (a ∷ A) ++ inner (skim_chain (z ∷ B)))
  sides_hull h = subst (IsHull P) (sym chains_are) (joined a z lower.rest upper.rest h chains)

alone : {P : List Point} (a z : Point) → Sides P (a ∷ []) (z ∷ []) → Meet (a ∷ []) (z ∷ []) → (p : Point) → In p P → p ≡ a
alone a z s meets p i =
    let u = s.has_low p i in
    let v = s.has_high p i in
    let lo : u.low ≡ a = also (λ q. q ≡ a) refl (none_of (λ q. q ≡ a)) u.low u.low_in in
    let hi : v.high ≡ a = also (λ q. q ≡ a) (sym meets.0) (none_of (λ q. q ≡ a)) v.high v.high_in in
    point_path (sym u.low_x ∙ ap (λ (q : Point). q.x) lo)
    (≤_antisym (subst (λ (q : Point). p.y ≼ q.y) hi v.over) (subst (λ (q : Point). q.y ≼ p.y) lo u.under))

pub two_sides : (P A B : List Point) → Sides P A B → Meet A B → IsHull P (skim_chain A ++ inner (skim_chain B))
unfolding skim_chain skimmed chain inner push but_last
two_sides P [] [] s meets = record { members = λ p i. absurd (Memᴰ.not-nil i); corners = λ p i. Memᴰ.not-nil (s.has_low p i).low_in }
two_sides P [] (z ∷ B) s meets = absurd (Memᴰ.not-nil (s.has_low z (s.high_members z (Memᴰ.head refl))).low_in)
two_sides P (a ∷ A) [] s meets = absurd (Memᴰ.not-nil (s.has_high a (s.low_members a (Memᴰ.head refl))).high_in)
two_sides P (a ∷ []) (z ∷ []) s meets = record { members = s.low_members; corners = alone a z s meets }
two_sides P (a ∷ []) (z ∷ v ∷ B) s meets = absurd (before_not_equal (last v B) z (s.falls.0 (last v B) (last_in v B)) (meets.1 ∙ meets.0))
two_sides P (a ∷ b ∷ A) (z ∷ B) s meets = sides_hull a z (b ∷ A) B s meets
    (subst (λ (q : Point). T (before a q)) meets.0 (s.rises.0 (last b A) (last_in b A)))
