-- Every point of a list is a weighted mean of three corners of its hull.
--
--   fan            : a point in the fan triangle O g h is a mean of the three
--   mean_of_two    : a weighted mean of two points
--   mean           : every point of P is a mean of corners of the hull of P
use mathlib.Core.Path.{◌≡◌, refl, sym, subst}
use mathlib.Core.Logic.{◌⊎◌, inl, inr}
use mathlib.Core.List.Memᴰ
use mathlib.Core.List.{List, [], ◌∷◌, ◌++◌}
use lib.Dec.{T}
use lib.IntN.{ℤ, pos, negsuc, neg_ℤ, ◌+ℤ◌, ◌-ℤ◌, ◌*ℤ◌}
use Rattle.integers.specs.Order.{◌≼◌, ◌≺◌}
use Rattle.integers.proofs.Ring.{ring, poly, linear, eqn}
use Rattle.integers.proofs.Order.{≤-refl, ≤_of_<, ≤-or-<, nonneg, positive, clash, le, lt, eq, nn, ◌⊞◌}
use Rattle.geometry.specs.declared.Point.{Point}
use Rattle.geometry.specs.Order.{before}
use Rattle.point_lists.specs.Sets.{In}
use Rattle.hull.specs.Hull.{cross, OnLeft, UpTo, round, Polygon, Row, IsHull}
use Rattle.hull.specs.Means.{Mean}
use Rattle.hull.proofs.Turns.{Forward, right, up, forward, not_left}

-- ---- a triangle of the fan

minus : (t : ℤ) → t ≼ pos 0 → pos 0 ≼ neg_ℤ t
minus t h = nonneg (t ∷ []) (le h) (search poly depth 30) tt

fan_weight : (O g h p : Point) → cross g h p +ℤ neg_ℤ (cross O h p) +ℤ cross O g p ≡ cross O g h
fan_weight O g h p = ring (O.x ∷ O.y ∷ g.x ∷ g.y ∷ h.x ∷ h.y ∷ p.x ∷ p.y ∷ []) (search poly depth 30) tt

pub fan : {H : List Point} (O g h p : Point) → In O H → In g H → In h H → pos 0 ≼ cross g h p → cross O h p ≼ pos 0 → pos 0 ≼ cross O g p
    → pos 0 ≺ cross O g h → Mean H p
fan O g h p i_o ig ih sg s_o sh w = record {
  a = O;
  b = g;
  c = h;
  a_in = i_o;
  b_in = ig;
  c_in = ih;
  α = cross g h p;
  β = neg_ℤ (cross O h p);
  γ = cross O g p;
  α_some = sg;
  β_some = minus (cross O h p) s_o;
  γ_some = sh;
  weight = subst (λ (t : ℤ). pos 0 ≺ t) (sym (fan_weight O g h p)) w;
  x_is = ring (O.x ∷ O.y ∷ g.x ∷ g.y ∷ h.x ∷ h.y ∷ p.x ∷ p.y ∷ []) (search poly depth 30) tt;
  y_is = ring (O.x ∷ O.y ∷ g.x ∷ g.y ∷ h.x ∷ h.y ∷ p.x ∷ p.y ∷ []) (search poly depth 30) tt;
}

sum_positive : (s t u w : ℤ) → s +ℤ neg_ℤ t +ℤ u ≡ w → pos 0 ≼ s → t ≼ pos 0 → pos 0 ≺ u → pos 0 ≺ w
sum_positive s t u w e hs ht hu = positive (s ∷ t ∷ u ∷ w ∷ []) (hs ⊞ le ht ⊞ lt hu ⊞ eq (negsuc 0) e) (search poly depth 30) tt

-- ---- in a polygon: the first triangle of the fan whose far side p is not beyond

opposite_turn : (O g p : Point) → cross g O p ≡ neg_ℤ (cross O g p)
opposite_turn O g p = ring (O.x ∷ O.y ∷ g.x ∷ g.y ∷ p.x ∷ p.y ∷ []) (search poly depth 30) tt

both_sides : {X : Type 0} (s t : ℤ) → t ≡ neg_ℤ s → pos 0 ≺ s → pos 0 ≼ t → X
both_sides s t e hs ht = clash (s ∷ t ∷ []) (lt hs ⊞ ht ⊞ eq (negsuc 0) e) (search poly depth 30) tt

module _ {H : List Point} (O b p : Point) (i_o : In O H) where
  further : (g : Point) (l : List Point) → In g H → ((q : Point) → In q l → In q H) → pos 0 ≺ cross O g p → OnLeft (g ∷ (l ++ (O ∷ b ∷ []))) p
      → Mean H p
  further g [] ig il s left = both_sides (cross O g p) (cross g O p) (opposite_turn O g p) s left.0
  further g (h ∷ l) ig il s left = go (further h l (il h (Memᴰ.head refl)) (λ q i. il q (Memᴰ.tail i))) (≤-or-< (cross O h p) (pos 0))
    where
      go : (pos 0 ≺ cross O h p → OnLeft (h ∷ (l ++ (O ∷ b ∷ []))) p → Mean H p) → (cross O h p ≼ pos 0) ⊎ (pos 0 ≺ cross O h p) → Mean H p
      go f (inl k) = fan O g h p i_o ig (il h (Memᴰ.head refl)) left.0 k (≤_of_< s)
          (sum_positive (cross g h p) (cross O h p) (cross O g p) (cross O g h) (fan_weight O g h p) left.0 k s)
      go f (inr k) = f k left.1

in_polygon : {P : List Point} (a b c : Point) (l : List Point) → Polygon P a b (c ∷ l) → (p : Point) → In p P → Mean (a ∷ b ∷ c ∷ l) p
in_polygon {P} a b c l h p i = go (≤-or-< (cross a c p) (pos 0))
  where
    left : OnLeft (round a b (c ∷ l)) p
    left = h.beside p i

    H : List Point
    H = a ∷ b ∷ c ∷ l

    in_c : In c H
    in_c = Memᴰ.tail (Memᴰ.tail (Memᴰ.head refl))

    go : (cross a c p ≼ pos 0) ⊎ (pos 0 ≺ cross a c p) → Mean H p
    go (inl k) = fan a b c p (Memᴰ.head refl) (Memᴰ.tail (Memᴰ.head refl)) in_c left.1.0 k left.0 h.turns.0
    go (inr k) = further a b p (Memᴰ.head refl) c l in_c (λ q j. Memᴰ.tail (Memᴰ.tail (Memᴰ.tail j))) k left.1.1

-- ---- in a row

pub mean_of_two : {H : List Point} (a b p : Point) (α β : ℤ) → In a H → In b H → pos 0 ≼ α → pos 0 ≼ β → pos 0 ≺ α +ℤ β
    → (α +ℤ β) *ℤ p.x ≡ α *ℤ a.x +ℤ β *ℤ b.x → (α +ℤ β) *ℤ p.y ≡ α *ℤ a.y +ℤ β *ℤ b.y → Mean H p
mean_of_two a b p α β ia ib hα hβ w ex ey = record {
  a = a;
  b = b;
  c = b;
  a_in = ia;
  b_in = ib;
  c_in = ib;
  α = α;
  β = β;
  γ = pos 0;
  α_some = hα;
  β_some = hβ;
  γ_some = ≤-refl (pos 0);
  weight = positive (α ∷ β ∷ []) (lt w) (search poly depth 30) tt;
  x_is = linear (α ∷ β ∷ a.x ∷ b.x ∷ p.x ∷ []) (eqn (pos 1) ex) (search poly depth 30) tt;
  y_is = linear (α ∷ β ∷ a.y ∷ b.y ∷ p.y ∷ []) (eqn (pos 1) ey) (search poly depth 30) tt;
}

pub itself : {H : List Point} (p : Point) → In p H → Mean H p
itself p i = mean_of_two p p p (pos 1) (pos 0) i i (nn 1) (nn 0) (positive [] (nn 0) (search poly depth 30) tt)
    (ring (p.x ∷ []) (search poly depth 30) tt) (ring (p.y ∷ []) (search poly depth 30) tt)

-- p strictly mean-of-two a and b, in a row with them
in_between : {H : List Point} (a b p : Point) → In a H → In b H → T (before a b) → T (before a p) → T (before p b) → cross a b p ≡ pos 0 → Mean H p
in_between {H} a b p ia ib ab ap pb e = go (forward a b ab) (forward a p ap) (forward p b pb)
  where
    go : Forward (b.x -ℤ a.x) (b.y -ℤ a.y) → Forward (p.x -ℤ a.x) (p.y -ℤ a.y) → Forward (b.x -ℤ p.x) (b.y -ℤ p.y) → Mean H p
    go (right h) f g = mean_of_two a b p (b.x -ℤ p.x) (p.x -ℤ a.x) ia ib (not_left g) (not_left f)
        (positive (a.x ∷ b.x ∷ p.x ∷ []) (lt h) (search poly depth 30) tt)
        (ring (a.x ∷ b.x ∷ p.x ∷ []) (search poly depth 30) tt)
        (linear (a.x ∷ b.x ∷ p.x ∷ a.y ∷ b.y ∷ p.y ∷ []) (eqn (pos 1) e) (search poly depth 30) tt)
    go (up d h) (right f) g = clash (a.x ∷ b.x ∷ p.x ∷ []) (lt f ⊞ not_left g ⊞ eq (negsuc 0) d) (search poly depth 30) tt
    go (up d h) (up c f) (right g) = clash (a.x ∷ b.x ∷ p.x ∷ []) (lt g ⊞ eq (negsuc 0) d ⊞ eq (pos 1) c) (search poly depth 30) tt
    go (up d h) (up c f) (up k g) = mean_of_two a b p (b.y -ℤ p.y) (p.y -ℤ a.y) ia ib (≤_of_< g) (≤_of_< f)
        (positive (a.y ∷ b.y ∷ p.y ∷ []) (lt h) (search poly depth 30) tt)
        (linear (a.x ∷ b.x ∷ p.x ∷ a.y ∷ b.y ∷ p.y ∷ []) (eqn (negsuc 0) e) (search poly depth 30) tt)
        (ring (a.y ∷ b.y ∷ p.y ∷ []) (search poly depth 30) tt)

in_row : {P : List Point} (a b : Point) → Row P a b → (p : Point) → In p P → Mean (a ∷ b ∷ []) p
in_row a b r p i = go (r.from p i) (r.to p i)
  where
    go : UpTo a p → UpTo p b → Mean (a ∷ b ∷ []) p
    go (inl e) t = itself p (Memᴰ.head (sym e))
    go (inr s) (inl e) = itself p (Memᴰ.tail (Memᴰ.head e))
    go (inr s) (inr t) = in_between a b p (Memᴰ.head refl) (Memᴰ.tail (Memᴰ.head refl)) r.ends s t (r.in_row p i)

pub mean : {P : List Point} (H : List Point) → IsHull P H → (p : Point) → In p P → Mean H p
mean [] h p i = absurd (h.corners p i)
mean (a ∷ []) h p i = itself p (Memᴰ.head (h.corners p i))
mean (a ∷ b ∷ []) h p i = in_row a b h.corners p i
mean (a ∷ b ∷ c ∷ l) h p i = in_polygon a b c l h.corners p i
