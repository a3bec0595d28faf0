-- A strongly minimal disk is fixed by one to three points of its boundary (000, Lemma 1 (iii)).
--
--   BoundaryOf F P              == the points of P on the boundary of F
--   Supporting P T F       == T: different points of P on the boundary of F whose own strongly minimal disk is F
--   Supported P F          == a support set of one, two or three points
--   support                : every strongly minimal disk of a list, no point fixed, has one
use mathlib.Core.Path.{◌≡◌, refl, sym, ◌∙◌, subst}
use mathlib.Core.Logic.{◌⊎◌, inl, inr, ◌≢◌}
use mathlib.Core.List.Memᴰ
use mathlib.Core.List.{List, [], ◌∷◌}
use lib.IntN.{ℤ, pos, neg_ℤ, ◌+ℤ◌, ◌*ℤ◌}
use lib.Signed.{◌≤ℤ◌, ◌<ℤ◌}
use Rattle.integers.proofs.Ring.{ring, poly}
use Rattle.integers.proofs.Order.{≤_of_eq, sq, nn, ◌⊞◌, <-≤_clash, clash, lt, eq, Compared, less, same, more, compared, sum_squares_zero}
use Rattle.geometry.specs.declared.Point.{Point}
use Rattle.point_lists.specs.Sets.{In, Different}
use Rattle.point_lists.proofs.Sets.{none_of, also}
use Rattle.disks.proofs.Lifted.{Lifted, value, squared_radius}
use Rattle.disks.proofs.Minimal.{StronglyMinimal}
use Rattle.disks.proofs.Arms.{cross, Opposite, cross_self}
use Rattle.disks.proofs.Cone.{Cone, Placed, opposite, around, cone, placed}
use Rattle.disks.proofs.AboutCentre.{arm, boundary_length, one_strong, two_strong, three_strong, no_side}

-- ---- the points on the boundary

pub record BoundaryOf (F : Lifted) (P : List Point) : Type 0 where
  pub points : List Point
  pub inside : (p : Point) → In p points → In p P
  pub on_boundary_is : (p : Point) → In p points → value F p ≡ pos 0
  pub all : (p : Point) → In p P → value F p ≡ pos 0 → In p points

pub boundary_of : (F : Lifted) (P : List Point) → BoundaryOf F P
boundary_of F [] = record { points = []; inside = λ p m. m; on_boundary_is = none_of (λ p. value F p ≡ pos 0); all = λ p m z. m }
boundary_of F (q ∷ P) = go (boundary_of F P) (compared (value F q) (pos 0))
  where
    out : BoundaryOf F P → value F q ≢ pos 0 → BoundaryOf F (q ∷ P)
    out r n = record {
      points = r.points;
      inside = λ p m. Memᴰ.tail (r.inside p m);
      on_boundary_is = r.on_boundary_is;
      all = also (λ p. value F p ≡ pos 0 → In p r.points) (λ z. absurd (n z)) r.all;
    }

    go : BoundaryOf F P → Compared (value F q) (pos 0) → BoundaryOf F (q ∷ P)
    go r (less h) = out r (λ z. <-≤_clash h (≤_of_eq (sym z)))
    go r (more h) = out r (λ z. <-≤_clash h (≤_of_eq z))
    go r (same z) = record {
      points = q ∷ r.points;
      inside = also (λ p. In p (q ∷ P)) (Memᴰ.head refl) (λ p m. Memᴰ.tail (r.inside p m));
      on_boundary_is = also (λ p. value F p ≡ pos 0) z r.on_boundary_is;
      all = also (λ p. value F p ≡ pos 0 → In p (q ∷ r.points)) (λ w. Memᴰ.head refl) (λ p m w. Memᴰ.tail (r.all p m w));
    }

-- ---- support sets

pub record Supporting (P T : List Point) (F : Lifted) : Type 0 where
  pub members : (p : Point) → In p T → In p P
  pub on_boundary_is : (p : Point) → In p T → value F p ≡ pos 0
  pub different : Different T
  pub own : StronglyMinimal T [] F

pub data Supported (P : List Point) (F : Lifted) : Type 0 where
  one : (a : Point) → Supporting P (a ∷ []) F → Supported P F
  two : (a b : Point) → Supporting P (a ∷ b ∷ []) F → Supported P F
  three : (a b c : Point) → Supporting P (a ∷ b ∷ c ∷ []) F → Supported P F

-- ---- points with different arms are different

opposite-zero : (a b s : ℤ) → a +ℤ a ≡ pos 0 → b +ℤ b ≡ pos 0 → a *ℤ a +ℤ b *ℤ b ≡ s → pos 0 <ℤ s → ⊥
opposite-zero a b s ha hb e hs = clash (a ∷ b ∷ s ∷ []) (lt hs ⊞ lt hs ⊞ eq (pos 2) e ⊞ eq (neg_ℤ a) ha ⊞ eq (neg_ℤ b) hb ⊞ nn 1)
    (search poly depth 30) tt

module _ (F : Lifted) where
  opposite_different : (a b : Point) → value F a ≡ pos 0 → pos 0 <ℤ squared_radius F → Opposite (arm F a) (arm F b) → a ≢ b
  opposite_different a b ha hs o e = opposite-zero (arm F a).x (arm F a).y (squared_radius F) at_a.0 at_a.1 (boundary_length F a ha) hs
    where
      at_a : Opposite (arm F a) (arm F a)
      at_a = subst (λ (q : Point). Opposite (arm F a) (arm F q)) (sym e) o

  turn_different : (a b : Point) → pos 0 <ℤ cross (arm F a) (arm F b) → a ≢ b
  turn_different a b h e = <-≤_clash h (≤_of_eq (subst (λ (q : Point). cross (arm F a) (arm F q) ≡ pos 0) e (cross_self (arm F a))))

pub different_one : (a : Point) → Different (a ∷ [])
different_one a = (λ m. Memᴰ.not-nil m, tt)

pub different_two : {a b : Point} → a ≢ b → Different (a ∷ b ∷ [])
different_two {a} {b} n = (λ m. n (Memᴰ.eq_of_singleton m), different_one b)

pub different_three : {a b c : Point} → a ≢ b → b ≢ c → c ≢ a → Different (a ∷ b ∷ c ∷ [])
different_three {a} {b} {c} n1 n2 n3 = (λ m. go (Memᴰ.cases_cons m), different_two n2)
  where
    go : (a ≡ b) ⊎ In a (c ∷ []) → ⊥
    go (inl e) = n1 e
    go (inr m) = n3 (sym (Memᴰ.eq_of_singleton m))

-- ---- there is one

add_arms : (a b c d e f : ℤ) → (a +ℤ b) *ℤ e +ℤ (c +ℤ d) *ℤ f ≡ (a *ℤ e +ℤ c *ℤ f) +ℤ (b *ℤ e +ℤ d *ℤ f)
add_arms a b c d e f = ring (a ∷ b ∷ c ∷ d ∷ e ∷ f ∷ []) (search poly depth 30) tt

module _ {P : List Point} {F : Lifted} (m : StronglyMinimal P [] F) where
  -- the boundary points are not all in one cone
  no_cone : {Q : List Point} → ((p : Point) → In p P → value F p ≡ pos 0 → In p Q) → Cone (arm F) Q → ⊥
  no_cone all k = no_side m (record { x = (arm F k.l).x +ℤ (arm F k.r).x; y = (arm F k.l).y +ℤ (arm F k.r).y })
      (λ p i z. subst (λ (w : ℤ). pos 0 <ℤ w)
      (sym (add_arms (arm F k.l).x (arm F k.r).x (arm F k.l).y (arm F k.r).y (arm F p).x (arm F p).y)) (k.front p (all p i z)))

  module _ (c : Point) (qs : List Point) (inside : (p : Point) → In p (c ∷ qs) → In p P)
      (on_boundary_is : (p : Point) → In p (c ∷ qs) → value F p ≡ pos 0)
      (all : (p : Point) → In p P → value F p ≡ pos 0 → In p (c ∷ qs)) where
    proper : pos 0 <ℤ F.e
    proper = m.feasible.proper

    supported_by : Placed (arm F) (c ∷ qs) → pos 0 <ℤ squared_radius F → Supported P F
    supported_by (cone k) hs = absurd (no_cone all k)
    supported_by (opposite a b ma mb o) hs = two a b (record {
      members = also (λ p. In p P) (inside a ma) (also (λ p. In p P) (inside b mb) (none_of (λ p. In p P)));
      on_boundary_is = also (λ p. value F p ≡ pos 0) (on_boundary_is a ma) (also (λ p. value F p ≡ pos 0) (on_boundary_is b mb) (none_of (λ p. value F p ≡ pos 0)));
      different = different_two (opposite_different F a b (on_boundary_is a ma) hs o);
      own = two_strong F proper a b (on_boundary_is a ma) (on_boundary_is b mb) o;
    })
    supported_by (around a b d ma mb md h1 h2 h3) hs = three a b d (record {
      members = also (λ p. In p P) (inside a ma) (also (λ p. In p P) (inside b mb) (also (λ p. In p P) (inside d md) (none_of (λ p. In p P))));
      on_boundary_is = also (λ p. value F p ≡ pos 0) (on_boundary_is a ma)
          (also (λ p. value F p ≡ pos 0) (on_boundary_is b mb) (also (λ p. value F p ≡ pos 0) (on_boundary_is d md) (none_of (λ p. value F p ≡ pos 0))));
      different = different_three (turn_different F a b h1) (turn_different F b d h2) (turn_different F d a h3);
      own = three_strong F proper a b d (on_boundary_is a ma) (on_boundary_is b mb) (on_boundary_is d md) h1 h2 h3;
    })

    some_boundary : Compared (pos 0) (squared_radius F) → Supported P F
    some_boundary (less h) = supported_by (placed (arm F) (squared_radius F) h c qs (λ p i. boundary_length F p (on_boundary_is p i))) h
    some_boundary (more h) = <-≤_clash h (subst (λ (z : ℤ). pos 0 ≤ℤ z) (boundary_length F c (on_boundary_is c (Memᴰ.head refl)))
        (sq (arm F c).x ⊞ sq (arm F c).y))
    some_boundary (same z) = one c (record {
      members = also (λ p. In p P) (inside c (Memᴰ.head refl)) (none_of (λ p. In p P));
      on_boundary_is = also (λ p. value F p ≡ pos 0) at_c (none_of (λ p. value F p ≡ pos 0));
      different = different_one c;
      own = one_strong F proper c at_c zero.0 zero.1;
    })
      where
        at_c : value F c ≡ pos 0
        at_c = on_boundary_is c (Memᴰ.head refl)

        zero : ((arm F c).x ≡ pos 0) × ((arm F c).y ≡ pos 0)
        zero = sum_squares_zero (arm F c).x (arm F c).y (boundary_length F c at_c ∙ sym z)

  from_boundary : (Q : List Point) → ((p : Point) → In p Q → In p P) → ((p : Point) → In p Q → value F p ≡ pos 0)
      → ((p : Point) → In p P → value F p ≡ pos 0 → In p Q) → Supported P F
  from_boundary [] i o a = absurd (no_side m (record { x = pos 0; y = pos 0 }) (λ p k z. absurd (Memᴰ.not-nil (a p k z))))
  from_boundary (c ∷ qs) i o a = some_boundary c qs i o a (compared (pos 0) (squared_radius F))

pub support : {P : List Point} {F : Lifted} → StronglyMinimal P [] F → Supported P F
support {P} {F} m = let r = boundary_of F P in from_boundary m r.points r.inside r.on_boundary_is r.all
