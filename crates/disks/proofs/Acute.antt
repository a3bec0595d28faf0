-- Which pairs and triples are support sets: what a search can test.
--
--   angle a b c      == (b − a)·(c − a): positive where the angle at a is acute
--   Kind a b c F      == F is the disk over one of the three sides; or the three are on its boundary and all angles are acute
--   pair_own, blunt   : the disk over b, c is strongly minimal for b and c, and so for a too where the angle at a is not acute
--   kind              : a strongly minimal disk of three points is of one of the two kinds
--   acute_strong      : three boundary points with acute angles have the disk as their own
use mathlib.Core.Path.{◌≡◌, refl, sym, ◌∙◌, ap, subst}
use mathlib.Core.Logic.{◌⊎◌, inl, inr}
use mathlib.Core.List.Memᴰ
use mathlib.Core.List.{[], ◌∷◌, Permᴰ}
use lib.IntN.{ℤ, pos, neg_ℤ, ◌+ℤ◌, ◌-ℤ◌, ◌*ℤ◌}
use lib.Signed.{◌≤ℤ◌, ◌<ℤ◌}
use Rattle.integers.proofs.Ring.{ring, poly, linear, eqn, ◌&◌}
use Rattle.integers.proofs.Order.{≤_of_eq, ≤_of_<, ≤-or-<, nonneg, clash, le, lt, eq, sq, nn, ◌⊞◌, ◌⊠◌, <-≤_clash, *-pos, Compared, less, same, more}
use Rattle.integers.proofs.Order.{compared, sum_squares_zero}
use Rattle.geometry.specs.declared.Point.{Point}
use Rattle.point_lists.proofs.Sets.{none_of, also}
use Rattle.disks.proofs.Lifted.{Lifted, value, squared_radius}
use Rattle.disks.proofs.Minimal.{StronglyMinimal, strong_same, held}
use Rattle.disks.proofs.Base.{Multiple, pair_form, pair_first, pair_second, pair-gap, positive_two}
use Rattle.disks.proofs.Lists.{perm_same}
use Rattle.disks.proofs.Unique.{strong_unique, leave_out, square_positive}
use Rattle.disks.proofs.Arms.{dot, cross, flip}
use Rattle.disks.proofs.AboutCentre.{arm, boundary_length, three_strong}

abbrev pub angle : Point → Point → Point → ℤ
angle a b c = (b.x -ℤ a.x) *ℤ (c.x -ℤ a.x) +ℤ (b.y -ℤ a.y) *ℤ (c.y -ℤ a.y)

-- ---- the disk over a side

minus_twice : (v w : ℤ) → v ≤ℤ pos 0 → w ≤ℤ pos 0 → pos 0 ≤ℤ neg_ℤ (pos 2 *ℤ v +ℤ pos 2 *ℤ w)
minus_twice v w h k = nonneg (v ∷ w ∷ []) (nn 2 ⊠ le h ⊞ nn 2 ⊠ le k) (search poly depth 30) tt

pub pair_own : (b c : Point) → StronglyMinimal (b ∷ c ∷ []) [] (pair_form b c)
pair_own b c = record {
  feasible = record {
    proper = positive_two;
    holds = also Held (≤_of_eq (pair_first b c))
        (also Held (≤_of_eq (pair_second b c)) (none_of Held));
    on_boundary_is = none_of (λ p. value (pair_form b c) p ≡ pos 0);
  };
  least = λ G f. subst (λ (z : ℤ). pos 0 ≤ℤ z) (sym (pair-gap b c G))
      (minus_twice (value G b) (value G c) (f.holds b (Memᴰ.head refl)) (f.holds c (Memᴰ.tail (Memᴰ.head refl))));
}
  where
    Held : Point → Type 0
    Held p = value (pair_form b c) p ≤ℤ pos 0

pub pair_angle : (a b c : Point) → value (pair_form b c) a ≡ pos 2 *ℤ angle a b c
pair_angle a b c = ring (a.x ∷ a.y ∷ b.x ∷ b.y ∷ c.x ∷ c.y ∷ []) (search poly depth 30) tt

pub blunt : (a b c : Point) → angle a b c ≤ℤ pos 0 → StronglyMinimal (a ∷ b ∷ c ∷ []) [] (pair_form b c)
blunt a b c h = held (pair_own b c) (subst (λ (z : ℤ). z ≤ℤ pos 0) (sym (pair_angle a b c)) (twice (angle a b c) h))
  where
    twice : (d : ℤ) → d ≤ℤ pos 0 → (pos 2 *ℤ d) ≤ℤ pos 0
    twice d k = nonneg (d ∷ []) (nn 2 ⊠ le k) (search poly depth 30) tt

-- ---- a strongly minimal disk of three points

pub data Kind (a b c : Point) (F : Lifted) : Type 0 where
  side_bc : Multiple F (pair_form b c) → Kind a b c F
  side_ac : Multiple F (pair_form a c) → Kind a b c F
  side_ab : Multiple F (pair_form a b) → Kind a b c F
  acute : value F a ≡ pos 0 → value F b ≡ pos 0 → value F c ≡ pos 0 → pos 0 <ℤ angle a b c → pos 0 <ℤ angle b a c → pos 0 <ℤ angle c a b
      → Kind a b c F

second_first : (a b c : Point) → Permᴰ (a ∷ b ∷ c ∷ []) (b ∷ a ∷ c ∷ [])
second_first a b c = Permᴰ.swap refl refl

third_first : (a b c : Point) → Permᴰ (a ∷ b ∷ c ∷ []) (c ∷ a ∷ b ∷ [])
third_first a b c = Permᴰ.trans (Permᴰ.cons refl (Permᴰ.swap refl refl)) (Permᴰ.swap refl refl)

pub kind : (a b c : Point) {F : Lifted} → StronglyMinimal (a ∷ b ∷ c ∷ []) [] F → Kind a b c F
kind a b c {F} m = go (compared (value F a) (pos 0)) (compared (value F b) (pos 0)) (compared (value F c) (pos 0)) (≤-or-< (angle a b c) (pos 0))
    (≤-or-< (angle b a c) (pos 0)) (≤-or-< (angle c a b) (pos 0))
  where
    m_b : StronglyMinimal (b ∷ a ∷ c ∷ []) [] F
    m_b = strong_same (perm_same (second_first a b c)) m

    m_c : StronglyMinimal (c ∷ a ∷ b ∷ []) [] F
    m_c = strong_same (perm_same (third_first a b c)) m

    go : Compared (value F a) (pos 0) → Compared (value F b) (pos 0) → Compared (value F c) (pos 0)
        → (angle a b c ≤ℤ pos 0) ⊎ (pos 0 <ℤ angle a b c) → (angle b a c ≤ℤ pos 0) ⊎ (pos 0 <ℤ angle b a c)
        → (angle c a b ≤ℤ pos 0) ⊎ (pos 0 <ℤ angle c a b) → Kind a b c F
    go (less h) vb vc ka kb kc = side_bc (strong_unique (leave_out m h) (pair_own b c))
    go (more h) vb vc ka kb kc = <-≤_clash h (m_b.feasible.holds a (Memᴰ.tail (Memᴰ.head refl)))
    go (same za) (less h) vc ka kb kc = side_ac (strong_unique (leave_out m_b h) (pair_own a c))
    go (same za) (more h) vc ka kb kc = <-≤_clash h (m_b.feasible.holds b (Memᴰ.head refl))
    go (same za) (same zb) (less h) ka kb kc = side_ab (strong_unique (leave_out m_c h) (pair_own a b))
    go (same za) (same zb) (more h) ka kb kc = <-≤_clash h (m_c.feasible.holds c (Memᴰ.head refl))
    go (same za) (same zb) (same zc) (inl h) kb kc = side_bc (strong_unique m (blunt a b c h))
    go (same za) (same zb) (same zc) (inr ka) (inl h) kc = side_ac (strong_unique m_b (blunt b a c h))
    go (same za) (same zb) (same zc) (inr ka) (inr kb) (inl h) = side_ab (strong_unique m_c (blunt c a b h))
    go (same za) (same zb) (same zc) (inr ka) (inr kb) (inr kc) = acute za zb zc ka kb kc

-- ---- angles and arms

-- arms of one length: twice the triangle, times a turn of two arms, is the side squared times the angle
turn_angle : (A B C : Point) (s : ℤ) → dot A A ≡ s → dot B B ≡ s → dot C C ≡ s
    → (pos 2 *ℤ (cross A B +ℤ cross B C +ℤ cross C A)) *ℤ cross B C
    ≡ ((C.x -ℤ B.x) *ℤ (C.x -ℤ B.x) +ℤ (C.y -ℤ B.y) *ℤ (C.y -ℤ B.y)) *ℤ angle A B C
turn_angle A B C s ha hb hc = linear (A.x ∷ A.y ∷ B.x ∷ B.y ∷ C.x ∷ C.y ∷ s ∷ [])
    (eqn (neg_ℤ (dot B B -ℤ dot B C) -ℤ (dot C C -ℤ dot B C)) ha & eqn ((dot C C -ℤ dot B C) -ℤ (dot C A -ℤ dot A B)) hb
    & eqn ((dot B B -ℤ dot B C) +ℤ (dot C A -ℤ dot A B)) hc) (search poly depth 30) tt

arm_angle : (F : Lifted) (a b c : Point) → angle (arm F a) (arm F b) (arm F c) ≡ (F.e *ℤ F.e) *ℤ angle a b c
arm_angle F a b c = ring (F.e ∷ F.cx ∷ F.cy ∷ a.x ∷ a.y ∷ b.x ∷ b.y ∷ c.x ∷ c.y ∷ []) (search poly depth 30) tt

-- a vector with a positive product is not zero
not_zero : (u v m n : ℤ) → pos 0 <ℤ (u *ℤ m +ℤ v *ℤ n) → pos 0 <ℤ (u *ℤ u +ℤ v *ℤ v)
not_zero u v m n h = go (compared (pos 0) (u *ℤ u +ℤ v *ℤ v))
  where
    none : (u ≡ pos 0) × (v ≡ pos 0) → pos 0 <ℤ (u *ℤ u +ℤ v *ℤ v)
    none z = clash (u ∷ v ∷ m ∷ n ∷ []) (lt h ⊞ eq (neg_ℤ m) z.0 ⊞ eq (neg_ℤ n) z.1) (search poly depth 30) tt

    go : Compared (pos 0) (u *ℤ u +ℤ v *ℤ v) → pos 0 <ℤ (u *ℤ u +ℤ v *ℤ v)
    go (less k) = k
    go (same z) = none (sum_squares_zero u v (sym z))
    go (more k) = <-≤_clash k (sq u ⊞ sq v)

-- w·x = n·d with n and d positive: x has the sign of w
sign_with : (w x n d : ℤ) → (pos 2 *ℤ w) *ℤ x ≡ n *ℤ d → pos 0 <ℤ n → pos 0 <ℤ d → pos 0 <ℤ w → pos 0 <ℤ x
sign_with w x n d e hn hd hw = go (≤-or-< x (pos 0))
  where
    go : (x ≤ℤ pos 0) ⊎ (pos 0 <ℤ x) → pos 0 <ℤ x
    go (inr h) = h
    go (inl h) = clash (w ∷ x ∷ n ∷ d ∷ []) (nn 2 ⊠ (le (≤_of_< hw) ⊠ le h) ⊞ lt hn ⊠ lt hd ⊞ lt hn ⊞ lt hd ⊞ eq (pos 1) e) (search poly depth 30) tt

sign_against : (w x n d : ℤ) → (pos 2 *ℤ w) *ℤ x ≡ n *ℤ d → pos 0 <ℤ n → pos 0 <ℤ d → w <ℤ pos 0 → x <ℤ pos 0
sign_against w x n d e hn hd hw = go (≤-or-< (pos 0) x)
  where
    go : (pos 0 ≤ℤ x) ⊎ (x <ℤ pos 0) → x <ℤ pos 0
    go (inr h) = h
    go (inl h) = clash (w ∷ x ∷ n ∷ d ∷ []) (nn 2 ⊠ (le (≤_of_< hw) ⊠ h) ⊞ lt hn ⊠ lt hd ⊞ lt hn ⊞ lt hd ⊞ eq (pos 1) e) (search poly depth 30) tt

sign_none : {X : Type 0} (w x n d : ℤ) → (pos 2 *ℤ w) *ℤ x ≡ n *ℤ d → pos 0 <ℤ n → pos 0 <ℤ d → pos 0 ≡ w → X
sign_none w x n d e hn hd z = clash (w ∷ x ∷ n ∷ d ∷ []) (lt hn ⊠ lt hd ⊞ lt hn ⊞ lt hd ⊞ eq (pos 1) e ⊞ eq (pos 2 *ℤ x) z) (search poly depth 30) tt

rotated : (a b c : ℤ) → a +ℤ b +ℤ c ≡ b +ℤ c +ℤ a
rotated a b c = ring (a ∷ b ∷ c ∷ []) (search poly depth 30) tt

module _ (F : Lifted) (proper : pos 0 <ℤ F.e) (a b c : Point) (ha : value F a ≡ pos 0) (hb : value F b ≡ pos 0) (hc : value F c ≡ pos 0) where
  abbrev A : Point
  A = arm F a

  abbrev B : Point
  B = arm F b

  abbrev C : Point
  C = arm F c

  abbrev area : ℤ
  area = cross A B +ℤ cross B C +ℤ cross C A

  abbrev side : Point → Point → ℤ
  side p q = (q.x -ℤ p.x) *ℤ (q.x -ℤ p.x) +ℤ (q.y -ℤ p.y) *ℤ (q.y -ℤ p.y)

  at_a : (pos 2 *ℤ area) *ℤ cross B C ≡ side B C *ℤ angle A B C
  at_a = turn_angle A B C (squared_radius F) (boundary_length F a ha) (boundary_length F b hb) (boundary_length F c hc)

  at_b : (pos 2 *ℤ area) *ℤ cross C A ≡ side C A *ℤ angle B C A
  at_b = ap (λ (w : ℤ). (pos 2 *ℤ w) *ℤ cross C A) (rotated (cross A B) (cross B C) (cross C A)) ∙ turn_angle B C A (squared_radius F)
      (boundary_length F b hb) (boundary_length F c hc) (boundary_length F a ha)

  at_c : (pos 2 *ℤ area) *ℤ cross A B ≡ side A B *ℤ angle C A B
  at_c = ap (λ (w : ℤ). (pos 2 *ℤ w) *ℤ cross A B) (sym (rotated (cross C A) (cross A B) (cross B C))) ∙ turn_angle C A B (squared_radius F)
      (boundary_length F c hc) (boundary_length F a ha) (boundary_length F b hb)

  module _ (ka : pos 0 <ℤ angle a b c) (kb : pos 0 <ℤ angle b c a) (kc : pos 0 <ℤ angle c a b) where
    arm_a : pos 0 <ℤ angle A B C
    arm_a = subst (λ (z : ℤ). pos 0 <ℤ z) (sym (arm_angle F a b c)) (*-pos (square_positive proper) ka)

    arm_b : pos 0 <ℤ angle B C A
    arm_b = subst (λ (z : ℤ). pos 0 <ℤ z) (sym (arm_angle F b c a)) (*-pos (square_positive proper) kb)

    arm_c : pos 0 <ℤ angle C A B
    arm_c = subst (λ (z : ℤ). pos 0 <ℤ z) (sym (arm_angle F c a b)) (*-pos (square_positive proper) kc)

    side_a : pos 0 <ℤ side B C
    side_a = not_zero (C.x -ℤ B.x) (C.y -ℤ B.y) (A.x -ℤ B.x) (A.y -ℤ B.y) arm_b

    side_b : pos 0 <ℤ side C A
    side_b = not_zero (A.x -ℤ C.x) (A.y -ℤ C.y) (B.x -ℤ C.x) (B.y -ℤ C.y) arm_c

    side_c : pos 0 <ℤ side A B
    side_c = not_zero (B.x -ℤ A.x) (B.y -ℤ A.y) (C.x -ℤ A.x) (C.y -ℤ A.y) arm_a

    pub acute_strong : StronglyMinimal (a ∷ b ∷ c ∷ []) [] F
    acute_strong = go (compared (pos 0) area)
      where
        go : Compared (pos 0) area → StronglyMinimal (a ∷ b ∷ c ∷ []) [] F
        go (less h) = three_strong F proper a b c ha hb hc
            (sign_with area (cross A B) (side A B) (angle C A B) at_c side_c arm_c h)
            (sign_with area (cross B C) (side B C) (angle A B C) at_a side_a arm_a h)
            (sign_with area (cross C A) (side C A) (angle B C A) at_b side_b arm_b h)
        go (same z) = sign_none area (cross B C) (side B C) (angle A B C) at_a side_a arm_a z
        go (more h) = strong_same (perm_same (Permᴰ.cons refl (Permᴰ.swap refl refl))) (three_strong F proper a c b ha hc hb
            (flip C A (sign_against area (cross C A) (side C A) (angle B C A) at_b side_b arm_b h))
            (flip B C (sign_against area (cross B C) (side B C) (angle A B C) at_a side_a arm_a h))
            (flip A B (sign_against area (cross A B) (side A B) (angle C A B) at_c side_c arm_c h)))
