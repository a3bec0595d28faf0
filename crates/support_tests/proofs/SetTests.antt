-- The tests of sets of boundary points, in the terms of the theory.
--
--   on_value, value_on       : the test of the boundary, and the lifted disk's value
--   one_strong, strong_one   : of points on the boundary, one is a support set where and only where the radius is 0
--   two_strong, strong_two   : two where and only where they are opposite
--   three_strong, acute-three : three with acute angles are one; the angles, as a test
use mathlib.Core.Path.{◌≡◌, sym, ◌∙◌, ap, subst}
use mathlib.Core.Bool.{Bool, ◌&&◌}
use mathlib.Core.List.{[], ◌∷◌}
use Prim.Native.Nat.{ℕ}
use lib.Dec.{T, eqb, eqb→eq}
use lib.IntN.{ℤ, pos, negsuc, ◌+ℤ◌, ◌-ℤ◌, ◌*ℤ◌}
use lib.Signed.{◌<ℤ◌}
use Rattle.integers.proofs.Tests.{and_left, and_right, and_both}
use Rattle.integers.proofs.Order.{eq_z_eq, eq_eq_z, ≡_cancel, sum_squares_zero}
use Rattle.integers.proofs.Laws.{eq_of_sub}
use Rattle.integers.proofs.Ring.{ring, poly, linear, eqn, ◌&◌}
use Rattle.geometry.specs.declared.Point.{Point}
use Rattle.geometry.specs.Plane.{Disk, distance}
use Rattle.disks.proofs.Lifted.{Lifted, value}
use Rattle.disks.proofs.Minimal.{StronglyMinimal}
use Rattle.disks.proofs.Base.{positive_not_zero}
use Rattle.disks.proofs.LowestTerms.{Written, written_value}
use Rattle.disks.proofs.StrongSmallest.{some_positive, written_on}
use Rattle.disks.proofs.Own.{one_test, two_test}
use Rattle.disks.proofs.Acute.{angle, acute_strong}
use Rattle.support_tests.specs.Tests.{on_boundary_test, midway, opposite, acute_at, acute, fits}

-- z·E = R and z·e = r say the same where E = g·e and R = g·r
scaled : (z e r g E R : ℤ) → E ≡ g *ℤ e → R ≡ g *ℤ r → z *ℤ e ≡ r → z *ℤ E ≡ R
scaled z e r g E R p q h = linear (z ∷ e ∷ r ∷ g ∷ E ∷ R ∷ []) (eqn z p & eqn (negsuc 0) q & eqn g h) (search poly depth 30) tt

unscaled : (z e r g E R : ℤ) → pos 0 <ℤ g → E ≡ g *ℤ e → R ≡ g *ℤ r → z *ℤ E ≡ R → z *ℤ e ≡ r
unscaled z e r g E R hg p q h = ≡_cancel (positive_not_zero hg)
    (linear (z ∷ e ∷ r ∷ g ∷ E ∷ R ∷ []) (eqn (negsuc 0 *ℤ z) p & eqn (pos 1) q & eqn (pos 1) h) (search poly depth 30) tt)

twice_scaled : (g x X : ℤ) → X ≡ g *ℤ x → pos 2 *ℤ X ≡ g *ℤ (pos 2 *ℤ x)
twice_scaled g x X h = linear (g ∷ x ∷ X ∷ []) (eqn (pos 2) h) (search poly depth 30) tt

value_none : (E v n d s : ℤ) → E *ℤ v ≡ n *ℤ (d -ℤ s) → pos 0 <ℤ E → d ≡ s → v ≡ pos 0
value_none E v n d s q h_e h = ≡_cancel (positive_not_zero h_e) (linear (E ∷ v ∷ n ∷ d ∷ s ∷ []) (eqn (pos 1) q & eqn n h) (search poly depth 30) tt)

no_distance : (u x v y : ℤ) → u ≡ x → v ≡ y → (u -ℤ x) *ℤ (u -ℤ x) +ℤ (v -ℤ y) *ℤ (v -ℤ y) ≡ pos 0
no_distance u x v y h k = linear (u ∷ x ∷ v ∷ y ∷ []) (eqn (u -ℤ x) h & eqn (v -ℤ y) k) (search poly depth 30) tt

turned : (a b c : Point) → angle b a c ≡ angle b c a
turned a b c = ring (a.x ∷ a.y ∷ b.x ∷ b.y ∷ c.x ∷ c.y ∷ []) (search poly depth 30) tt

pos_eq : (m n : ℕ) → pos m ≡ pos n → m ≡ n
pos_eq m n e = cc

module _ {F : Lifted} {d : Disk} (proper : pos 0 <ℤ F.e) (w : Written F d) where
  abbrev g : ℤ
  g = pos w.g

  factor : pos 0 <ℤ g
  factor = some_positive w.g_some

  pub on_value : (a : Point) → T (on_boundary_test d a) → value F a ≡ pos 0
  unfolding on_boundary_test
  on_value a t = value_none F.e (value F a) (g *ℤ g) (distance d a) (pos d.s) (written_value w a) proper (eq_z_eq (distance d a) (pos d.s) t)

  pub value_on : (a : Point) → value F a ≡ pos 0 → T (on_boundary_test d a)
  unfolding on_boundary_test
  value_on a h = eq_eq_z (distance d a) (pos d.s) (written_on proper w a h)

  -- ---- one point

  pub one_strong : (a : Point) → value F a ≡ pos 0 → T (fits d (a ∷ [])) → StronglyMinimal (a ∷ []) [] F
  unfolding fits
  one_strong a h t = (one_test F proper a h).1 (
    scaled a.x (pos d.e) d.x g F.e F.cx w.e_is w.x_is (eq_of_sub (a.x *ℤ pos d.e) d.x z.0),
    scaled a.y (pos d.e) d.y g F.e F.cy w.e_is w.y_is (eq_of_sub (a.y *ℤ pos d.e) d.y z.1),
  )
    where
      z : (a.x *ℤ pos d.e -ℤ d.x ≡ pos 0) × (a.y *ℤ pos d.e -ℤ d.y ≡ pos 0)
      z = sum_squares_zero (a.x *ℤ pos d.e -ℤ d.x) (a.y *ℤ pos d.e -ℤ d.y) (written_on proper w a h ∙ ap pos (eqb→eq d.s 0 t))

  pub strong_one : (a : Point) → value F a ≡ pos 0 → StronglyMinimal (a ∷ []) [] F → T (fits d (a ∷ []))
  unfolding fits
  strong_one a h m = subst (λ (n : ℕ). T (eqb n 0)) (sym (pos_eq d.s 0 (sym (written_on proper w a h) ∙ none))) tt
    where
      centre : (a.x *ℤ F.e ≡ F.cx) × (a.y *ℤ F.e ≡ F.cy)
      centre = (one_test F proper a h).0 m

      none : distance d a ≡ pos 0
      none = no_distance (a.x *ℤ pos d.e) d.x (a.y *ℤ pos d.e) d.y
          (unscaled a.x (pos d.e) d.x g F.e F.cx factor w.e_is w.x_is centre.0)
          (unscaled a.y (pos d.e) d.y g F.e F.cy factor w.e_is w.y_is centre.1)

  -- ---- two

  module _ (a b : Point) (ha : value F a ≡ pos 0) (hb : value F b ≡ pos 0) where
    abbrev along_x : Bool
    along_x = midway a.x b.x d.e d.x

    abbrev along_y : Bool
    along_y = midway a.y b.y d.e d.y

    pub two_strong : T (fits d (a ∷ b ∷ [])) → StronglyMinimal (a ∷ b ∷ []) [] F
    unfolding fits opposite midway
    two_strong t = (two_test F proper a b ha hb).1 (
      scaled (a.x +ℤ b.x) (pos d.e) (pos 2 *ℤ d.x) g F.e (pos 2 *ℤ F.cx) w.e_is (twice_scaled g d.x F.cx w.x_is)
          (eq_z_eq ((a.x +ℤ b.x) *ℤ pos d.e) (pos 2 *ℤ d.x) (and_left along_x along_y t)),
      scaled (a.y +ℤ b.y) (pos d.e) (pos 2 *ℤ d.y) g F.e (pos 2 *ℤ F.cy) w.e_is (twice_scaled g d.y F.cy w.y_is)
          (eq_z_eq ((a.y +ℤ b.y) *ℤ pos d.e) (pos 2 *ℤ d.y) (and_right along_x along_y t)),
    )

    pub strong_two : StronglyMinimal (a ∷ b ∷ []) [] F → T (fits d (a ∷ b ∷ []))
    unfolding fits opposite midway
    strong_two m = and_both along_x along_y
        (eq_eq_z ((a.x +ℤ b.x) *ℤ pos d.e) (pos 2 *ℤ d.x)
        (unscaled (a.x +ℤ b.x) (pos d.e) (pos 2 *ℤ d.x) g F.e (pos 2 *ℤ F.cx) factor w.e_is (twice_scaled g d.x F.cx w.x_is)
        centre.0))
        (eq_eq_z ((a.y +ℤ b.y) *ℤ pos d.e) (pos 2 *ℤ d.y)
        (unscaled (a.y +ℤ b.y) (pos d.e) (pos 2 *ℤ d.y) g F.e (pos 2 *ℤ F.cy) factor w.e_is (twice_scaled g d.y F.cy w.y_is)
        centre.1))
      where
        centre : ((a.x +ℤ b.x) *ℤ F.e ≡ pos 2 *ℤ F.cx) × ((a.y +ℤ b.y) *ℤ F.e ≡ pos 2 *ℤ F.cy)
        centre = (two_test F proper a b ha hb).0 m

-- ---- three

abbrev others : Point → Point → Point → Bool
others a b c = acute_at b c a && acute_at c a b

pub three_strong : {F : Lifted} (d : Disk) (a b c : Point) → pos 0 <ℤ F.e → value F a ≡ pos 0 → value F b ≡ pos 0 → value F c ≡ pos 0
    → T (fits d (a ∷ b ∷ c ∷ [])) → StronglyMinimal (a ∷ b ∷ c ∷ []) [] F
unfolding fits acute acute_at
three_strong {F} d a b c proper ha hb hc t = acute_strong F proper a b c ha hb hc
    (record { lt = and_left (acute_at a b c) (others a b c) t })
    (record { lt = and_left (acute_at b c a) (acute_at c a b) rest })
    (record { lt = and_right (acute_at b c a) (acute_at c a b) rest })
  where
    rest : T (others a b c)
    rest = and_right (acute_at a b c) (others a b c) t

pub acute-three : (d : Disk) (a b c : Point) → pos 0 <ℤ angle a b c → pos 0 <ℤ angle b a c → pos 0 <ℤ angle c a b → T (fits d (a ∷ b ∷ c ∷ []))
unfolding fits acute acute_at
acute-three d a b c ka kb kc = and_both (acute_at a b c) (others a b c) ka.lt
    (and_both (acute_at b c a) (acute_at c a b) (subst (λ (z : ℤ). pos 0 <ℤ z) (turned a b c) kb).lt kc.lt)
