-- What code can test in place of the definition, for a disk with E ≥ 1 in lowest terms: the points by their coordinates and the disk's numbers.
--
--   raised d q, raised_written : the disk d as a form, by a point q on its boundary
--   belongs-one    : a point belongs to the disk where and only where it is on the boundary and the radius is 0
--   belongs-two    : two points, where one is on the boundary and they are opposite
--   belongs-three  : three, where all are on the boundary and the angles are acute
use mathlib.Core.Path.{◌≡◌, refl, sym, ◌∙◌, subst}
use mathlib.Core.Logic.{◌≢◌}
use mathlib.Core.Bool.{Bool, true, not, ◌&&◌}
use mathlib.Core.List.{List, [], ◌∷◌}
use Prim.Native.Nat.{◌≤◌}
use native.Mathlib.Omega.{arith}
use lib.Dec.{T, not_T, eqb}
use lib.IntN.{ℤ, pos, negsuc, ◌+ℤ◌, ◌-ℤ◌, ◌*ℤ◌}
use lib.Signed.{◌<ℤ◌}
use Rattle.integers.proofs.Tests.{and_left, and_right, and_both, same_test}
use Rattle.integers.proofs.Laws.{eq_of_sub}
use Rattle.integers.proofs.Ring.{ring, poly, linear, eqn, ◌&◌}
use Rattle.integers.proofs.Order.{eq_z_eq, eq_eq_z, ≡_cancel, sum_squares_zero, clash, lt, eq, nn, ◌⊞◌}
use Rattle.divisors.specs.Divisor.{Reduced}
use Rattle.geometry.specs.declared.Point.{Point}
use Rattle.geometry.specs.Plane.{Disk, distance, on_boundary}
use Rattle.point_lists.proofs.Sets.{same_refl, point_path}
use Rattle.disks.specs.Smallest.{Smallest}
use Rattle.disks.specs.Support.{fronted}
use Rattle.disks.proofs.Lifted.{Lifted, value, squared_radius}
use Rattle.disks.proofs.Minimal.{StronglyMinimal}
use Rattle.disks.proofs.Base.{Multiple, multiple_value, point_form, point_value, pair_form, pair_first, pair_second, positive_one, positive_two}
use Rattle.disks.proofs.Base.{positive_not_zero}
use Rattle.disks.proofs.Relative.{relative}
use Rattle.disks.proofs.LiftedProcedure.{lifted_mtf}
use Rattle.disks.proofs.Correct.{mtf_strong}
use Rattle.disks.proofs.LowestTerms.{Written}
use Rattle.disks.proofs.Bridge.{strong_written}
use Rattle.disks.proofs.StrongSmallest.{some_positive, strong_smallest}
use Rattle.disks.proofs.OneWriting.{smallest_same}
use Rattle.disks.proofs.Unique.{strong_unique, strong_multiple, multiple_sym}
use Rattle.disks.proofs.Own.{point_own, smallest_strong}
use Rattle.disks.proofs.Acute.{angle, pair_own, pair_angle, kind, Kind, side_bc, side_ac, side_ab, acute}
use Rattle.support_tests.specs.Tests as tests
use Rattle.support_tests.specs.Tests.{on_boundary_test, midway, opposite, acute_at, fits}
use Rattle.support_tests.proofs.SetTests.{on_value, value_on, one_strong, strong_one, two_strong, strong_two, three_strong, acute-three}
use Rattle.belonging.specs.Belonging.{is_disk_of, left_out, none_has, belongs, Belong}
use Rattle.belonging.proofs.Meaning.{is_disk_of_lem, none_smallest, belongs_meaning}

-- ---- a multiple of a form has the same boundary

zero_by : (e f u v : ℤ) → e *ℤ u ≡ f *ℤ v → pos 0 <ℤ e → v ≡ pos 0 → u ≡ pos 0
zero_by e f u v q he h = ≡_cancel (positive_not_zero he) (linear (e ∷ f ∷ u ∷ v ∷ []) (eqn (pos 1) q & eqn f h) (search poly depth 30) tt)

on_multiple : {F G : Lifted} (a : Point) → pos 0 <ℤ F.e → Multiple F G → value F a ≡ pos 0 → value G a ≡ pos 0
on_multiple {F} {G} a h u k = zero_by F.e G.e (value G a) (value F a) (multiple_value u a) h k

-- ---- points that belong pass

module _ {p : Point} {ps : List Point} {d : Disk} (m : Smallest (p ∷ ps) d) where
  abbrev F : Lifted
  F = (lifted_mtf (p ∷ ps)).disk

  strong : StronglyMinimal (p ∷ ps) [] F
  strong = mtf_strong p ps

  proper : pos 0 <ℤ F.e
  proper = strong.feasible.proper

  w : Written F d
  w = subst (Written F) (smallest_same (same_refl (p ∷ ps)) (same_refl []) (strong_smallest strong (strong_written strong)) m) (strong_written strong)

  -- the disk over two of the points: these two have it as their own
  own_pair : (a b : Point) → Multiple F (pair_form a b) → Smallest (a ∷ b ∷ []) d
  own_pair a b u = strong_smallest (strong_multiple (pair_own a b) proper (multiple_sym u)) w

one_passes : {a : Point} {d : Disk} → Smallest (a ∷ []) d → T (on_boundary_test d a && eqb d.s 0)
unfolding fits
one_passes {a} {d} m =
    and_both (on_boundary_test d a) (eqb d.s 0) (value_on (proper m) (w m) a here) (strong_one (proper m) (w m) a here (strong m))
  where
    here : value (F m) a ≡ pos 0
    here = on_multiple a positive_one (multiple_sym (strong_unique (strong m) (point_own a))) (point_value a)

two-pass : {a b : Point} {d : Disk} → Smallest (a ∷ b ∷ []) d → T (on_boundary_test d a && opposite d a b)
unfolding fits
two-pass {a} {b} {d} m =
    and_both (on_boundary_test d a) (opposite d a b) (value_on (proper m) (w m) a first) (strong_two (proper m) (w m) a b first second (strong m))
  where
    pair : Multiple (pair_form a b) (F m)
    pair = multiple_sym (strong_unique (strong m) (pair_own a b))

    first : value (F m) a ≡ pos 0
    first = on_multiple a positive_two pair (pair_first a b)

    second : value (F m) b ≡ pos 0
    second = on_multiple b positive_two pair (pair_second a b)

three-pass : {a b c : Point} {d : Disk} → Belong d (a ∷ b ∷ c ∷ [])
    → T (on_boundary_test d a && (on_boundary_test d b && (on_boundary_test d c && tests.acute a b c)))
unfolding fits
three-pass {a} {b} {c} {d} h = go (kind a b c (strong h.own))
  where
    on : (q : Point) → value (F h.own) q ≡ pos 0 → T (on_boundary_test d q)
    on q k = value_on (proper h.own) (w h.own) q k

    go : Kind a b c (F h.own) → T (on_boundary_test d a && (on_boundary_test d b && (on_boundary_test d c && tests.acute a b c)))
    go (side_bc u) = absurd (h.needed [] a (b ∷ c ∷ []) refl (own_pair h.own b c u))
    go (side_ac u) = absurd (h.needed (a ∷ []) b (c ∷ []) refl (own_pair h.own a c u))
    go (side_ab u) = absurd (h.needed (a ∷ b ∷ []) c [] refl (own_pair h.own a b u))
    go (acute ha hb hc ka kb kc) =
        and_both (on_boundary_test d a) (on_boundary_test d b && (on_boundary_test d c && tests.acute a b c)) (on a ha)
        (and_both (on_boundary_test d b) (on_boundary_test d c && tests.acute a b c) (on b hb)
        (and_both (on_boundary_test d c) (tests.acute a b c) (on c hc) (acute-three d a b c ka kb kc)))

-- ---- the disk as a form

abbrev raised : Disk → Point → Lifted
raised d q = relative q (pos d.e) (d.x -ℤ q.x *ℤ pos d.e) (d.y -ℤ q.y *ℤ pos d.e)

raised_centre : (z e x : ℤ) → z *ℤ e +ℤ (x -ℤ z *ℤ e) ≡ pos 1 *ℤ x
raised_centre z e x = ring (z ∷ e ∷ x ∷ []) (search poly depth 30) tt

raised_radius : (q : Point) (x y e s : ℤ) → (q.x *ℤ e -ℤ x) *ℤ (q.x *ℤ e -ℤ x) +ℤ (q.y *ℤ e -ℤ y) *ℤ (q.y *ℤ e -ℤ y) ≡ s
    → squared_radius (relative q e (x -ℤ q.x *ℤ e) (y -ℤ q.y *ℤ e)) ≡ (pos 1 *ℤ pos 1) *ℤ s
raised_radius q x y e s h = linear (q.x ∷ q.y ∷ x ∷ y ∷ e ∷ s ∷ []) (eqn (pos 1) h) (search poly depth 30) tt

one_times : (e : ℤ) → e ≡ pos 1 *ℤ e
one_times e = ring (e ∷ []) (search poly depth 30) tt

raised_written : (d : Disk) (q : Point) → on_boundary d q → Reduced d.x d.y d.e → Written (raised d q) d
raised_written d q on reduced = record {
  g = 1;
  g_some = omega arith;
  x_is = raised_centre q.x (pos d.e) d.x;
  y_is = raised_centre q.y (pos d.e) d.y;
  e_is = one_times (pos d.e);
  s_is = raised_radius q d.x d.y (pos d.e) (pos d.s) on;
  reduced = reduced;
}

-- ---- points that pass belong

point_apart : (a b : Point) → value (point_form b) a ≡ (a.x -ℤ b.x) *ℤ (a.x -ℤ b.x) +ℤ (a.y -ℤ b.y) *ℤ (a.y -ℤ b.y)
point_apart a b = ring (a.x ∷ a.y ∷ b.x ∷ b.y ∷ []) (search poly depth 30) tt

angle_turned : (a b c : Point) → angle b c a ≡ angle b a c
angle_turned a b c = ring (a.x ∷ a.y ∷ b.x ∷ b.y ∷ c.x ∷ c.y ∷ []) (search poly depth 30) tt

not_acute : {X : Type 0} (v k : ℤ) → v ≡ pos 2 *ℤ k → v ≡ pos 0 → pos 0 <ℤ k → X
not_acute v k e z h = clash (v ∷ k ∷ []) (lt h ⊞ lt h ⊞ nn 1 ⊞ eq (pos 1) e ⊞ eq (negsuc 0) z) (search poly depth 30) tt

-- the other end of a diameter is as far from the centre
as_far : (x y e s p q u v : ℤ) → (p *ℤ e -ℤ x) *ℤ (p *ℤ e -ℤ x) +ℤ (q *ℤ e -ℤ y) *ℤ (q *ℤ e -ℤ y) ≡ s → (p +ℤ u) *ℤ e ≡ pos 2 *ℤ x
    → (q +ℤ v) *ℤ e ≡ pos 2 *ℤ y → (u *ℤ e -ℤ x) *ℤ (u *ℤ e -ℤ x) +ℤ (v *ℤ e -ℤ y) *ℤ (v *ℤ e -ℤ y) ≡ s
as_far x y e s p q u v h kx ky = linear (x ∷ y ∷ e ∷ s ∷ p ∷ q ∷ u ∷ v ∷ []) (eqn (pos 1) h & eqn ((u -ℤ p) *ℤ e) kx & eqn ((v -ℤ q) *ℤ e) ky)
    (search poly depth 30) tt

other_end : (d : Disk) (a b : Point) → T (on_boundary_test d a) → T (opposite d a b) → T (on_boundary_test d b)
unfolding on_boundary_test opposite midway
other_end d a b h t = eq_eq_z (distance d b) (pos d.s) (as_far d.x d.y (pos d.e) (pos d.s) a.x a.y b.x b.y
    (eq_z_eq (distance d a) (pos d.s) h)
    (eq_z_eq ((a.x +ℤ b.x) *ℤ pos d.e) (pos 2 *ℤ d.x) (and_left along_x along_y t))
    (eq_z_eq ((a.y +ℤ b.y) *ℤ pos d.e) (pos 2 *ℤ d.y) (and_right along_x along_y t)))
  where
    along_x : Bool
    along_x = midway a.x b.x d.e d.x

    along_y : Bool
    along_y = midway a.y b.y d.e d.y

module _ (d : Disk) (some : 1 ≤ d.e) (reduced : Reduced d.x d.y d.e) where
  module _ (q : Point) (here : T (on_boundary_test d q)) where
    abbrev G : Lifted
    G = raised d q

    G_proper : pos 0 <ℤ G.e
    G_proper = some_positive some

    G_written : Written G d
    unfolding on_boundary_test
    G_written = raised_written d q (eq_z_eq (distance d q) (pos d.s) here) reduced

    on_G : (a : Point) → T (on_boundary_test d a) → value G a ≡ pos 0
    on_G a t = on_value G_proper G_written a t

    has : (p : Point) (ps : List Point) → StronglyMinimal (p ∷ ps) [] G → T (is_disk_of d (p ∷ ps))
    has p ps m = (is_disk_of_lem d (p ∷ ps)).1 (strong_smallest m G_written)

    -- a boundary point that differs from b: the disk is not b's own
    not_point : (a b : Point) → value G a ≡ pos 0 → a ≢ b → T (not (is_disk_of d (b ∷ [])))
    not_point a b h n = not_T (is_disk_of d (b ∷ [])) (λ t. n (at ((is_disk_of_lem d (b ∷ [])).0 t)))
      where
        apart : Smallest (b ∷ []) d → (a.x -ℤ b.x ≡ pos 0) × (a.y -ℤ b.y ≡ pos 0)
        apart m = sum_squares_zero (a.x -ℤ b.x) (a.y -ℤ b.y) (sym (point_apart a b)
            ∙ on_multiple a G_proper (strong_unique (smallest_strong G G_proper G_written m) (point_own b)) h)

        at : Smallest (b ∷ []) d → a ≡ b
        at m = point_path (eq_of_sub a.x b.x (apart m).0) (eq_of_sub a.y b.y (apart m).1)

    -- a boundary point with an acute angle: the disk is not that over the other two
    not_pair : (a b c : Point) → value G a ≡ pos 0 → pos 0 <ℤ angle a b c → T (not (is_disk_of d (b ∷ c ∷ [])))
    not_pair a b c h k = not_T (is_disk_of d (b ∷ c ∷ [])) (λ t. not_acute (value (pair_form b c) a) (angle a b c) (pair_angle a b c)
        (on_multiple a G_proper (strong_unique (smallest_strong G G_proper G_written ((is_disk_of_lem d (b ∷ c ∷ [])).0 t)) (pair_own b c)) h) k)

    one-belongs : T (eqb d.s 0) → T (belongs d (q ∷ []))
    unfolding belongs left_out none_has fronted fits
    one-belongs t = and_both (is_disk_of d (q ∷ [])) (none_has d ([] ∷ [])) (has q [] (one_strong G_proper G_written q (on_G q here) t))
        (and_both (not (is_disk_of d [])) true (not_T (is_disk_of d []) (λ h. none_smallest ((is_disk_of_lem d []).0 h))) tt)

    two_belong : (b : Point) → q ≢ b → T (opposite d q b) → T (belongs d (q ∷ b ∷ []))
    unfolding belongs left_out none_has fronted fits
    two_belong b n t =
        let on_b = on_G b (other_end d q b here t) in
        and_both (is_disk_of d (q ∷ b ∷ [])) (none_has d ((b ∷ []) ∷ (q ∷ []) ∷ []))
        (has q (b ∷ []) (two_strong G_proper G_written q b (on_G q here) on_b t))
        (and_both (not (is_disk_of d (b ∷ []))) (none_has d ((q ∷ []) ∷ [])) (not_point q b (on_G q here) n)
        (and_both (not (is_disk_of d (q ∷ []))) true (not_point b q on_b (λ e. n (sym e))) tt))

    three_belong : (b c : Point) → T (on_boundary_test d b) → T (on_boundary_test d c) → T (tests.acute q b c) → T (belongs d (q ∷ b ∷ c ∷ []))
    unfolding belongs left_out none_has fronted fits tests.acute acute_at
    three_belong b c on_b on_c t = and_both (is_disk_of d (q ∷ b ∷ c ∷ [])) (none_has d ((b ∷ c ∷ []) ∷ (q ∷ c ∷ []) ∷ (q ∷ b ∷ []) ∷ []))
        (has q (b ∷ c ∷ []) (three_strong d q b c G_proper (on_G q here) (on_G b on_b) (on_G c on_c) t))
        (and_both (not (is_disk_of d (b ∷ c ∷ []))) (none_has d ((q ∷ c ∷ []) ∷ (q ∷ b ∷ []) ∷ []))
        (not_pair q b c (on_G q here) (record { lt = and_left (acute_at q b c) others t }))
        (and_both (not (is_disk_of d (q ∷ c ∷ []))) (none_has d ((q ∷ b ∷ []) ∷ []))
        (not_pair b q c (on_G b on_b) (subst (λ (z : ℤ). pos 0 <ℤ z) (angle_turned q b c) (record { lt = and_left (acute_at b c q) (acute_at c q b) rest })))
        (and_both (not (is_disk_of d (q ∷ b ∷ []))) true
        (not_pair c q b (on_G c on_c) (record { lt = and_right (acute_at b c q) (acute_at c q b) rest })) tt)))
      where
        others : Bool
        others = acute_at b c q && acute_at c q b

        rest : T others
        rest = and_right (acute_at q b c) others t

  -- ---- both ways

  pub belongs-one : (a : Point) → belongs d (a ∷ []) ≡ (on_boundary_test d a && eqb d.s 0)
  belongs-one a = same_test (belongs d (a ∷ [])) (on_boundary_test d a && eqb d.s 0)
      (λ t. one_passes ((belongs_meaning d (a ∷ [])).0 t).own)
      (λ t. one-belongs a (and_left (on_boundary_test d a) (eqb d.s 0) t) (and_right (on_boundary_test d a) (eqb d.s 0) t))

  pub belongs-two : (a b : Point) → a ≢ b → belongs d (a ∷ b ∷ []) ≡ (on_boundary_test d a && opposite d a b)
  belongs-two a b n = same_test (belongs d (a ∷ b ∷ [])) (on_boundary_test d a && opposite d a b)
      (λ t. two-pass ((belongs_meaning d (a ∷ b ∷ [])).0 t).own)
      (λ t. two_belong a (and_left (on_boundary_test d a) (opposite d a b) t) b n (and_right (on_boundary_test d a) (opposite d a b) t))

  pub belongs-three : (a b c : Point)
      → belongs d (a ∷ b ∷ c ∷ []) ≡ (on_boundary_test d a && (on_boundary_test d b && (on_boundary_test d c && tests.acute a b c)))
  belongs-three a b c = same_test (belongs d (a ∷ b ∷ c ∷ [])) (on_boundary_test d a && behind_a)
      (λ t. three-pass ((belongs_meaning d (a ∷ b ∷ c ∷ [])).0 t))
      (λ t. let later = and_right (on_boundary_test d a) behind_a t in
      let last = and_right (on_boundary_test d b) behind_b later in
      three_belong a (and_left (on_boundary_test d a) behind_a t) b c (and_left (on_boundary_test d b) behind_b later)
      (and_left (on_boundary_test d c) (tests.acute a b c) last) (and_right (on_boundary_test d c) (tests.acute a b c) last))
    where
      behind_b : Bool
      behind_b = on_boundary_test d c && tests.acute a b c

      behind_a : Bool
      behind_a = on_boundary_test d b && behind_b
