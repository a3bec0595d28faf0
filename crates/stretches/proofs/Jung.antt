-- Jung's bound (02, item 11: "W × E² is at most 4S and at least 3S").
--
--   most_held      : two points that a disk holds are no farther apart than its diameter
--   jung_lifted    : the least bound, of a strongly minimal disk. Were all points nearer, the sum of the arms of a support set would have a positive
--                    product with each of them: all of them would lie on one side of the centre, and the disk would not be the smallest
--   jung_most, jung_least : W-as-E² ≤ 4S and 3S ≤ W-as-E², for d the smallest disk of P and s its widest stretch
use mathlib.Core.Path.{◌≡◌, refl, sym, ◌∙◌, subst}
use mathlib.Core.Logic.{◌⊎◌, inl, inr}
use mathlib.Core.List.Memᴰ
use mathlib.Core.List.{List, [], ◌∷◌}
use Prim.Native.Nat.{◌*◌, ◌≤◌}
use lib.IntN.{ℤ, pos, neg_ℤ, ◌+ℤ◌, ◌-ℤ◌, ◌*ℤ◌}
use Rattle.integers.specs.Order.{◌≼◌, ◌≺◌}
use Rattle.integers.proofs.Ring.{ring, poly}
use Rattle.integers.proofs.Order.{≤-or-<, pos_le, le_pos, nonneg, nonneg_by, positive, clash, le, lt, eq, sq, nn, ◌⊞◌, ◌⊠◌}
use Rattle.geometry.specs.declared.Point.{Point}
use Rattle.geometry.specs.Plane.{Disk, holds}
use Rattle.point_lists.specs.Sets.{In}
use Rattle.point_lists.proofs.Sets.{none_of, also, same_refl}
use Rattle.disks.specs.Smallest.{Smallest}
use Rattle.disks.specs.Procedure.{norm}
use Rattle.disks.proofs.Lifted.{Lifted, value, squared_radius}
use Rattle.disks.proofs.Minimal.{StronglyMinimal}
use Rattle.disks.proofs.Arms.{dot}
use Rattle.disks.proofs.AboutCentre.{arm, boundary_length, no_side}
use Rattle.disks.proofs.SupportPoints.{Supporting, Supported, one, two, three, support}
use Rattle.disks.proofs.LiftedProcedure.{lifted_mtf}
use Rattle.disks.proofs.Correct.{mtf_strong}
use Rattle.disks.proofs.LowestTerms.{Written, square_factor}
use Rattle.disks.proofs.Bridge.{strong_written, disk_of_lowered}
use Rattle.disks.proofs.OneWriting.{smallest_same}
use Rattle.disks.proofs.Welzl.{smallest}
use Rattle.stretches.specs.declared.Stretch.{Stretch}
use Rattle.stretches.specs.Widest.{apart, Widest}
use Rattle.stretches.proofs.Corners.{apart_is}

-- ---- at least

arms_apart : (F : Lifted) (p q : Point) → (F.e *ℤ F.e) *ℤ norm (q.x -ℤ p.x) (q.y -ℤ p.y)
    ≡ dot (arm F p) (arm F p) +ℤ dot (arm F q) (arm F q) -ℤ pos 2 *ℤ dot (arm F p) (arm F q)
arms_apart F p q = ring (F.e ∷ F.cx ∷ F.cy ∷ p.x ∷ p.y ∷ q.x ∷ q.y ∷ []) (search poly depth 30) tt

near_by : (e n a b ab s W : ℤ) → (e *ℤ e) *ℤ n ≡ a +ℤ b -ℤ pos 2 *ℤ ab → a ≡ s → b ≡ s → n ≼ W
    → W *ℤ (e *ℤ e) ≺ pos 3 *ℤ s → pos 0 ≺ pos 2 *ℤ ab +ℤ s
near_by e n a b ab s W q ha hb hn h = positive (e ∷ n ∷ a ∷ b ∷ ab ∷ s ∷ W ∷ [])
    (lt h ⊞ sq e ⊠ le hn ⊞ eq (pos 1) q ⊞ eq (pos 1) ha ⊞ eq (pos 1) hb) (search poly depth 30) tt

-- an arm and the sum of three: x is the arm's square, y and z are its products with the other two
with_two : (x y z s : ℤ) → x ≡ s → pos 0 ≺ pos 2 *ℤ y +ℤ s → pos 0 ≺ pos 2 *ℤ z +ℤ s → pos 0 ≺ x +ℤ y +ℤ z
with_two x y z s e hy hz = go (≤-or-< (x +ℤ y +ℤ z) (pos 0))
  where
    go : (x +ℤ y +ℤ z ≼ pos 0) ⊎ (pos 0 ≺ x +ℤ y +ℤ z) → pos 0 ≺ x +ℤ y +ℤ z
    go (inr k) = k
    go (inl k) = clash (x ∷ y ∷ z ∷ s ∷ []) (lt hy ⊞ lt hz ⊞ nn 2 ⊠ le k ⊞ nn 1 ⊞ eq (pos 2) e) (search poly depth 30) tt

abbrev sum : Point → Point → Point → Point
sum A B C = record { x = A.x +ℤ B.x +ℤ C.x; y = A.y +ℤ B.y +ℤ C.y }

sum_first : (A B C : Point) → dot (sum A B C) A ≡ dot A A +ℤ dot A B +ℤ dot A C
sum_first A B C = ring (A.x ∷ A.y ∷ B.x ∷ B.y ∷ C.x ∷ C.y ∷ []) (search poly depth 30) tt

sum_second : (A B C : Point) → dot (sum A B C) B ≡ dot B B +ℤ dot B A +ℤ dot B C
sum_second A B C = ring (A.x ∷ A.y ∷ B.x ∷ B.y ∷ C.x ∷ C.y ∷ []) (search poly depth 30) tt

sum_third : (A B C : Point) → dot (sum A B C) C ≡ dot C C +ℤ dot C A +ℤ dot C B
sum_third A B C = ring (A.x ∷ A.y ∷ B.x ∷ B.y ∷ C.x ∷ C.y ∷ []) (search poly depth 30) tt

module _ (P : List Point) (F : Lifted) (W : ℤ) (most : (p q : Point) → In p P → In q P → norm (q.x -ℤ p.x) (q.y -ℤ p.y) ≼ W)
    (h : W *ℤ (F.e *ℤ F.e) ≺ pos 3 *ℤ squared_radius F) where
  abbrev A : Point → Point
  A p = arm F p

  abbrev On : Point → Type 0
  On p = In p P × (value F p ≡ pos 0)

  near : (p q : Point) → On p → On q → pos 0 ≺ pos 2 *ℤ dot (A p) (A q) +ℤ squared_radius F
  near p q hp hq = near_by F.e (norm (q.x -ℤ p.x) (q.y -ℤ p.y)) (dot (A p) (A p)) (dot (A q) (A q)) (dot (A p) (A q)) (squared_radius F) W
      (arms_apart F p q) (boundary_length F p hp.1) (boundary_length F q hq.1) (most p q hp.0 hq.0) h

  by_three : (a b c : Point) → On a → On b → On c → pos 0 ≺ dot (A a) (A a) +ℤ dot (A a) (A b) +ℤ dot (A a) (A c)
  by_three a b c ha hb hc = with_two (dot (A a) (A a)) (dot (A a) (A b)) (dot (A a) (A c)) (squared_radius F) (boundary_length F a ha.1) (near a b ha hb)
      (near a c ha hc)

  -- v has a positive product with the arm of p, where p is on the boundary
  abbrev Towards : Point → Point → Type 0
  Towards v p = value F p ≡ pos 0 → pos 0 ≺ dot v (A p)

  towards : (v p : Point) {z : ℤ} → dot v (A p) ≡ z → pos 0 ≺ z → Towards v p
  towards v p e k on = subst (λ (y : ℤ). pos 0 ≺ y) (sym e) k

  -- the sum of three arms; of a support set of one or two points the last stands there again
  abbrev arm_sum : Point → Point → Point → Point
  arm_sum a b c = sum (A a) (A b) (A c)

  module _ (a b c : Point) (ha : On a) (hb : On b) (hc : On c) where
    to_a : Towards (arm_sum a b c) a
    to_a = towards (arm_sum a b c) a (sum_first (A a) (A b) (A c)) (by_three a b c ha hb hc)

    to_b : Towards (arm_sum a b c) b
    to_b = towards (arm_sum a b c) b (sum_second (A a) (A b) (A c)) (by_three b a c hb ha hc)

    to_c : Towards (arm_sum a b c) c
    to_c = towards (arm_sum a b c) c (sum_third (A a) (A b) (A c)) (by_three c a b hc ha hb)

  on : {T : List Point} → Supporting P T F → (p : Point) → In p T → On p
  on s p i = (s.members p i, s.on_boundary_is p i)

  on_one-side : Supported P F → ⊥
  on_one-side (one a s) =
      let ha = on s a (Memᴰ.head refl) in
      let v = arm_sum a a a in
      no_side s.own v (also (Towards v) (to_a a a a ha ha ha) (none_of (Towards v)))
  on_one-side (two a b s) =
      let ha = on s a (Memᴰ.head refl) in
      let hb = on s b (Memᴰ.tail (Memᴰ.head refl)) in
      let v = arm_sum a b b in
      no_side s.own v (also (Towards v) (to_a a b b ha hb hb) (also (Towards v) (to_b a b b ha hb hb) (none_of (Towards v))))
  on_one-side (three a b c s) =
      let ha = on s a (Memᴰ.head refl) in
      let hb = on s b (Memᴰ.tail (Memᴰ.head refl)) in
      let hc = on s c (Memᴰ.tail (Memᴰ.tail (Memᴰ.head refl))) in
      let v = arm_sum a b c in
      no_side s.own v
      (also (Towards v) (to_a a b c ha hb hc) (also (Towards v) (to_b a b c ha hb hc) (also (Towards v) (to_c a b c ha hb hc) (none_of (Towards v)))))

pub jung_lifted : {P : List Point} {F : Lifted} → StronglyMinimal P [] F → (W : ℤ)
    → ((p q : Point) → In p P → In q P → norm (q.x -ℤ p.x) (q.y -ℤ p.y) ≼ W) → pos 3 *ℤ squared_radius F ≼ W *ℤ (F.e *ℤ F.e)
jung_lifted {P} {F} m W most = go (≤-or-< (pos 3 *ℤ squared_radius F) (W *ℤ (F.e *ℤ F.e)))
  where
    go : (pos 3 *ℤ squared_radius F ≼ W *ℤ (F.e *ℤ F.e)) ⊎ (W *ℤ (F.e *ℤ F.e) ≺ pos 3 *ℤ squared_radius F)
        → pos 3 *ℤ squared_radius F ≼ W *ℤ (F.e *ℤ F.e)
    go (inl k) = k
    go (inr k) = absurd (on_one-side P F W most k (support m))

-- ---- of a list's smallest disk

least_divided : (W g E S e s : ℤ) → pos 0 ≺ g *ℤ g → E ≡ g *ℤ e → S ≡ (g *ℤ g) *ℤ s
    → pos 3 *ℤ S ≼ W *ℤ (E *ℤ E) → pos 3 *ℤ s ≼ W *ℤ (e *ℤ e)
least_divided W g E S e s hg he hs h = nonneg_by (W ∷ g ∷ E ∷ S ∷ e ∷ s ∷ []) (g *ℤ g) hg
    (le h ⊞ eq (pos 3) hs ⊞ eq (neg_ℤ (W *ℤ (E +ℤ g *ℤ e))) he) (search poly depth 30) tt

-- of two points that are held: twice the squares of their arms, less the square of the arms' sum
most_held : (ax ay bx by x y e s : ℤ)
    → (ax *ℤ e -ℤ x) *ℤ (ax *ℤ e -ℤ x) +ℤ (ay *ℤ e -ℤ y) *ℤ (ay *ℤ e -ℤ y) ≼ s
    → (bx *ℤ e -ℤ x) *ℤ (bx *ℤ e -ℤ x) +ℤ (by *ℤ e -ℤ y) *ℤ (by *ℤ e -ℤ y) ≼ s
    → norm (bx -ℤ ax) (by -ℤ ay) *ℤ (e *ℤ e) ≼ pos 4 *ℤ s
most_held ax ay bx by x y e s ha hb = nonneg (ax ∷ ay ∷ bx ∷ by ∷ x ∷ y ∷ e ∷ s ∷ [])
    (nn 2 ⊠ le ha ⊞ nn 2 ⊠ le hb ⊞ sq ((ax *ℤ e -ℤ x) +ℤ (bx *ℤ e -ℤ x)) ⊞ sq ((ay *ℤ e -ℤ y) +ℤ (by *ℤ e -ℤ y)))
    (search poly depth 30) tt

pub jung_most : {P : List Point} {d : Disk} {s : Stretch} → Smallest P d → Widest P s → s.w * (d.e * d.e) ≤ 4 * d.s
unfolding holds
jung_most {P} {d} {s} m w = le_pos (subst (λ (z : ℤ). z *ℤ pos (d.e * d.e) ≼ pos (4 * d.s)) (sym (apart_is s.a s.b) ∙ width)
    (most_held s.a.x s.a.y s.b.x s.b.y d.x d.y (pos d.e) (pos d.s)
    (record { le = m.holds_all s.a w.a_in }) (record { le = m.holds_all s.b w.b_in })))
  where
    width : pos (apart s.a s.b) ≡ pos s.w
    width = λ i. pos (sym w.w_is i)

pub jung_least : (P : List Point) {d : Disk} {s : Stretch} → Smallest P d → Widest P s → 3 * d.s ≤ s.w * (d.e * d.e)
jung_least [] m w = absurd (Memᴰ.not-nil w.a_in)
jung_least (p ∷ P) {d} {s} m w = le_pos (least_divided (pos s.w) (pos v.g) F.e (squared_radius F) (pos d.e) (pos d.s) (square_factor v)
    v.e_is v.s_is (jung_lifted (mtf_strong p P) (pos s.w)
    (λ q r i j. subst (λ (z : ℤ). z ≼ pos s.w) (apart_is q r) (pos_le (w.most q r i j)))))
  where
    F : Lifted
    F = (lifted_mtf (p ∷ P)).disk

    v : Written F d
    v = subst (Written F) (sym (disk_of_lowered p P) ∙ smallest_same (same_refl (p ∷ P)) (same_refl []) (smallest p P) m) (strong_written (mtf_strong p P))
