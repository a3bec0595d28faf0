-- The procedure of specs/ and the lifted procedure agree.
--
--   cover_of F              == a lifted disk as a cover (E = 0 is the empty disk)
--   Agree s t              == the state s has the cover and the list of the lifted state t
--   outside_cover          : the two tests agree
--   point_lowered, diameter_lowered, circle_lowered : the disks of one, two and three points are the lifted ones in lowest terms
--   boundary_cover, full_cover : the two disks with R on the boundary agree
--   run_agree              : the two runs agree, wherever some disk is feasible and R has at most three points, all different
--   mtf_cover, disk_of_lowered : so from no point fixed
use mathlib.Core.Path.{◌≡◌, refl, sym, ◌∙◌, ap, subst, subst₂}
use mathlib.Core.Bool.{Bool, true, false}
use mathlib.Core.List.Memᴰ
use mathlib.Core.List.Permᴰ
use mathlib.Core.List.{List, [], ◌∷◌, ◌++◌}
use Prim.Native.Nat.{ℕ, zero, suc, ◌+◌, ◌*◌, ◌/◌, ◌≤◌, zero-le}
use borrow.Author.Tests.{le-ltb}
use native.Mathlib.Nat.{div-one}
use native.Mathlib.Omega.{arith}
use lib.Dec.{T}
use lib.IntN.{ℤ, pos, negsuc, neg_ℤ, nat_abs, ◌+ℤ◌, ◌-ℤ◌, ◌*ℤ◌}
use lib.ListN.{length}
use lib.Signed.{◌<ℤ◌, lt_z, quot_z}
use Rattle.divisors.specs.Divisor.{gcd, steps}
use Rattle.integers.proofs.Ring.{ring, poly}
use Rattle.integers.proofs.Order.{positive, lt, nn, ◌⊞◌, ◌⊠◌, <_cancel}
use Rattle.geometry.specs.declared.Point.{Point}
use Rattle.geometry.specs.Plane.{Disk}
use Rattle.disks.specs.Procedure.{Cover, empty, disk, outside, lowest_terms, point_disk, diameter_disk, turned_by, circle, boundary_disk, State, tested}
use Rattle.disks.specs.Procedure.{step, through, start, run, norm, disk_in, disk_of}
use Rattle.disks.proofs.Lifted.{Lifted, value, squared_radius}
use Rattle.disks.proofs.Minimal.{Feasible, StronglyMinimal}
use Rattle.disks.proofs.Base.{point_form, pair_form}
use Rattle.disks.proofs.Triple as C
use Rattle.point_lists.specs.Sets.{Different}
use Rattle.disks.proofs.Triple.{turn, turned, vanishing, triple_form}
use Rattle.disks.proofs.LiftedProcedure.{LiftedState, boundary_form, lifted_outside, lifted_tested, turn_at, one_by_one, lifted_start, run_with, lifted_mtf}
use Rattle.disks.proofs.Correct.{MinimalSoFar, found, none_yet, base_found, full_found, RunCorrect, turn_ran, inner_feasible, inner_different}
use Rattle.disks.proofs.Correct.{feasible_front, next, run_ran, large_feasible, mtf_strong}
use Rattle.disks.proofs.SupportPoints.{Supported, one, two, three, support}
use Rattle.disks.proofs.Tests.{same_lt_z, outside_none, outside_written}
use Rattle.disks.proofs.LowestTerms.{lowered, Written, lowered_written}

-- ---- the cover

unfoldable pub cover_by : ℤ → Disk → Cover
cover_by (pos zero) d = empty
cover_by (pos (suc n)) d = disk d
cover_by (negsuc n) d = disk d

abbrev pub cover_of : Lifted → Cover
cover_of F = cover_by F.e (lowered F)

cover_by_lem : (z : ℤ) (d : Disk) → pos 0 <ℤ z → cover_by z d ≡ disk d
unfolding cover_by
cover_by_lem (pos zero) d h = absurd h.lt
cover_by_lem (pos (suc n)) d h = refl
cover_by_lem (negsuc n) d h = absurd h.lt

pub cover_disk : (F : Lifted) → pos 0 <ℤ F.e → cover_of F ≡ disk (lowered F)
cover_disk F h = cover_by_lem F.e (lowered F) h

-- ---- a point on the boundary

boundary_point : {P R : List Point} {F : Lifted} → StronglyMinimal P R F → (p : Point) × (value F p ≡ pos 0)
boundary_point {P} {R = []} {F} m = go (support m)
  where
    go : Supported P F → (p : Point) × (value F p ≡ pos 0)
    go (one a s) = (a, s.on_boundary_is a (Memᴰ.head refl))
    go (two a b s) = (a, s.on_boundary_is a (Memᴰ.head refl))
    go (three a b c s) = (a, s.on_boundary_is a (Memᴰ.head refl))
boundary_point {P} {R = q ∷ R} {F} m = (q, m.feasible.on_boundary_is q (Memᴰ.head refl))

pub strong_written : {P R : List Point} {F : Lifted} → StronglyMinimal P R F → Written F (lowered F)
strong_written {F} m = let b = boundary_point m in lowered_written F m.feasible.proper b.0 b.1

-- ---- the tests agree

pub outside_cover : {P R : List Point} {F : Lifted} → MinimalSoFar P R F → (p : Point) → outside (cover_of F) p ≡ lifted_outside F p
unfolding outside cover_by
outside_cover {F} (found m) p = ap (λ (c : Cover). outside c p) (cover_disk F m.feasible.proper) ∙ outside_written m.feasible.proper
    (strong_written m) p
outside_cover none_yet p = sym (outside_none p)

-- ---- the disks with R on the boundary agree

gcd-one : (n : ℕ) → gcd n 1 ≡ 1
unfolding gcd steps
gcd-one n = refl

quotient-one : (z : ℤ) → quot_z z (pos 1) ≡ z
quotient-one (pos n) = ap pos (div-one n)
quotient-one (negsuc n) = ap (λ (m : ℕ). neg_ℤ (pos m)) (div-one (suc n))

one-lowest : (a : Point) → lowest_terms a.x a.y 1 0 ≡ point_disk a
unfolding lowest_terms
one-lowest a = ap (λ (g : ℕ). record { x = quot_z a.x (pos g); y = quot_z a.y (pos g); e = 1 / g; s = 0 / (g * g) })
    (gcd-one (gcd (nat_abs a.x) (nat_abs a.y)))
    ∙ (λ i. record { x = quotient-one a.x i; y = quotient-one a.y i; e = 1; s = 0 })

point_radius : (a : Point) → squared_radius (point_form a) ≡ pos 0
point_radius a = ring (a.x ∷ a.y ∷ []) (search poly depth 30) tt

pair_radius : (a b : Point) → squared_radius (pair_form a b) ≡ norm (b.x -ℤ a.x) (b.y -ℤ a.y)
pair_radius a b = ring (a.x ∷ a.y ∷ b.x ∷ b.y ∷ []) (search poly depth 30) tt

twice_negative : (w : ℤ) → lt_z (pos 2 *ℤ w) (pos 0) ≡ lt_z w (pos 0)
twice_negative w = same_lt_z (pos 2 *ℤ w) (pos 0) w (pos 0)
    (λ h. <_cancel {k = pos 2} (positive [] (nn 1) (search poly depth 30) tt) (positive (w ∷ []) (lt h) (search poly depth 30) tt))
    (λ h. positive (w ∷ []) (nn 2 ⊠ lt h ⊞ nn 1) (search poly depth 30) tt)

lowest_same : {X X' Y Y' : ℤ} {E E' S S' : ℕ} → X ≡ X' → Y ≡ Y' → E ≡ E' → S ≡ S' → lowest_terms X Y E S ≡ lowest_terms X' Y' E' S'
lowest_same hx hy he hs = λ i. lowest_terms (hx i) (hy i) (he i) (hs i)

-- the disk with centre a + (gx, gy)/2w, lifted
abbrev around : Point → ℤ → ℤ → ℤ → Lifted
around a w gx gy = record {
  e = pos 2 *ℤ w;
  cx = a.x *ℤ (pos 2 *ℤ w) +ℤ gx;
  cy = a.y *ℤ (pos 2 *ℤ w) +ℤ gy;
  k = (pos 2 *ℤ w) *ℤ norm a.x a.y +ℤ pos 2 *ℤ (gx *ℤ a.x +ℤ gy *ℤ a.y);
}

-- the same by the sign of w, as specs/ writes it
abbrev turned_around : Point → ℤ → ℤ → ℤ → Disk
turned_around a w gx gy = lowest_terms (a.x *ℤ pos (2 * nat_abs w) +ℤ turned_by w gx) (a.y *ℤ pos (2 * nat_abs w) +ℤ turned_by w gy) (2 * nat_abs w)
    (nat_abs (norm (turned_by w gx) (turned_by w gy)))

around_radius : (a : Point) (w gx gy : ℤ) → norm gx gy ≡ squared_radius (around a w gx gy)
around_radius a w gx gy = ring (a.x ∷ a.y ∷ w ∷ gx ∷ gy ∷ []) (search poly depth 30) tt

negated_radius : (a : Point) (w gx gy : ℤ) → norm (neg_ℤ gx) (neg_ℤ gy) ≡ squared_radius (turned true (around a w gx gy))
negated_radius a w gx gy = ring (a.x ∷ a.y ∷ w ∷ gx ∷ gy ∷ []) (search poly depth 30) tt

negated_centre : (x m g : ℤ) → x *ℤ (pos 2 *ℤ m) +ℤ neg_ℤ g ≡ neg_ℤ (x *ℤ (pos 2 *ℤ neg_ℤ m) +ℤ g)
negated_centre x m g = ring (x ∷ m ∷ g ∷ []) (search poly depth 30) tt

negated_weight : (m : ℤ) → pos 2 *ℤ m ≡ neg_ℤ (pos 2 *ℤ neg_ℤ m)
negated_weight m = ring (m ∷ []) (search poly depth 30) tt

not_negative : (n : ℕ) → lt_z (pos n) (pos 0) ≡ false
not_negative n = le-ltb n 0 zero-le

by_sign : (a : Point) (w gx gy : ℤ) → turned_around a w gx gy ≡ lowered (turned (lt_z w (pos 0)) (around a w gx gy))
unfolding turned_by
by_sign a (pos n) gx gy = lowest_same refl refl refl (ap nat_abs (around_radius a (pos n) gx gy))
    ∙ ap (λ (t : Bool). lowered (turned t (around a (pos n) gx gy))) (sym (not_negative n))
by_sign a (negsuc n) gx gy = lowest_same (negated_centre a.x (pos (suc n)) gx) (negated_centre a.y (pos (suc n)) gy)
    (ap nat_abs (negated_weight (pos (suc n)))) (ap nat_abs (negated_radius a (negsuc n) gx gy))

pub circle_lowered : (a b c : Point) → circle a b c ≡ lowered (triple_form a b c)
unfolding circle
circle_lowered a b c = by_sign a (turn a b c) (C.gx a b c) (C.gy a b c) ∙ ap (λ (t : Bool). lowered (turned t (vanishing a b c)))
    (sym (twice_negative (turn a b c)))

pub point_lowered : (a : Point) → point_disk a ≡ lowered (point_form a)
point_lowered a = sym (lowest_same refl refl refl (ap nat_abs (point_radius a)) ∙ one-lowest a)

pub diameter_lowered : (a b : Point) → diameter_disk a b ≡ lowered (pair_form a b)
unfolding diameter_disk
diameter_lowered a b = lowest_same refl refl refl (ap nat_abs (sym (pair_radius a b)))

-- with room in R, whatever it is; R of three where the lifted disk is a disk
pub boundary_cover : (R : List Point) → length R ≤ 2 → boundary_disk R ≡ cover_of (boundary_form R)
unfolding boundary_disk cover_by boundary_form
boundary_cover [] h = refl
boundary_cover (a ∷ []) h = ap disk (point_lowered a)
boundary_cover (a ∷ b ∷ []) h = ap disk (diameter_lowered a b)
boundary_cover (a ∷ b ∷ c ∷ R) h = absurd (omega arith)

-- the disk of three points is the circle through them
three_points : (a b c : Point) → boundary_disk (a ∷ b ∷ c ∷ []) ≡ disk (circle a b c)
unfolding boundary_disk
three_points a b c = refl

pub full_cover : (R : List Point) → length R ≡ 3 → pos 0 <ℤ (boundary_form R).e → boundary_disk R ≡ cover_of (boundary_form R)
unfolding boundary_form
full_cover [] h k = absurd (omega arith)
full_cover (a ∷ []) h k = absurd (omega arith)
full_cover (a ∷ b ∷ []) h k = absurd (omega arith)
full_cover (a ∷ b ∷ c ∷ []) h k = three_points a b c ∙ ap disk (circle_lowered a b c) ∙ sym (cover_disk (triple_form a b c) k)
full_cover (a ∷ b ∷ c ∷ d ∷ R) h k = absurd (omega arith)

-- ---- the runs agree

pub record Agree (s : State) (t : LiftedState) : Type 0 where
  pub cover_is : s.cover ≡ cover_of t.disk
  pub left_is : s.left ≡ t.left

abbrev RunsAgree : ℕ → Type 0
RunsAgree k = (R P : List Point) (W : Lifted) → Feasible P R W → Different R → length R + k ≡ 3 → Agree (run k R P) (run_with k R P)

module _ (k : ℕ) (R : List Point) (W : Lifted) (agree : RunsAgree k) (size : length R + suc k ≡ 3) (d : Different R) where
  step_agree : (Q : List Point) (p : Point) (s : State) (t : LiftedState) → Feasible (Q ++ (p ∷ [])) R W → RunCorrect (suc k) R Q t → Agree s t
      → Agree (step (run k) R s p) (turn_at (run_with k) R t p)
  unfolding step tested turn_at lifted_outside lifted_tested
  step_agree Q p s t f r a = subst₂ (λ (b : Bool) (l : List Point). Agree (tested b s p (run k (p ∷ R) l)) (turn_at (run_with k) R t p))
      (sym (ap (λ (c : Cover). outside c p) a.cover_is ∙ outside_cover r.disk_found p)) (sym a.left_is)
      (go (lt_z (pos 0) (value t.disk p)) (λ o. agree (p ∷ R) t.left _ (inner_feasible k R Q p t W (run_ran k) size d f r (record { lt = o }))
      (inner_different k R Q p t W (run_ran k) size d f r (record { lt = o })) (omega arith)))
    where
      go : (b : Bool) → (T b → Agree (run k (p ∷ R) t.left) (run_with k (p ∷ R) t.left))
          → Agree (tested b s p (run k (p ∷ R) t.left)) (lifted_tested b t p (run_with k (p ∷ R) t.left))
      go true e = record { cover_is = (e tt).cover_is; left_is = ap {B = List Point} (λ l. p ∷ l) (e tt).left_is }
      go false e = record { cover_is = a.cover_is; left_is = ap (λ (l : List Point). l ++ (p ∷ [])) a.left_is }

  through_agree : (Q ps : List Point) (s : State) (t : LiftedState) → Feasible (Q ++ ps) R W → RunCorrect (suc k) R Q t → Agree s t
      → Agree (through (step (run k) R) s ps) (one_by_one (turn_at (run_with k) R) t ps)
  unfolding through one_by_one
  through_agree Q [] s t f r a = a
  through_agree Q (p ∷ ps) s t f r a = through_agree (Q ++ (p ∷ [])) ps (step (run k) R s p) (turn_at (run_with k) R t p) all_feasible
      (turn_ran k R Q p t W (run_ran k) size d next_feasible r) (step_agree Q p s t next_feasible r a)
    where
      all_feasible : Feasible ((Q ++ (p ∷ [])) ++ ps) R W
      all_feasible = subst (λ (P : List Point). Feasible P R W) (sym (next Q ps p)) f

      next_feasible : Feasible (Q ++ (p ∷ [])) R W
      next_feasible = feasible_front (Q ++ (p ∷ [])) ps all_feasible

pub run_agree : (k : ℕ) → RunsAgree k
unfolding run run_with
run_agree zero R P W f d size = record { cover_is = full_cover R (omega arith) (full_found R (omega arith) f d).feasible.proper; left_is = refl }
run_agree (suc k) R P W f d size = through_agree k R W (run_agree k) size d [] P (start R []) (lifted_start R []) f
    (record { disk_found = base_found R (omega arith); left_permuted = Permᴰ.nil })
    (record { cover_is = boundary_cover R (omega arith); left_is = refl })

-- ---- from no point fixed

pub mtf_cover : (p : Point) (P : List Point) → (run 3 [] (p ∷ P)).cover ≡ disk (lowered (lifted_mtf (p ∷ P)).disk)
mtf_cover p P = (run_agree 3 [] (p ∷ P) _ (large_feasible (p ∷ P)) tt refl).cover_is ∙ cover_disk (lifted_mtf (p ∷ P)).disk (mtf_strong p P).feasible.proper

pub disk_of_lowered : (p : Point) (P : List Point) → disk_of (p ∷ P) ≡ lowered (lifted_mtf (p ∷ P)).disk
disk_of_lowered p P = ap disk_in (mtf_cover p P)
