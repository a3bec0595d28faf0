-- The search finds the first support set.
--
--   Passing Q d R            == a set of points of Q that passes its test: R, or one with fewer points
--   found_first              : among the boundary points of P's disk, sorted, the search finds the first support set of P
--   search_finds             : firstFit d (sorted (boundaryOf d P)) ≡ firstSupport P, for d the disk of P, of at least one point
--   search_passes            : and that set passes its test
--   support_some, e_some, within_limits : it has a point; d is not empty, and keeps the limits of 01 where P is in the em box
use mathlib.Core.Path.{◌≡◌, refl, sym, ◌∙◌, ap, subst}
use mathlib.Core.Logic.{◌⊎◌, inl, inr}
use mathlib.Core.Bool.{true}
use mathlib.Core.List.Memᴰ
use mathlib.Core.List.{List, [], ◌∷◌}
use Prim.Native.Nat.{ℕ, suc, ◌≤◌, ◌<◌}
use native.Mathlib.Omega.{arith}
use lib.Dec.{T}
use lib.IntN.{ℤ, pos, negsuc, ◌*ℤ◌}
use lib.ListN.{length}
use lib.Signed.{◌<ℤ◌}
use Rattle.integers.proofs.Ring.{poly, linear, eqn, ◌&◌}
use Rattle.integers.proofs.Order.{≡_cancel}
use Rattle.geometry.specs.declared.Point.{Point}
use Rattle.geometry.specs.Plane.{Disk}
use Rattle.geometry.specs.EmBox.{em, all_in_em_box, WithinLimits}
use Rattle.geometry.proofs.EmBox.{box_members}
use Rattle.point_lists.specs.Sets.{In}
use Rattle.point_lists.specs.Rising.{sorted, Rising}
use Rattle.point_lists.proofs.Sets.{none_of, also, same_refl}
use Rattle.point_lists.proofs.Rising.{sorted_rises, sorted_same, sorted-length}
use Rattle.disks.specs.Smallest.{Smallest}
use Rattle.disks.specs.Procedure.{disk_of}
use Rattle.disks.specs.Support.{candidates, first_of, first_support}
use Rattle.disks.specs.FirstSupport.{IsSupport, IsFirstSupport, Earlier, fewer, lexical}
use Rattle.disks.proofs.Lifted.{Lifted, value}
use Rattle.disks.proofs.Minimal.{StronglyMinimal, strong_same}
use Rattle.disks.proofs.Base.{Multiple, multiple_value, point_value, pair_form, pair_first, pair_second, positive_one, positive_two, positive_not_zero}
use Rattle.disks.proofs.LiftedProcedure.{lifted_mtf}
use Rattle.disks.proofs.Correct.{mtf_strong}
use Rattle.disks.proofs.LowestTerms.{Written}
use Rattle.disks.proofs.StrongSmallest.{strong_smallest, written_some}
use Rattle.disks.proofs.Bridge.{strong_written, disk_of_lowered}
use Rattle.disks.proofs.Unique.{strong_unique, strong_multiple, multiple_sym}
use Rattle.disks.proofs.Own.{point_own, smallest_strong}
use Rattle.disks.proofs.Acute.{pair_own, kind, Kind, side_bc, side_ac, side_ab, acute}
use Rattle.disks.proofs.SupportPoints.{Supporting, Supported, one, two, three, support}
use Rattle.disks.proofs.OneWriting.{smallest_same}
use Rattle.disks.proofs.Answer.{em_square, limits}
use Rattle.disks.proofs.Choose.{Among}
use Rattle.disks.proofs.First.{Passes, first_passes, Candidate, candidate, a_candidate, candidates_earlier, first_support_is, first_unique}
use Rattle.support_tests.specs.Tests.{fits}
use Rattle.support_tests.proofs.SetTests.{on_value, value_on, one_strong, strong_one, two_strong, strong_two, three_strong, acute-three}
use Rattle.support_search.specs.Search.{first_fit}
use Rattle.support.proofs.Boundary.{boundary_of, boundary_in, in_boundary}

-- ---- a set that passes

pub record Passing (Q : List Point) (d : Disk) (R : List Point) : Type 0 where
  pub set : List Point
  pub among : Among set (candidates Q)
  pub passes : T (fits d set)
  pub size : (set ≡ R) ⊎ (length set < length R)

-- a multiple of a form has the same boundary
on_by : (e f v u : ℤ) → e *ℤ u ≡ f *ℤ v → pos 0 <ℤ f → u ≡ pos 0 → v ≡ pos 0
on_by e f v u q hf h = ≡_cancel (positive_not_zero hf) (linear (e ∷ f ∷ v ∷ u ∷ []) (eqn (negsuc 0) q & eqn e h) (search poly depth 30) tt)

on_multiple : {F G : Lifted} (a : Point) → pos 0 <ℤ G.e → Multiple F G → value G a ≡ pos 0 → value F a ≡ pos 0
on_multiple {F} {G} a hg u h = on_by F.e G.e (value F a) (value G a) (multiple_value u a) hg h

no_points : 1 ≤ 0 → ⊥
no_points h = omega arith

in_front : {a b x : Point} → In x (a ∷ []) → In x (a ∷ b ∷ [])
in_front {a} {b} {x} i = Memᴰ.head (Memᴰ.eq_of_singleton i)

module _ (p : Point) (P : List Point) where
  abbrev L : List Point
  L = p ∷ P

  abbrev d : Disk
  d = disk_of L

  abbrev F : Lifted
  F = (lifted_mtf L).disk

  abbrev Q : List Point
  Q = sorted (boundary_of d L)

  proper : pos 0 <ℤ F.e
  proper = (mtf_strong p P).feasible.proper

  w : Written F d
  w = subst (Written F) (sym (disk_of_lowered p P)) (strong_written (mtf_strong p P))

  to_Q : (x : Point) → In x L → value F x ≡ pos 0 → In x Q
  to_Q x i h = (sorted_same (boundary_of d L)).to x (in_boundary d L x i (value_on proper w x h))

  from_Q : (x : Point) → In x Q → In x L × (value F x ≡ pos 0)
  from_Q x i = let b = boundary_in d L x ((sorted_same (boundary_of d L)).from x i) in (b.0, on_value proper w x b.1)

  all_in_Q : (S : List Point) → ((x : Point) → In x S → In x L) → ((x : Point) → In x S → value F x ≡ pos 0) → (x : Point) → In x S → In x Q
  all_in_Q S f h x i = to_Q x (f x i) (h x i)

  a_set : (S : List Point) → Rising S → ((x : Point) → In x S → In x Q) → 1 ≤ length S → length S ≤ 3 → Among S (candidates Q)
  a_set S r f h k = a_candidate Q S (sorted_rises (boundary_of d L)) (record { rises = r; members = f; some = h; most = k })

  -- ---- a set that passes has the disk as its own

  passes_strong : (S : List Point) → ((x : Point) → In x S → value F x ≡ pos 0) → T (fits d S) → StronglyMinimal S [] F
  unfolding fits
  passes_strong [] h t = absurd t
  passes_strong (a ∷ []) h t = one_strong proper w a (h a (Memᴰ.head refl)) t
  passes_strong (a ∷ b ∷ []) h t = two_strong proper w a b (h a (Memᴰ.head refl)) (h b (Memᴰ.tail (Memᴰ.head refl))) t
  passes_strong (a ∷ b ∷ c ∷ []) h t = three_strong d a b c proper (h a (Memᴰ.head refl)) (h b (Memᴰ.tail (Memᴰ.head refl)))
      (h c (Memᴰ.tail (Memᴰ.tail (Memᴰ.head refl)))) t
  passes_strong (a ∷ b ∷ c ∷ e ∷ S) h t = absurd t

  -- ---- a set that has the disk as its own passes, or one with fewer points does

  one_passes : (a : Point) → Rising (a ∷ []) → ((x : Point) → In x (a ∷ []) → In x L) → StronglyMinimal (a ∷ []) [] F → Passing Q d (a ∷ [])
  one_passes a r f m = record {
    set = a ∷ [];
    among = a_set (a ∷ []) r
        (also (λ x. In x Q) (to_Q a (f a (Memᴰ.head refl)) on) (none_of (λ x. In x Q))) (omega arith) (omega arith);
    passes = strong_one proper w a on m;
    size = inl refl;
  }
    where
      on : value F a ≡ pos 0
      on = on_multiple a positive_one (strong_unique m (point_own a)) (point_value a)

  two-passes : (a b : Point) → Rising (a ∷ b ∷ []) → ((x : Point) → In x (a ∷ b ∷ []) → In x L) → StronglyMinimal (a ∷ b ∷ []) [] F → Passing Q d (a ∷ b ∷ [])
  two-passes a b r f m = record {
    set = a ∷ b ∷ [];
    among = a_set (a ∷ b ∷ []) r
        (also (λ x. In x Q) (to_Q a (f a (Memᴰ.head refl)) on_a)
        (also (λ x. In x Q) (to_Q b (f b (Memᴰ.tail (Memᴰ.head refl))) on_b) (none_of (λ x. In x Q)))) (omega arith) (omega arith);
    passes = strong_two proper w a b on_a on_b m;
    size = inl refl;
  }
    where
      on_a : value F a ≡ pos 0
      on_a = on_multiple a positive_two (strong_unique m (pair_own a b)) (pair_first a b)

      on_b : value F b ≡ pos 0
      on_b = on_multiple b positive_two (strong_unique m (pair_own a b)) (pair_second a b)

  -- the disk over two of three points: these two have it as their own
  side-passes : (a b : Point) (R : List Point) → length R ≡ 3 → Rising (a ∷ b ∷ []) → ((x : Point) → In x (a ∷ b ∷ []) → In x L)
      → Multiple F (pair_form a b) → Passing Q d R
  side-passes a b R e r f u =
      let s = two-passes a b r f (strong_multiple (pair_own a b) proper (multiple_sym u)) in
      record { set = s.set; among = s.among; passes = s.passes; size = inr (smaller s.set s.size) }
    where
      smaller : (S : List Point) → (S ≡ a ∷ b ∷ []) ⊎ (length S < 2) → length S < length R
      smaller S (inl k) = omega (arith, ap length k)
      smaller S (inr h) = omega arith

  three-passes : (a b c : Point) → Rising (a ∷ b ∷ c ∷ []) → ((x : Point) → In x (a ∷ b ∷ c ∷ []) → In x L) → Kind a b c F → Passing Q d (a ∷ b ∷ c ∷ [])
  three-passes a b c r f (side_bc u) = side-passes b c (a ∷ b ∷ c ∷ []) refl r.1 (λ x i. f x (Memᴰ.tail i)) u
  three-passes a b c r f (side_ac u) = side-passes a c (a ∷ b ∷ c ∷ []) refl ((λ x i. r.0 x (Memᴰ.tail i)), r.1.1)
      (also (λ x. In x L) (f a (Memᴰ.head refl)) (λ x i. f x (Memᴰ.tail (Memᴰ.tail i)))) u
  three-passes a b c r f (side_ab u) = side-passes a b (a ∷ b ∷ c ∷ []) refl
      ((λ x i. r.0 x (in_front i)), ((λ x i. absurd (Memᴰ.not-nil i)), tt))
      (also (λ x. In x L) (f a (Memᴰ.head refl)) (λ x i. f x (Memᴰ.tail (in_front i)))) u
  three-passes a b c r f (acute ha hb hc ka kb kc) = record {
    set = a ∷ b ∷ c ∷ [];
    among = a_set (a ∷ b ∷ c ∷ []) r (all_in_Q (a ∷ b ∷ c ∷ []) f (also On ha (also On hb (also On hc (none_of On))))) (omega arith) (omega arith);
    passes = acute-three d a b c ka kb kc;
    size = inl refl;
  }
    where
      On : Point → Type 0
      On x = value F x ≡ pos 0

  passing : (R : List Point) → Rising R → ((x : Point) → In x R → In x L) → 1 ≤ length R → length R ≤ 3 → StronglyMinimal R [] F → Passing Q d R
  passing [] r f h k m = absurd (no_points h)
  passing (a ∷ []) r f h k m = one_passes a r f m
  passing (a ∷ b ∷ []) r f h k m = two-passes a b r f m
  passing (a ∷ b ∷ c ∷ []) r f h k m = three-passes a b c r f (kind a b c m)
  passing (a ∷ b ∷ c ∷ e ∷ R) r f h k m = absurd (no (length R) k)
    where
      no : (n : ℕ) → suc (suc (suc (suc n))) ≤ 3 → ⊥
      no n h = omega arith

  -- ---- the first that passes

  abbrev found : List Point
  found = first_of (fits d) (candidates Q)

  first_of_lem : (R : List Point) → Passing Q d R → Passes (fits d) (candidates Q) found
  first_of_lem R s = first_passes (fits d) (candidates Q) (candidates_earlier Q (sorted_rises (boundary_of d L))) s.set s.among s.passes

  of_sorted : (S : List Point) → Supporting L S F → (a : Point) → In a S → length S ≤ 3 → Passes (fits d) (candidates Q) found
  of_sorted S s a i k = first_of_lem (sorted S)
      (passing (sorted S) (sorted_rises S) (λ x j. s.members x ((sorted_same S).from x j)) (not_empty (sorted S) ((sorted_same S).to a i))
      (omega (arith, sorted-length S, k)) (strong_same (sorted_same S) s.own))
    where
      not_empty : (R : List Point) {x : Point} → In x R → 1 ≤ length R
      not_empty [] i = absurd (Memᴰ.not-nil i)
      not_empty (a ∷ R) i = omega arith

  there_is : Supported L F → Passes (fits d) (candidates Q) found
  there_is (one a s) = of_sorted (a ∷ []) s a (Memᴰ.head refl) (omega arith)
  there_is (two a b s) = of_sorted (a ∷ b ∷ []) s a (Memᴰ.head refl) (omega arith)
  there_is (three a b c s) = of_sorted (a ∷ b ∷ c ∷ []) s a (Memᴰ.head refl) (omega arith)

  -- what comes before a set with fewer points than R, or before R, comes before R
  before_all : (R T S : List Point) → (T ≡ R) ⊎ (length T < length R) → (T ≡ S) ⊎ Earlier S T → (R ≡ S) ⊎ Earlier S R
  before_all R T S (inl e) (inl k) = inl (sym e ∙ k)
  before_all R T S (inl e) (inr h) = inr (subst (Earlier S) e h)
  before_all R T S (inr h) (inl k) = inr (fewer (omega (arith, ap length k)))
  before_all R T S (inr h) (inr (fewer l)) = inr (fewer (omega arith))
  before_all R T S (inr h) (inr (lexical e l)) = inr (fewer (omega arith))

  pub found_first : IsFirstSupport L found
  found_first = record {
    supports = record {
      rises = c.rises;
      members = λ x i. (from_Q x (c.members x i)).0;
      some = c.some;
      most = c.most;
      disk = d;
      whole = whole;
      own = strong_smallest (passes_strong found (λ x i. (from_Q x (c.members x i)).1) f.passes) w;
    };
    first = λ R s.
        let q = passing R s.rises s.members s.some s.most (own R s) in
        before_all R q.set found q.size (f.least q.set q.among q.passes);
  }
    where
      f : Passes (fits d) (candidates Q) found
      f = there_is (support (mtf_strong p P))

      c : Candidate Q found
      c = candidate Q found (sorted_rises (boundary_of d L)) f.among

      whole : Smallest L d
      whole = strong_smallest (mtf_strong p P) w

      strong : (R : List Point) → 1 ≤ length R → Smallest R d → StronglyMinimal R [] F
      strong [] h m = absurd (no_points h)
      strong (q ∷ R) h m = smallest_strong F proper w m

      own : (R : List Point) → IsSupport L R → StronglyMinimal R [] F
      own R s = strong R s.some (subst (Smallest R) (smallest_same (same_refl L) (same_refl []) s.whole whole) s.own)

  first_fit_support : first_fit d Q ≡ first_support L
  unfolding first_fit
  first_fit_support = first_unique (same_refl L) found_first (first_support_is p P)

  first_fit-passes : Passes (fits d) (candidates Q) (first_fit d Q)
  unfolding first_fit
  first_fit-passes = there_is (support (mtf_strong p P))

-- ---- for any list of at least one point, and a disk that is its own

module _ (P : List Point) (some : 1 ≤ length P) (d : Disk) (is : d ≡ disk_of P) where
  by_point : (X : Disk → List Point → Type 0) → ((p : Point) (P : List Point) → X (disk_of (p ∷ P)) (p ∷ P)) → X d P
  by_point X f = subst (λ (c : Disk). X c P) (sym is) (of P some)
    where
      of : (P : List Point) → 1 ≤ length P → X (disk_of P) P
      of [] h = absurd (no_points h)
      of (p ∷ P) h = f p P

  pub search_finds : first_fit d (sorted (boundary_of d P)) ≡ first_support P
  search_finds = by_point (λ d P. first_fit d (sorted (boundary_of d P)) ≡ first_support P) first_fit_support

  pub search_passes : Passes (fits d) (candidates (sorted (boundary_of d P))) (first_fit d (sorted (boundary_of d P)))
  search_passes = by_point (λ d P. Passes (fits d) (candidates (sorted (boundary_of d P))) (first_fit d (sorted (boundary_of d P)))) first_fit-passes

  pub support_some : 1 ≤ length (first_support P)
  support_some = by_point (λ d P. 1 ≤ length (first_support P)) (λ p P. (first_support_is p P).supports.some)

  pub e_some : 1 ≤ d.e
  e_some = by_point (λ d P. 1 ≤ d.e) (λ p P. written_some (proper p P) (w p P))

  pub within_limits : all_in_em_box P ≡ true → WithinLimits em d
  within_limits = by_point (λ d P. all_in_em_box P ≡ true → WithinLimits em d) (λ p P boxed. limits em em_square p P (box_members (p ∷ P) boxed))
