-- The points that `collect` keeps: boundary points with a spanned x can be left out.
--
--   Kept d P Q          == Q rises, its points are points of P on d's boundary, and the others of these are spanned by points of Q
--   kept_none, kept_put : at the start, and with a point put in
--   kept_next, next_on  : up to the next point that is needed, and that this is on the boundary
--   kept_finds          : the first set of Q that passes its test is the first support set of P
use mathlib.Core.Path.{◌≡◌, sym, ◌∙◌, ap, subst}
use mathlib.Core.Logic.{◌⊎◌, inl, inr}
use mathlib.Core.Bool.{Bool, true, false, not, ◌&&◌}
use mathlib.Core.List.Memᴰ
use mathlib.Core.List.{List, [], ◌∷◌, ◌++◌}
use Prim.Native.Nat.{ℕ, zero, suc, ◌+◌, ◌-◌, ◌*◌, ◌/◌, ◌≤◌, ◌<◌}
use native.Mathlib.Nat.{add-zero}
use native.Mathlib.Omega.{arith}
use lib.Dec.{T, eqb→eq}
use lib.IntN.{ℤ, pos, negsuc, ◌+ℤ◌, ◌-ℤ◌, ◌*ℤ◌}
use lib.ListN.{length}
use lib.Signed.{lt_z, ◌<ℤ◌, ◌≤ℤ◌}
use Rattle.integers.proofs.Tests.{rest, and_left, and_right}
use Rattle.integers.proofs.Order.{eq_z_eq, ≤_of_eq, ≤_of_<, <-≤_clash, <_trans, ≡_cancel, sum_squares_zero, nonneg, le, eq, ◌⊞◌}
use Rattle.integers.proofs.Laws.{eq_of_sub}
use Rattle.integers.proofs.Ring.{poly, linear, eqn, ◌&◌}
use Rattle.geometry.specs.declared.Point.{Point}
use Rattle.geometry.specs.Plane.{Disk, distance}
use Rattle.geometry.specs.Order.{before}
use Rattle.geometry.specs.Points.{point_at, first_points}
use Rattle.geometry.proofs.PointLists.{first_points_next}
use Rattle.point_lists.specs.Sets.{In}
use Rattle.point_lists.specs.Rising.{insert, sorted, Rising}
use Rattle.point_lists.proofs.Sets.{none_of, also}
use Rattle.point_lists.proofs.Order.{ByCoordinates, by_x, by_y, by_coordinates, is_before}
use Rattle.point_lists.proofs.Rising.{insert_in, insert_new, insert_old, insert_rises, sorted_rises, sorted_same}
use Rattle.disks.specs.Procedure.{disk_of}
use Rattle.disks.specs.Support.{candidates, first_support}
use Rattle.disks.specs.FirstSupport.{Earlier, fewer, lexical, here, there}
use Rattle.disks.proofs.Base.{positive_not_zero}
use Rattle.disks.proofs.StrongSmallest.{some_positive}
use Rattle.disks.proofs.Choose.{Among}
use Rattle.disks.proofs.First.{Passes, first_passes, Candidate, candidate, a_candidate, candidates_earlier, earlier_asym}
use Rattle.support_tests.specs.Tests.{on_boundary_test, midway, opposite, fits}
use Rattle.support_search.specs.Search.{first_fit}
use Rattle.support_span.specs.declared.Span.{Span}
use Rattle.support_span.specs.Span.{Spanned, Spans, strictly_within}
use Rattle.support_span.proofs.Spans.{spanned_more}
use Rattle.support.specs.Needed.{needed, NextNeeded}
use Rattle.support.proofs.Boundary.{boundary_of, boundary_in, in_boundary}
use Rattle.support.proofs.SearchFinds.{search_finds, search_passes, e_some}

pub record Kept (d : Disk) (P Q : List Point) : Type 0 where
  pub rises : Rising Q
  pub inside : (x : Point) → In x Q → In x P × T (on_boundary_test d x)
  pub covered : (x : Point) → In x P → T (on_boundary_test d x) → In x Q ⊎ Spanned d Q x.x

-- ---- one point more

pub kept_none : (d : Disk) → Kept d [] []
kept_none d = record { rises = tt; inside = λ x i. absurd (Memᴰ.not-nil i); covered = λ x i t. inl i }

module _ (d : Disk) (P Q : List Point) (p : Point) (k : Kept d P Q) where
  earlier : {x : Point} → In x P × T (on_boundary_test d x) → In x (P ++ (p ∷ [])) × T (on_boundary_test d x)
  earlier h = (Memᴰ.append_left (p ∷ []) h.0, h.1)

  pub kept_put : on_boundary_test d p ≡ true → Kept d (P ++ (p ∷ [])) (insert p Q)
  kept_put on = record {
    rises = insert_rises p Q k.rises;
    inside = λ x i. of x (insert_in p Q i);
    covered = λ x i t. now_covered x t (Memᴰ.append_cases P i);
  }
    where
      of : (x : Point) → (x ≡ p) ⊎ In x Q → In x (P ++ (p ∷ [])) × T (on_boundary_test d x)
      of x (inl e) = (Memᴰ.append_right P (Memᴰ.head e), subst T (sym (ap (on_boundary_test d) e ∙ on)) tt)
      of x (inr i) = earlier (k.inside x i)

      still : (x : Point) → In x Q ⊎ Spanned d Q x.x → In x (insert p Q) ⊎ Spanned d (insert p Q) x.x
      still x (inl i) = inl (insert_old p Q i)
      still x (inr s) = inr (spanned_more d Q p x.x s)

      now_covered : (x : Point) → T (on_boundary_test d x) → In x P ⊎ In x (p ∷ []) → In x (insert p Q) ⊎ Spanned d (insert p Q) x.x
      now_covered x t (inl i) = still x (k.covered x i t)
      now_covered x t (inr i) = inl (subst (λ (y : Point). In y (insert p Q)) (sym (Memᴰ.eq_of_singleton i)) (insert_new p Q))

  -- a point that is left out is not on the boundary, or spanned
  left_out : (T (on_boundary_test d p) → Spanned d Q p.x) → Kept d (P ++ (p ∷ [])) Q
  left_out f = record { rises = k.rises; inside = λ x i. earlier (k.inside x i); covered = λ x i t. now_covered x t (Memᴰ.append_cases P i) }
    where
      now_covered : (x : Point) → T (on_boundary_test d x) → In x P ⊎ In x (p ∷ []) → In x Q ⊎ Spanned d Q x.x
      now_covered x t (inl i) = k.covered x i t
      now_covered x t (inr i) =
          let e : x ≡ p = Memᴰ.eq_of_singleton i in
          inr (subst (λ (y : Point). Spanned d Q y.x) (sym e) (f (subst (λ (y : Point). T (on_boundary_test d y)) e t)))

-- ---- points passed by

unless : (a b : Bool) → not a && b ≡ false → T b → T a
unless true b h t = tt
unless false b h t = subst T h t

module _ (d : Disk) (s : Span) (Q : List Point) (spans : Spans d Q s) where
  not_needed : (p : Point) → needed d s p ≡ false → T (on_boundary_test d p) → Spanned d Q p.x
  not_needed p h t =
      let left = lt_z s.lo p.x in
      let right = lt_z p.x s.hi in
      let w = unless (left && right) (on_boundary_test d p) h t in
      spans p.x (record { lt = and_left left right w }) (record { lt = and_right left right w })

  kept_passed : (l : List ℤ) (i n : ℕ) → 2 * (i + n) ≤ length l → ((j : ℕ) → i ≤ j → j < i + n → needed d s (point_at l j) ≡ false)
      → Kept d (first_points i l) Q → Kept d (first_points (i + n) l) Q
  kept_passed l i zero room passed k = rw (add-zero i) k
  kept_passed l i (suc n) room passed k =
      let one_more : i + n + 1 ≡ i + suc n = omega arith in
      let p = point_at l (i + n) in
      let P = first_points (i + n) l in
      let before = kept_passed l i n (omega arith) (λ j a b. passed j a (omega arith)) k in
      let now = left_out d P Q p before (not_needed p (passed (i + n) (omega arith) (omega arith))) in
      subst (λ (m : ℕ). Kept d (first_points m l) Q) one_more (subst (λ (L : List Point). Kept d L Q) (sym (first_points_next (i + n) l (omega arith))) now)

  pub kept_next : (l : List ℤ) (i r : ℕ) → NextNeeded d s l i r → Kept d (first_points i l) Q → Kept d (first_points r l) Q
  kept_next l i r t k =
      let there : i + (r - i) ≡ r = omega (arith, t.from) in
      subst (λ (m : ℕ). Kept d (first_points m l) Q) there
      (kept_passed l i (r - i) (omega (arith, there, t.most)) (λ j a b. t.passed j a (omega (arith, there))) k)

pub next_on : {d : Disk} {s : Span} {l : List ℤ} {i r : ℕ} → NextNeeded d s l i r → r < length l / 2 → on_boundary_test d (point_at l r) ≡ true
next_on {d} {s} {l} {r} t h = rest (not (strictly_within s (point_at l r).x)) (on_boundary_test d (point_at l r)) (t.found h)

-- ---- opposite points

not_after : {p q : Point} → ByCoordinates p q → p.x ≤ℤ q.x
not_after (by_x h) = ≤_of_< h
not_after (by_y e h) = ≤_of_eq e

same_x : (a b e c : ℤ) → pos 0 <ℤ e → a *ℤ e ≡ c → b *ℤ e ≡ c → a ≡ b
same_x a b e c he h k = ≡_cancel (positive_not_zero he) (linear (a ∷ b ∷ e ∷ c ∷ []) (eqn (pos 1) h & eqn (negsuc 0) k) (search poly depth 30) tt)

-- of two pairs with the same sum, the one with the smaller first number has the larger second
wider : (a b s t : ℤ) → a +ℤ b ≡ s +ℤ t → s ≤ℤ a → b ≤ℤ t
wider a b s t e h = nonneg (a ∷ b ∷ s ∷ t ∷ []) (le h ⊞ eq (negsuc 0) e) (search poly depth 30) tt

module _ (d : Disk) (proper : 1 ≤ d.e) where
  abbrev E : ℤ
  E = pos d.e

  across_x : (a b : Point) → T (opposite d a b) → (a.x +ℤ b.x) *ℤ E ≡ pos 2 *ℤ d.x
  unfolding opposite midway
  across_x a b t = eq_z_eq ((a.x +ℤ b.x) *ℤ E) (pos 2 *ℤ d.x) (and_left (midway a.x b.x d.e d.x) (midway a.y b.y d.e d.y) t)

  sum_x : (a b s t : Point) → T (opposite d a b) → T (opposite d s t) → a.x +ℤ b.x ≡ s.x +ℤ t.x
  sum_x a b s t h k = same_x (a.x +ℤ b.x) (s.x +ℤ t.x) E (pos 2 *ℤ d.x) (some_positive proper) (across_x a b h) (across_x s t k)

  -- a disk of radius 0 has one point on its boundary, at its centre
  centre_x : (a : Point) → T (on_boundary_test d a) → d.s ≡ 0 → a.x *ℤ E ≡ d.x
  unfolding on_boundary_test
  centre_x a t z = eq_of_sub (a.x *ℤ E) d.x (sum_squares_zero (a.x *ℤ E -ℤ d.x) (a.y *ℤ E -ℤ d.y) (eq_z_eq (distance d a) (pos d.s) t ∙ ap pos z)).0

  -- ---- a set that comes before a pair of opposite points has no point strictly between them

  module _ (P Q : List Point) (k : Kept d P Q) where
    module _ (z : ℤ) (u : Spanned d Q z) where
      apart : u.a.x <ℤ u.b.x
      apart = <_trans u.left u.right

      no_single : d.s ≡ 0 → ⊥
      no_single e = <-≤_clash apart (≤_of_eq (same_x u.b.x u.a.x E d.x (some_positive proper) (at u.b u.b_in) (at u.a u.a_in)))
        where
          at : (x : Point) → In x Q → x.x *ℤ E ≡ d.x
          at x i = centre_x x (k.inside x i).1 e

      -- of an opposite pair s t with s not behind a: neither has the x that is spanned
      off_first : (s t : Point) → s.x ≤ℤ u.a.x → s.x ≡ z → ⊥
      off_first s t h e = <-≤_clash u.left (subst (λ (y : ℤ). y ≤ℤ u.a.x) e h)

      off_second : (s t : Point) → T (opposite d s t) → s.x ≤ℤ u.a.x → t.x ≡ z → ⊥
      off_second s t o h e =
          <-≤_clash u.right (subst (λ (y : ℤ). u.b.x ≤ℤ y) e (wider u.a.x u.b.x s.x t.x (sum_x u.a u.b s t u.across o) h))

    -- the points of the first set are kept
    found_kept : (S : List Point) → 1 ≤ length S → T (fits d S) → (x : Point) → In x S → (u : Spanned d Q x.x)
        → ((u.a ∷ u.b ∷ []) ≡ S) ⊎ Earlier S (u.a ∷ u.b ∷ []) → In x Q
    unfolding fits
    found_kept S some t x i u (inl e) = both (Memᴰ.cases_cons (subst (In x) (sym e) i))
      where
        both : (x ≡ u.a) ⊎ In x (u.b ∷ []) → In x Q
        both (inl f) = subst (λ (y : Point). In y Q) (sym f) u.a_in
        both (inr j) = subst (λ (y : Point). In y Q) (sym (Memᴰ.eq_of_singleton j)) u.b_in
    found_kept [] some t x i u (inr h) = absurd t
    found_kept (s ∷ []) some t x i u (inr h) = absurd (no_single x.x u (eqb→eq d.s 0 t))
    found_kept (s ∷ r ∷ []) some t x i u (inr (fewer h)) = absurd (omega arith)
    found_kept (s ∷ r ∷ []) some t x i u (inr (lexical e (here h))) = absurd (one_of (Memᴰ.cases_cons i))
      where
        low : s.x ≤ℤ u.a.x
        low = not_after (by_coordinates s u.a h)

        one_of : (x ≡ s) ⊎ In x (r ∷ []) → ⊥
        one_of (inl f) = off_first x.x u s r low (ap (λ (y : Point). y.x) (sym f))
        one_of (inr j) = off_second x.x u s r t low (ap (λ (y : Point). y.x) (sym (Memᴰ.eq_of_singleton j)))
    found_kept (s ∷ r ∷ []) some t x i u (inr (lexical e (there f h))) = one_of (Memᴰ.cases_cons i)
      where
        one_of : (x ≡ s) ⊎ In x (r ∷ []) → In x Q
        one_of (inl g) = subst (λ (y : Point). In y Q) (sym (g ∙ f)) u.a_in
        one_of (inr j) = absurd
            (off_second x.x u s r t (≤_of_eq (ap (λ (y : Point). y.x) f)) (ap (λ (y : Point). y.x) (sym (Memᴰ.eq_of_singleton j))))
    found_kept (s ∷ r ∷ v ∷ S) some t x i u (inr (fewer h)) = absurd (omega arith)
    found_kept (s ∷ r ∷ v ∷ S) some t x i u (inr (lexical e h)) = absurd (omega arith)

    -- ---- the first set

    module _ (R : List Point) (rises : Rising R) (to : (x : Point) → In x P → T (on_boundary_test d x) → In x R)
        (from : (x : Point) → In x R → In x P × T (on_boundary_test d x)) (found : Passes (fits d) (candidates R) (first_fit d R)) where
      abbrev S : List Point
      S = first_fit d R

      of_R : Candidate R S
      of_R = candidate R S rises found.among

      pair : (x : Point) (u : Spanned d Q x.x) → ((u.a ∷ u.b ∷ []) ≡ S) ⊎ Earlier S (u.a ∷ u.b ∷ [])
      unfolding fits
      pair x u = found.least (u.a ∷ u.b ∷ []) (a_candidate R (u.a ∷ u.b ∷ []) rises c) u.across
        where
          in_R : (y : Point) → In y Q → In y R
          in_R y i = let h = k.inside y i in to y h.0 h.1

          c : Candidate R (u.a ∷ u.b ∷ [])
          c = record {
            rises = (
              λ y i. subst (λ (v : Point). T (before u.a v)) (sym (Memᴰ.eq_of_singleton i)) (is_before (by_x (apart x.x u))),
              (λ y i. absurd (Memᴰ.not-nil i), tt),
            );
            members = also (λ y. In y R) (in_R u.a u.a_in) (also (λ y. In y R) (in_R u.b u.b_in) (none_of (λ y. In y R)));
            some = omega arith;
            most = omega arith;
          }

      all_kept : (x : Point) → In x S → In x Q
      all_kept x i = let h = from x (of_R.members x i) in go (k.covered x h.0 h.1)
        where
          go : In x Q ⊎ Spanned d Q x.x → In x Q
          go (inl j) = j
          go (inr u) = found_kept S of_R.some found.passes x i u (pair x u)

      among_Q : Among S (candidates Q)
      among_Q = a_candidate Q S k.rises (record { rises = of_R.rises; members = all_kept; some = of_R.some; most = of_R.most })

      of_Q : Passes (fits d) (candidates Q) (first_fit d Q)
      unfolding first_fit
      of_Q = first_passes (fits d) (candidates Q) (candidates_earlier Q k.rises) S among_Q found.passes

      kept_first : first_fit d Q ≡ first_fit d R
      kept_first = go (of_Q.least S among_Q found.passes) (found.least (first_fit d Q) (a_candidate R (first_fit d Q) rises also_of_R) of_Q.passes)
        where
          c : Candidate Q (first_fit d Q)
          c = candidate Q (first_fit d Q) k.rises of_Q.among

          also_of_R : Candidate R (first_fit d Q)
          also_of_R = record { rises = c.rises; members = λ x i. let h = k.inside x (c.members x i) in to x h.0 h.1; some = c.some; most = c.most }

          go : (S ≡ first_fit d Q) ⊎ Earlier (first_fit d Q) S → (first_fit d Q ≡ S) ⊎ Earlier S (first_fit d Q) → first_fit d Q ≡ S
          go (inl e) h = sym e
          go (inr h) (inl e) = e
          go (inr h) (inr l) = absurd (earlier_asym h l)

-- ---- of a whole list

pub kept_finds : (P : List Point) → 1 ≤ length P → (d : Disk) → d ≡ disk_of P → (Q : List Point) → Kept d P Q → first_fit d Q ≡ first_support P
kept_finds P some d is Q k =
    let B = boundary_of d P in
    kept_first d (e_some P some d is) P Q k (sorted B) (sorted_rises B) (λ x i t. (sorted_same B).to x (in_boundary d P x i t))
    (λ x i. boundary_in d P x ((sorted_same B).from x i)) (search_passes P some d is)
    ∙ search_finds P some d is
