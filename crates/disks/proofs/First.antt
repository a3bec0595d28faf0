-- `first_support` is the first support set.
--
--   own_supports, supports_own : the test of specs/ decides whether a set's own smallest disk is that of P
--   Passes t cs S              == S is the first of cs that passes t
--   Candidate Q S              == S is one to three points of Q, rising
--   candidate, a_candidate     : the candidates of a rising list are these sets
--   candidates_earlier         : each of them comes before all later ones
--   earlier_asym               : no two sets come before one another
--   first_support_is              : IsFirstSupport P (firstSupport P), for every P of at least one point
--   first_support_same         : lists with the same points have the same first support set
use mathlib.Core.Path.{◌≡◌, refl, sym, ◌∙◌, ap, subst}
use mathlib.Core.Logic.{◌⊎◌, inl, inr}
use mathlib.Core.Bool.{Bool, true, false, ◌&&◌}
use mathlib.Core.List.Memᴰ
use mathlib.Core.List.{List, [], ◌∷◌, ◌++◌}
use Prim.Native.Nat.{ℕ, suc, ◌≤◌}
use native.Mathlib.Omega.{arith}
use lib.Dec.{T, eqb, eqb→eq, eqb_refl}
use lib.ListN.{length}
use Rattle.integers.proofs.Tests.{and_left, and_right, and_both}
use Rattle.integers.proofs.Order.{eq_z_eq, eq_eq_z}
use Rattle.integers.specs.Order.{eq_z}
use Rattle.geometry.specs.declared.Point.{Point}
use Rattle.geometry.specs.Plane.{Disk}
use Rattle.point_lists.specs.Sets.{In, Same}
use Rattle.point_lists.specs.Rising.{sorted, Rising}
use Rattle.point_lists.proofs.Sets.{same_refl, same_sym}
use Rattle.point_lists.proofs.Order.{before_trans, before_not_equal}
use Rattle.point_lists.proofs.Rising.{sorted_rises, sorted_same, sorted-length}
use Rattle.disks.specs.Smallest.{Smallest}
use Rattle.disks.specs.Procedure.{disk_of}
use Rattle.disks.specs.Support.{choose, same_disk, supports, first_of, first_support}
pub use Rattle.disks.specs.Support.{candidates}
use Rattle.disks.specs.FirstSupport.{IsSupport, Lexical, here, there, Earlier, fewer, lexical, IsFirstSupport}
use Rattle.disks.proofs.Minimal.{strong_same}
use Rattle.disks.proofs.LiftedProcedure.{lifted_mtf}
use Rattle.disks.proofs.Correct.{mtf_strong}
use Rattle.disks.proofs.SupportPoints.{Supporting, Supported, one, two, three, support}
use Rattle.disks.proofs.Bridge.{strong_written, disk_of_lowered}
use Rattle.disks.proofs.StrongSmallest.{strong_smallest}
use Rattle.disks.proofs.OneWriting.{smallest_same}
use Rattle.disks.proofs.Welzl.{smallest}
use Rattle.disks.proofs.Choose.{Among, choose-length, choose_in, choose_rises, choose_all, Later, later_append, choose_lexical}

-- ---- the order of sets

lexical_asym : {S R : List Point} → Lexical S R → Lexical R S → ⊥
lexical_asym (here {p} {q} h) (here k) = before_not_equal p p (before_trans p q p h k) refl
lexical_asym (here {p} {q} h) (there e k) = before_not_equal p q h (sym e)
lexical_asym (there {p} {q} e h) (here k) = before_not_equal q p k (sym e)
lexical_asym (there e h) (there f k) = lexical_asym h k

pub earlier_asym : {S R : List Point} → Earlier S R → Earlier R S → ⊥
earlier_asym (fewer h) (fewer k) = omega arith
earlier_asym (fewer h) (lexical e k) = omega arith
earlier_asym (lexical e h) (fewer k) = omega arith
earlier_asym (lexical e h) (lexical f k) = lexical_asym h k

-- ---- the test

pub same_disk_eq : (c d : Disk) → T (same_disk c d) → c ≡ d
unfolding same_disk
same_disk_eq c d t = λ i. record {
  x = eq_z_eq c.x d.x (and_left x (y && (e && s)) t) i;
  y = eq_z_eq c.y d.y
      (and_left y (e && s) rest) i;
  e = eqb→eq c.e d.e (and_left e s last) i;
  s = eqb→eq c.s d.s (and_right e s last) i;
}
  where
    x : Bool
    x = eq_z c.x d.x

    y : Bool
    y = eq_z c.y d.y

    e : Bool
    e = eqb c.e d.e

    s : Bool
    s = eqb c.s d.s

    rest : T (y && (e && s))
    rest = and_right x (y && (e && s)) t

    last : T (e && s)
    last = and_right y (e && s) rest

pub same_disk-refl : (d : Disk) → T (same_disk d d)
unfolding same_disk
same_disk-refl d = and_both (eq_z d.x d.x) (eq_z d.y d.y && (eqb d.e d.e && eqb d.s d.s)) (eq_eq_z d.x d.x refl)
    (and_both (eq_z d.y d.y) (eqb d.e d.e && eqb d.s d.s) (eq_eq_z d.y d.y refl)
    (and_both (eqb d.e d.e) (eqb d.s d.s) (eqb_refl d.e) (eqb_refl d.s)))

no_points : 1 ≤ 0 → ⊥
no_points h = omega arith

pub supports_own : (P S : List Point) → 1 ≤ length S → T (supports P S) → Smallest S (disk_of P)
unfolding supports
supports_own P [] h t = absurd (no_points h)
supports_own P (q ∷ S) h t = subst (Smallest (q ∷ S)) (same_disk_eq (disk_of (q ∷ S)) (disk_of P) t) (smallest q S)

pub own_supports : (P S : List Point) → 1 ≤ length S → Smallest S (disk_of P) → T (supports P S)
unfolding supports
own_supports P [] h m = absurd (no_points h)
own_supports P (q ∷ S) h m = subst (λ (d : Disk). T (same_disk (disk_of (q ∷ S)) d)) (smallest_same (same_refl (q ∷ S)) (same_refl []) (smallest q S) m)
    (same_disk-refl (disk_of (q ∷ S)))

-- ---- the first that passes

pub first_yes : (t : List Point → Bool) (S : List Point) (cs : List (List Point)) → t S ≡ true → first_of t (S ∷ cs) ≡ S
unfolding first_of
first_yes t S cs e = rw e

pub first_no : (t : List Point → Bool) (S : List Point) (cs : List (List Point)) → t S ≡ false → first_of t (S ∷ cs) ≡ first_of t cs
unfolding first_of
first_no t S cs e = rw e

pub record Passes (t : List Point → Bool) (cs : List (List Point)) (S : List Point) : Type 0 where
  pub among : Among S cs
  pub passes : T (t S)
  pub least : (R : List Point) → Among R cs → T (t R) → (R ≡ S) ⊎ Earlier S R

pub first_passes : (t : List Point → Bool) (cs : List (List Point)) → Later Earlier cs → (R : List Point) → Among R cs → T (t R)
    → Passes t cs (first_of t cs)
first_passes t [] l R i h = absurd (Memᴰ.not-nil i)
first_passes t (S ∷ cs) l R i h = go (λ j. first_passes t cs l.1 R j h) (t S) refl (Memᴰ.cases_cons i)
  where
    here_first : (A : List Point) → (A ≡ S) ⊎ Among A cs → (A ≡ S) ⊎ Earlier S A
    here_first A (inl k) = inl k
    here_first A (inr j) = inr (l.0 A j)

    later_first : t S ≡ false → Passes t cs (first_of t cs) → (A : List Point) → T (t A) → (A ≡ S) ⊎ Among A cs
        → (A ≡ first_of t cs) ⊎ Earlier (first_of t cs) A
    later_first e p A k (inl f) = absurd (subst T (ap t f ∙ e) k)
    later_first e p A k (inr j) = p.least A j k

    later : t S ≡ false → Passes t cs (first_of t cs) → Passes t (S ∷ cs) (first_of t cs)
    later e p = record { among = Memᴰ.tail p.among; passes = p.passes; least = λ A j k. later_first e p A k (Memᴰ.cases_cons j) }

    go : (Among R cs → Passes t cs (first_of t cs)) → (b : Bool) → t S ≡ b → (R ≡ S) ⊎ Among R cs → Passes t (S ∷ cs) (first_of t (S ∷ cs))
    go f true e c = subst (Passes t (S ∷ cs)) (sym (first_yes t S cs e))
        (record { among = Memᴰ.head refl; passes = subst T (sym e) tt; least = λ A j k. here_first A (Memᴰ.cases_cons j) })
    go f false e (inl k) = absurd (subst T (ap t k ∙ e) h)
    go f false e (inr j) = subst (Passes t (S ∷ cs)) (sym (first_no t S cs e)) (later e (f j))

-- ---- the candidates

lexical_earlier : (k : ℕ) (cs : List (List Point)) → ((S : List Point) → Among S cs → length S ≡ k) → Later Lexical cs → Later Earlier cs
lexical_earlier k [] f l = tt
lexical_earlier k (S ∷ cs) f l = (
  λ R i. lexical (f S (Memᴰ.head refl) ∙ sym (f R (Memᴰ.tail i))) (l.0 R i),
  lexical_earlier k cs
      (λ R i. f R (Memᴰ.tail i)) l.1,
)

chosen_earlier : (k : ℕ) (Q : List Point) → Rising Q → Later Earlier (choose k Q)
chosen_earlier k Q r = lexical_earlier k (choose k Q) (choose-length k Q) (choose_lexical k Q r)

pub candidates_earlier : (Q : List Point) → Rising Q → Later Earlier (candidates Q)
candidates_earlier Q r = later_append Earlier (choose 1 Q) (choose 2 Q ++ choose 3 Q) (chosen_earlier 1 Q r)
    (later_append Earlier (choose 2 Q) (choose 3 Q) (chosen_earlier 2 Q r) (chosen_earlier 3 Q r)
    (λ S R i j. fewer (omega (arith, choose-length 2 Q S i, choose-length 3 Q R j))))
    (λ S R i j. one_first S R i (Memᴰ.append_cases (choose 2 Q) j))
  where
    one_first : (S R : List Point) → Among S (choose 1 Q) → Among R (choose 2 Q) ⊎ Among R (choose 3 Q) → Earlier S R
    one_first S R i (inl j) = fewer (omega (arith, choose-length 1 Q S i, choose-length 2 Q R j))
    one_first S R i (inr j) = fewer (omega (arith, choose-length 1 Q S i, choose-length 3 Q R j))

pub record Candidate (Q S : List Point) : Type 0 where
  pub rises : Rising S
  pub members : (x : Point) → In x S → In x Q
  pub some : 1 ≤ length S
  pub most : length S ≤ 3

chosen : (k : ℕ) (Q S : List Point) → Rising Q → 1 ≤ k → k ≤ 3 → Among S (choose k Q) → Candidate Q S
chosen k Q S r h l i = let e : length S
    ≡ k = choose-length k Q S i in record { rises = choose_rises k Q r S i; members = choose_in k Q S i; some = omega arith; most = omega arith }

pub candidate : (Q S : List Point) → Rising Q → Among S (candidates Q) → Candidate Q S
candidate Q S r i = go (Memᴰ.append_cases (choose 1 Q) i)
  where
    end : Among S (choose 2 Q) ⊎ Among S (choose 3 Q) → Candidate Q S
    end (inl j) = chosen 2 Q S r (omega arith) (omega arith) j
    end (inr j) = chosen 3 Q S r (omega arith) (omega arith) j

    go : Among S (choose 1 Q) ⊎ Among S (choose 2 Q ++ choose 3 Q) → Candidate Q S
    go (inl j) = chosen 1 Q S r (omega arith) (omega arith) j
    go (inr j) = end (Memᴰ.append_cases (choose 2 Q) j)

pub a_candidate : (Q S : List Point) → Rising Q → Candidate Q S → Among S (candidates Q)
a_candidate Q [] r c = absurd (no_points c.some)
a_candidate Q (a ∷ []) r c = Memᴰ.append_left (choose 2 Q ++ choose 3 Q) (choose_all Q r (a ∷ []) c.rises c.members)
a_candidate Q (a ∷ b ∷ []) r c = Memᴰ.append_right (choose 1 Q) (Memᴰ.append_left (choose 3 Q) (choose_all Q r (a ∷ b ∷ []) c.rises c.members))
a_candidate Q (a ∷ b ∷ d ∷ []) r c = Memᴰ.append_right (choose 1 Q)
    (Memᴰ.append_right (choose 2 Q) (choose_all Q r (a ∷ b ∷ d ∷ []) c.rises c.members))
a_candidate Q (a ∷ b ∷ d ∷ e ∷ S) r c = absurd (no (length S) c.most)
  where
    no : (n : ℕ) → suc (suc (suc (suc n))) ≤ 3 → ⊥
    no n h = omega arith

-- ---- the first set

not_empty : (S : List Point) {x : Point} → In x S → 1 ≤ length S
not_empty [] i = absurd (Memᴰ.not-nil i)
not_empty (a ∷ S) i = omega arith

module _ (p : Point) (P : List Point) where
  abbrev L : List Point
  L = p ∷ P

  abbrev found : List Point
  found = first_of (supports L) (candidates (sorted L))

  to_sorted : (S : List Point) → ((x : Point) → In x S → In x L) → (x : Point) → In x S → In x (sorted L)
  to_sorted S f x i = (sorted_same L).to x (f x i)

  -- a support set, sorted, is a candidate that passes
  some_set : (S : List Point) → Supporting L S (lifted_mtf L).disk → (a : Point) → In a S → length S ≤ 3 → Passes (supports L) (candidates (sorted L)) found
  some_set S s a i h = first_passes (supports L) (candidates (sorted L)) (candidates_earlier (sorted L) (sorted_rises L)) (sorted S)
      (a_candidate (sorted L) (sorted S) (sorted_rises L) (record {
        rises = sorted_rises S;
        members = λ x k. to_sorted S s.members x ((sorted_same S).from x k);
        some = long;
        most = omega (arith, sorted-length S, h);
      }))
      (own_supports L (sorted S) long
      (subst (Smallest (sorted S)) (sym (disk_of_lowered p P))
      (strong_smallest (strong_same (sorted_same S) s.own) (strong_written (mtf_strong p P)))))
    where
      long : 1 ≤ length (sorted S)
      long = not_empty (sorted S) ((sorted_same S).to a i)

  there_is : Supported L (lifted_mtf L).disk → Passes (supports L) (candidates (sorted L)) found
  there_is (one a s) = some_set (a ∷ []) s a (Memᴰ.head refl) (omega arith)
  there_is (two a b s) = some_set (a ∷ b ∷ []) s a (Memᴰ.head refl) (omega arith)
  there_is (three a b c s) = some_set (a ∷ b ∷ c ∷ []) s a (Memᴰ.head refl) (omega arith)

  pub first_support_is : IsFirstSupport L (first_support L)
  unfolding first_support
  first_support_is = record {
    supports = record {
      rises = c.rises;
      members = λ x i. (sorted_same L).from x (c.members x i);
      some = c.some;
      most = c.most;
      disk = disk_of L;
      whole = smallest p P;
      own = supports_own L found c.some f.passes;
    };
    first = λ R s. f.least R (a_candidate (sorted L) R (sorted_rises L)
        (record { rises = s.rises; members = to_sorted R s.members; some = s.some; most = s.most }))
        (own_supports L R s.some (own_disk R s));
  }
    where
      f : Passes (supports L) (candidates (sorted L)) found
      f = there_is (support (mtf_strong p P))

      c : Candidate (sorted L) found
      c = candidate (sorted L) found (sorted_rises L) f.among

      own_disk : (R : List Point) → (s : IsSupport L R) → Smallest R (disk_of L)
      own_disk R s = subst (Smallest R) (smallest_same (same_refl L) (same_refl []) s.whole (smallest p P)) s.own

-- ---- it depends on the points alone

-- the smallest disk of P is that of Q
support_of_same : {P Q S : List Point} {d : Disk} → Same P Q → Smallest Q d → IsSupport P S → IsSupport Q S
support_of_same {d} e m s = record {
  rises = s.rises;
  members = λ x i. e.to x (s.members x i);
  some = s.some;
  most = s.most;
  disk = d;
  whole = m;
  own = subst (Smallest _) (smallest_same e (same_refl []) s.whole m) s.own;
}

pub first_unique : {P Q S R : List Point} → Same P Q → IsFirstSupport P S → IsFirstSupport Q R → S ≡ R
first_unique {P} {Q} {S} {R} e s r = go (s.first R (support_of_same (same_sym e) s.supports.whole r.supports))
    (r.first S (support_of_same e r.supports.whole s.supports))
  where
    go : (R ≡ S) ⊎ Earlier S R → (S ≡ R) ⊎ Earlier R S → S ≡ R
    go (inl k) h = sym k
    go (inr k) (inl h) = h
    go (inr k) (inr h) = absurd (earlier_asym k h)

pub first_support_same : (P Q : List Point) → Same P Q → first_support P ≡ first_support Q
first_support_same [] [] s = refl
first_support_same [] (q ∷ Q) s = absurd (Memᴰ.not-nil (s.from q (Memᴰ.head refl)))
first_support_same (p ∷ P) [] s = absurd (Memᴰ.not-nil (s.to p (Memᴰ.head refl)))
first_support_same (p ∷ P) (q ∷ Q) s = first_unique s (first_support_is p P) (first_support_is q Q)
