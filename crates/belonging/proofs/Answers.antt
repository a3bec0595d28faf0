-- Points that belong to a disk, and the engine's answers: the two are the same.
--
--   first_needed    : the smallest disk of a list and its first support set belong together: with a point left out, the set would have come earlier
--   answer_belongs  : so do the engine's disk and support set ("Every record made from a letter still passes")
--   smallest_between : points between a set and its disk's points have that disk
--   left-over       : of a list, a shorter one leaves out a point
--   only_support, own_first : points that belong to a disk, one to three that rise, have one support set, themselves; so it is the first
--   own_answer, own_support : the engine's disk and first support set of such points are the disk and they themselves
use mathlib.Core.Path.{◌≡◌, refl, sym, ◌∙◌, ap, subst}
use mathlib.Core.Logic.{◌⊎◌, inl, inr}
use mathlib.Core.Bool.{Bool, true, false, true≢false}
use mathlib.Core.List.Memᴰ
use mathlib.Core.List.{List, [], ◌∷◌, ◌++◌}
use Prim.Native.Nat.{suc, ◌≤◌, ◌<◌}
use native.Mathlib.Omega.{arith}
use lib.ListN.{length}
use Rattle.integers.proofs.Tests.{test_true}
use Rattle.geometry.specs.declared.Point.{Point}
use Rattle.geometry.specs.Plane.{Disk}
use Rattle.point_lists.specs.Sets.{In, has}
use Rattle.point_lists.specs.Rising.{Rising}
use Rattle.point_lists.proofs.Sets.{none_of, also, same_refl}
use Rattle.point_lists.proofs.SetTests.{has_in, in_has}
use Rattle.point_lists.proofs.Rising.{fewer_or_same}
use Rattle.disks.specs.Smallest.{Smallest}
use Rattle.disks.specs.Procedure.{disk_of}
use Rattle.disks.specs.Support.{first_support}
use Rattle.disks.specs.FirstSupport.{IsSupport, IsFirstSupport, Earlier, fewer, lexical}
use Rattle.disks.proofs.OneWriting.{smallest_same}
use Rattle.disks.proofs.Welzl.{smallest}
use Rattle.disks.proofs.First.{first_support_is, first_unique}
use Rattle.belonging.specs.Belonging.{belongs, Belong}
use Rattle.belonging.proofs.Meaning.{none_smallest, belongs_meaning}

-- ---- a list with one point left out

fewer_in : (front : List Point) (p : Point) (back : List Point) (x : Point) → In x (front ++ back) → In x (front ++ (p ∷ back))
fewer_in front p back x i = go (Memᴰ.append_cases front i)
  where
    go : In x front ⊎ In x back → In x (front ++ (p ∷ back))
    go (inl j) = Memᴰ.append_left (p ∷ back) j
    go (inr j) = Memᴰ.append_right front (Memᴰ.tail j)

fewer_rises : (front : List Point) (p : Point) (back : List Point) → Rising (front ++ (p ∷ back)) → Rising (front ++ back)
fewer_rises [] p back r = r.1
fewer_rises (q ∷ front) p back r = (λ x i. r.0 x (fewer_in front p back x i), fewer_rises front p back r.1)

fewer_length : (front : List Point) (p : Point) (back : List Point) → length (front ++ (p ∷ back)) ≡ suc (length (front ++ back))
fewer_length [] p back = refl
fewer_length (q ∷ front) p back = ap suc (fewer_length front p back)

-- ---- the first support set belongs

not_none : (S : List Point) {d : Disk} → Smallest S d → 1 ≤ length S
not_none [] m = absurd (none_smallest m)
not_none (a ∷ S) m = omega arith

not_before : {S R : List Point} → length R < length S → (R ≡ S) ⊎ Earlier S R → ⊥
not_before h (inl e) = omega (arith, ap length e)
not_before h (inr (fewer k)) = omega arith
not_before h (inr (lexical e k)) = omega arith

pub first_needed : {P S : List Point} {d : Disk} → Smallest P d → IsFirstSupport P S → Belong d S
first_needed {P} {S} {d} m f = record {
  own = subst (Smallest S) (smallest_same (same_refl P) (same_refl []) f.supports.whole m) f.supports.own;
  needed = λ front p back e n. not_before (shorter front p back e) (f.first (front ++ back) (record {
    rises = fewer_rises front p back (subst Rising e f.supports.rises);
    members = λ x i. f.supports.members x (subst (In x) (sym e) (fewer_in front p back x i));
    some = not_none (front ++ back) n;
    most = omega (arith, shorter front p back e, f.supports.most);
    disk = d;
    whole = m;
    own = n;
  }));
}
  where
    shorter : (front : List Point) (p : Point) (back : List Point) → S ≡ front ++ (p ∷ back) → length (front ++ back) < length S
    shorter front p back e = omega (arith, ap length e, fewer_length front p back)

pub answer_belongs : (p : Point) (P : List Point) → belongs (disk_of (p ∷ P)) (first_support (p ∷ P)) ≡ true
answer_belongs p P =
    let d = disk_of (p ∷ P) in
    let S = first_support (p ∷ P) in test_true (belongs d S) ((belongs_meaning d S).1 (first_needed (smallest p P) (first_support_is p P)))

-- ---- points that belong are their own first support set

smallest_between : {S Q ps : List Point} {d : Disk} → Smallest S d → Smallest ps d → ((x : Point) → In x S → In x Q) → ((x : Point) → In x Q → In x ps)
    → Smallest Q d
smallest_between m whole up down = record {
  proper = m.proper;
  lowest = m.lowest;
  holds_all = λ p i. whole.holds_all p (down p i);
  through_all = m.through_all;
  least = λ c f. m.least c (record { holds_all = λ p i. f.holds_all p (up p i); through_all = f.through_all });
  only = λ c f. m.only c (record { holds_all = λ p i. f.holds_all p (up p i); through_all = f.through_all });
}

record LeftOver (S ps : List Point) : Type 0 where
  front : List Point
  point : Point
  back : List Point
  whole : ps ≡ front ++ (point ∷ back)
  not_there_lem : In point S → ⊥

-- all of ps are in S, or one is not
abbrev AllOrNot : List Point → List Point → Type 0
AllOrNot S ps = ((x : Point) → In x ps → In x S) ⊎ LeftOver S ps

left_over : (S ps : List Point) → AllOrNot S ps
left_over S [] = inl (none_of (λ x. In x S))
left_over S (p ∷ ps) = go (has S p) refl (left_over S ps)
  where
    later : LeftOver S ps → LeftOver S (p ∷ ps)
    later l = record {
      front = p ∷ l.front;
      point = l.point;
      back = l.back;
      whole = ap (λ (qs : List Point). p ∷ qs) l.whole;
      not_there_lem = l.not_there_lem;
    }

    go : (b : Bool) → has S p ≡ b → AllOrNot S ps → AllOrNot S (p ∷ ps)
    go true e (inl all) = inl (also (λ x. In x S) (has_in S p e) all)
    go true e (inr l) = inr (later l)
    go false e o = inr (record { front = []; point = p; back = ps; whole = refl; not_there_lem = λ i. true≢false (sym (in_has S p i) ∙ e) })

module _ {d : Disk} {ps : List Point} (b : Belong d ps) (r : Rising ps) (some : 1 ≤ length ps) (most : length ps ≤ 3) where
  -- a support set that leaves a point out cannot be
  not_fewer : (S : List Point) → IsSupport ps S → LeftOver S ps → ⊥
  not_fewer S s l = b.needed l.front l.point l.back l.whole
      (smallest_between (subst (Smallest S) (smallest_same (same_refl ps) (same_refl []) s.whole b.own) s.own) b.own
      (λ x i. kept x i (Memᴰ.append_cases l.front (subst (In x) l.whole (s.members x i))))
      (λ x i. subst (In x) (sym l.whole) (fewer_in l.front l.point l.back x i)))
    where
      behind : (x : Point) → In x S → (x ≡ l.point) ⊎ In x l.back → In x l.back
      behind x i (inl e) = absurd (l.not_there_lem (subst (λ (y : Point). In y S) e i))
      behind x i (inr k) = k

      kept : (x : Point) → In x S → In x l.front ⊎ In x (l.point ∷ l.back) → In x (l.front ++ l.back)
      kept x i (inl j) = Memᴰ.append_left l.back j
      kept x i (inr j) = Memᴰ.append_right l.front (behind x i (Memᴰ.cases_cons j))

  same_or_longer : (S : List Point) → ((x : Point) → In x ps → In x S) → Rising S → ((x : Point) → In x S → In x ps) → S ≡ ps
  same_or_longer S all s members = go (fewer_or_same S ps s r members) (fewer_or_same ps S r s all)
    where
      go : (S ≡ ps) ⊎ (length S < length ps) → (ps ≡ S) ⊎ (length ps < length S) → S ≡ ps
      go (inl e) o = e
      go (inr h) (inl e) = sym e
      go (inr h) (inr k) = absurd (both_less h k)
        where
          both_less : length S < length ps → length ps < length S → ⊥
          both_less h k = omega arith

  pub only_support : (S : List Point) → IsSupport ps S → S ≡ ps
  only_support S s = go (left_over S ps)
    where
      go : AllOrNot S ps → S ≡ ps
      go (inl all) = same_or_longer S all s.rises s.members
      go (inr l) = absurd (not_fewer S s l)

  pub own_first : IsFirstSupport ps ps
  own_first = record {
    supports = record { rises = r; members = λ p i. i; some = some; most = most; disk = d; whole = b.own; own = b.own };
    first = λ S s. inl (only_support S s);
  }

  pub own_answer : disk_of ps ≡ d
  own_answer = answer ps b.own
    where
      answer : (qs : List Point) → Smallest qs d → disk_of qs ≡ d
      answer [] m = absurd (none_smallest m)
      answer (q ∷ qs) m = smallest_same (same_refl (q ∷ qs)) (same_refl []) (smallest q qs) m

  pub own_support : first_support ps ≡ ps
  own_support = answer ps own_first
    where
      answer : (qs : List Point) → IsFirstSupport qs ps → first_support qs ≡ ps
      answer [] f = absurd (none_smallest f.supports.whole)
      answer (q ∷ qs) f = first_unique (same_refl (q ∷ qs)) (first_support_is q qs) f
