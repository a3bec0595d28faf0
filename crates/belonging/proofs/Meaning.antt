-- What `belongs` means.
--
--   none_smallest    : no points have no smallest disk
--   is_disk_of_lem       : isDiskOf d ps says that d is the smallest disk of ps
--   belongs_meaning  : belongs d ps says that ps belong to d; of every disk and all points
use mathlib.Core.Path.{◌≡◌, refl, sym, ◌∙◌, ap, subst}
use mathlib.Core.Logic.{◌⊎◌, inl, inr, ◌↔◌}
use mathlib.Core.Bool.{not, ◌&&◌}
use mathlib.Core.List.Memᴰ
use mathlib.Core.List.{List, [], ◌∷◌, ◌++◌}
use native.Mathlib.Omega.{arith}
use lib.Dec.{T, T_not, not_T}
use lib.IntN.{pos, negsuc, ◌-ℤ◌}
use lib.Signed.{◌≤ℤ◌}
use Rattle.integers.proofs.Tests.{and_left, and_right, and_both}
use Rattle.integers.proofs.Order.{clash, le, pos_le, nn, ◌⊞◌, ◌⊠◌}
use Rattle.integers.proofs.Ring.{poly}
use Rattle.geometry.specs.declared.Point.{Point}
use Rattle.geometry.specs.Plane.{Disk}
use Rattle.disks.specs.Smallest.{RationalDisk, Fits, Smallest}
use Rattle.disks.specs.Procedure.{disk_of}
use Rattle.disks.specs.Support.{same_disk, fronted}
use Rattle.point_lists.proofs.Sets.{same_refl}
use Rattle.disks.proofs.OneWriting.{smallest_same}
use Rattle.disks.proofs.Welzl.{smallest}
use Rattle.disks.proofs.Choose.{Among, fronted_in, in_fronted}
use Rattle.disks.proofs.First.{same_disk_eq, same_disk-refl}
use Rattle.belonging.specs.Belonging.{is_disk_of, left_out, none_has, belongs, Belong}

-- ---- the smallest disk of a list

-- a disk with a negative squared radius holds no points, and so all of none
pub none_smallest : {d : Disk} → Smallest [] d → ⊥
none_smallest {d} m = clash (pos d.s ∷ pos d.e ∷ []) (le (m.least less none) ⊞ nn d.s ⊞ some ⊠ some ⊞ nn 2 ⊠ some) (search poly depth 30) tt
  where
    some : pos 0 ≤ℤ (pos d.e -ℤ pos 1)
    some = le (pos_le m.proper)

    less : RationalDisk
    less = record { x = pos 0; y = pos 0; e = 1; a = negsuc 0; b = 1; e_some = omega arith; b_some = omega arith }

    none : Fits less [] []
    none = record { holds_all = λ p i. absurd (Memᴰ.not-nil i); through_all = λ p i. absurd (Memᴰ.not-nil i) }

pub is_disk_of_lem : (d : Disk) (ps : List Point) → T (is_disk_of d ps) ↔ Smallest ps d
unfolding is_disk_of
is_disk_of_lem d [] = (λ t. absurd t, λ m. none_smallest m)
is_disk_of_lem d (p ∷ ps) = (
  λ t. subst (Smallest (p ∷ ps)) (same_disk_eq (disk_of (p ∷ ps)) d t) (smallest p ps),
  λ m. subst (λ (c : Disk). T (same_disk (disk_of (p ∷ ps)) c)) (smallest_same (same_refl (p ∷ ps)) (same_refl []) (smallest p ps) m)
      (same_disk-refl (disk_of (p ∷ ps))),
)

-- ---- a point left out

-- each way to leave a point out stands in `left_out`, and nothing else does
pub record Split (ps qs : List Point) : Type 0 where
  pub front : List Point
  pub point : Point
  pub back : List Point
  pub whole : ps ≡ front ++ (point ∷ back)
  pub rest : qs ≡ front ++ back

in_left_out : (front : List Point) (p : Point) (back : List Point) → Among (front ++ back) (left_out (front ++ (p ∷ back)))
unfolding left_out
in_left_out [] p back = Memᴰ.head refl
in_left_out (q ∷ front) p back = Memᴰ.tail (in_fronted q (left_out (front ++ (p ∷ back))) (in_left_out front p back))

split_of : (ps : List Point) {qs : List Point} → Among qs (left_out ps) → Split ps qs
unfolding left_out
split_of [] i = absurd (Memᴰ.not-nil i)
split_of (p ∷ ps) {qs} i = go (λ T k. split_of ps {qs = T} k) (Memᴰ.cases_cons i)
  where
    later : (T : List Point) → qs ≡ p ∷ T → Split ps T → Split (p ∷ ps) qs
    later T e s = record {
      front = p ∷ s.front;
      point = s.point;
      back = s.back;
      whole = ap (λ (l : List Point). p ∷ l) s.whole;
      rest = e ∙ ap (λ (l : List Point). p ∷ l) s.rest;
    }

    go : ((T : List Point) → Among T (left_out ps) → Split ps T) → (qs ≡ ps) ⊎ Among qs (fronted p (left_out ps)) → Split (p ∷ ps) qs
    go f (inl e) = record { front = []; point = p; back = ps; whole = refl; rest = e }
    go f (inr k) = let r = fronted_in p (left_out ps) k in later r.rest r.is (f r.rest r.among)

none_has_lem : (d : Disk) (cs : List (List Point)) → T (none_has d cs) → (qs : List Point) → Among qs cs → T (is_disk_of d qs) → ⊥
unfolding none_has
none_has_lem d [] t qs i h = Memᴰ.not-nil i
none_has_lem d (S ∷ cs) t qs (Memᴰ.head e) h = T_not (is_disk_of d S) (and_left (not (is_disk_of d S)) (none_has d cs) t)
    (subst (λ (l : List Point). T (is_disk_of d l)) e h)
none_has_lem d (S ∷ cs) t qs (Memᴰ.tail i) h = none_has_lem d cs (and_right (not (is_disk_of d S)) (none_has d cs) t) qs i h

has_none : (d : Disk) (cs : List (List Point)) → ((qs : List Point) → Among qs cs → T (is_disk_of d qs) → ⊥) → T (none_has d cs)
unfolding none_has
has_none d [] f = tt
has_none d (S ∷ cs) f = and_both (not (is_disk_of d S)) (none_has d cs) (not_T (is_disk_of d S) (f S (Memᴰ.head refl)))
    (has_none d cs (λ qs i. f qs (Memᴰ.tail i)))

pub belongs_meaning : (d : Disk) (ps : List Point) → T (belongs d ps) ↔ Belong d ps
unfolding belongs
belongs_meaning d ps = (to, from)
  where
    to : T (is_disk_of d ps && none_has d (left_out ps)) → Belong d ps
    to t = record {
      own = (is_disk_of_lem d ps).0 (and_left (is_disk_of d ps) (none_has d (left_out ps)) t);
      needed = λ front p back e m. none_has_lem d (left_out ps) (and_right (is_disk_of d ps) (none_has d (left_out ps)) t) (front ++ back)
          (subst (λ (l : List Point). Among (front ++ back) (left_out l)) (sym e) (in_left_out front p back)) ((is_disk_of_lem d (front ++ back)).1 m);
    }

    from : Belong d ps → T (is_disk_of d ps && none_has d (left_out ps))
    from b = and_both (is_disk_of d ps) (none_has d (left_out ps)) ((is_disk_of_lem d ps).1 b.own)
        (has_none d (left_out ps) (λ qs i t. let s = split_of ps {qs = qs} i in
        b.needed s.front s.point s.back s.whole (subst (λ (l : List Point). Smallest l d) s.rest ((is_disk_of_lem d qs).0 t))))
