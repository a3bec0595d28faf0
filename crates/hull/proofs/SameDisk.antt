-- A list and its hull have the same smallest disk and the same first support set (02, item 8).
--
--   Spans P H            == H are points of P that span every point of P
--   fits_all             : a rational disk that holds H holds P
--   smallest_to, smallest_from : a smallest disk of P is one of H, and the other way round
--   boundary_corner      : a point of P on the boundary of a disk that holds H is one of H
--   BoundarySet, boundary_set  == of a support set, a support set among those of its points that are on the boundary
--   smallest_hull        : the smallest disk of P is that of its hull
--   first_support_hull   : the first support set of P is that of its hull
--   disk_of_hull, support_of_hull : the same of `disk_of` and `first_support`
use mathlib.Core.Path.{◌≡◌, refl, sym, ◌∙◌, subst}
use mathlib.Core.Logic.{◌⊎◌, inl, inr, ◌↔◌}
use mathlib.Core.List.Memᴰ
use mathlib.Core.List.{List, [], ◌∷◌}
use Prim.Native.Nat.{ℕ, ◌≤◌, ◌<◌}
use native.Mathlib.Omega.{arith}
use lib.Dec.{T}
use lib.IntN.{pos, ◌*ℤ◌}
use lib.ListN.{length}
use Rattle.integers.specs.Order.{◌≼◌}
use Rattle.integers.proofs.Laws.{one-*}
use Rattle.integers.proofs.Order.{nn}
use Rattle.geometry.specs.declared.Point.{Point}
use Rattle.geometry.specs.Plane.{Disk, distance, holds, on_boundary}
use Rattle.point_lists.specs.Sets.{In}
use Rattle.point_lists.specs.Rising.{sorted}
use Rattle.point_lists.proofs.Sets.{same_refl}
use Rattle.point_lists.proofs.Rising.{sorted_rises, sorted_same, sorted-length, fewer_or_same}
use Rattle.disks.specs.Smallest.{RationalDisk, reach, Fits, Smallest}
use Rattle.disks.specs.Procedure.{disk_of}
use Rattle.disks.specs.Support.{first_support}
use Rattle.disks.specs.FirstSupport.{IsSupport, Earlier, fewer, lexical, IsFirstSupport}
use Rattle.disks.proofs.Base.{positive_one}
use Rattle.disks.proofs.Minimal.{StronglyMinimal, strong_same}
use Rattle.disks.proofs.Lifted.{Lifted}
use Rattle.disks.proofs.LiftedProcedure.{lifted_mtf}
use Rattle.disks.proofs.Correct.{mtf_strong}
use Rattle.disks.proofs.LowestTerms.{lowered}
use Rattle.disks.proofs.Bridge.{strong_written}
use Rattle.disks.proofs.StrongSmallest.{some_positive, strong_smallest, written_on}
use Rattle.disks.proofs.OneWriting.{smallest_same}
use Rattle.disks.proofs.SupportPoints.{Supporting, Supported, one, two, three, support}
use Rattle.disks.proofs.Welzl.{smallest}
use Rattle.disks.proofs.First.{first_support_is, first_unique}
use Rattle.hull.specs.Hull.{IsHull}
use Rattle.hull.specs.Means.{Mean}
use Rattle.hull.proofs.Means.{mean}
use Rattle.hull.proofs.Convex.{inside, a_corner}

pub record Spans (P H : List Point) : Type 0 where
  pub members : (p : Point) → In p H → In p P
  pub all : (p : Point) → In p P → Mean H p

pub hull_spans : {P H : List Point} → IsHull P H → Spans P H
hull_spans {P} {H} h = record { members = h.members; all = mean H h }

-- ---- disks

pub fits_all : {P H : List Point} {c : RationalDisk} → Spans P H → Fits c H [] → Fits c P []
fits_all {P} {H} {c} s f = record {
  holds_all = λ p i. inside c.x c.y (pos c.e) (pos c.b) (reach c) f.holds_all (s.all p i) (nn c.b);
  through_all = f.through_all;
}

pub fits_fewer : {P H : List Point} {c : RationalDisk} → Spans P H → Fits c P [] → Fits c H []
fits_fewer s f = record { holds_all = λ p i. f.holds_all p (s.members p i); through_all = f.through_all }

module _ {H : List Point} (d : Disk) (held : (q : Point) → In q H → T (holds d q)) where
  held_once : (q : Point) → In q H → pos 1 *ℤ distance d q ≼ pos d.s
  unfolding holds
  held_once q i = rw (one-* (distance d q)) (record { le = held q i })

  pub held_inside : (p : Point) → Mean H p → T (holds d p)
  unfolding holds
  held_inside p s = (rw (one-* (distance d p)) at (inside d.x d.y (pos d.e) (pos 1) (pos d.s) held_once s (nn 1))).le

  pub boundary_corner : (p : Point) → Mean H p → 1 ≤ d.e → on_boundary d p → In p H
  boundary_corner p s some on = a_corner d.x d.y (pos d.e) (pos 1) (pos d.s) held_once s positive_one (some_positive some)
      (one-* (distance d p) ∙ on)

pub smallest_to : {P H : List Point} {d : Disk} → Spans P H → Smallest P d → Smallest H d
smallest_to {P} {H} {d} s m = record {
  proper = m.proper;
  lowest = m.lowest;
  holds_all = λ p i. m.holds_all p (s.members p i);
  through_all = m.through_all;
  least = λ c f. m.least c (fits_all s f);
  only = λ c f. m.only c (fits_all s f);
}

pub smallest_from : {P H : List Point} {d : Disk} → Spans P H → Smallest H d → Smallest P d
smallest_from {P} {H} {d} s m = record {
  proper = m.proper;
  lowest = m.lowest;
  holds_all = λ p i. held_inside d m.holds_all p (s.all p i);
  through_all = m.through_all;
  least = λ c f. m.least c (fits_fewer s f);
  only = λ c f. m.only c (fits_fewer s f);
}

-- ---- support sets

pub record BoundarySet (P R : List Point) (d : Disk) : Type 0 where
  pub set : List Point
  pub supports : IsSupport P set
  pub inside : (p : Point) → In p set → In p R
  pub on : (p : Point) → In p set → on_boundary d p

pub not_empty : (S : List Point) {x : Point} → In x S → 1 ≤ length S
not_empty [] i = absurd (Memᴰ.not-nil i)
not_empty (a ∷ S) i = omega arith

no_points : 1 ≤ 0 → ⊥
no_points h = omega arith

module _ {P : List Point} (q : Point) (Q : List Point) (s : IsSupport P (q ∷ Q)) where
  abbrev F : Lifted
  F = (lifted_mtf (q ∷ Q)).disk

  strong : StronglyMinimal (q ∷ Q) [] F
  strong = mtf_strong q Q

  own_disk : s.disk ≡ lowered F
  own_disk = smallest_same (same_refl (q ∷ Q)) (same_refl []) s.own (strong_smallest strong (strong_written strong))

  among_boundary : (S : List Point) (a : Point) → In a S → length S ≤ 3 → Supporting (q ∷ Q) S F → BoundarySet P (q ∷ Q) s.disk
  among_boundary S a i most t = record {
    set = sorted S;
    supports = record {
      rises = sorted_rises S;
      members = λ p j. s.members p (t.members p ((sorted_same S).from p j));
      some = not_empty (sorted S) ((sorted_same S).to a i);
      most = omega (arith, sorted-length S, most);
      disk = s.disk;
      whole = s.whole;
      own = subst (Smallest (sorted S)) (sym own_disk) (strong_smallest (strong_same (sorted_same S) t.own) (strong_written strong));
    };
    inside = λ p j. t.members p ((sorted_same S).from p j);
    on = λ p j. subst (λ (d : Disk). on_boundary d p) (sym own_disk)
        (written_on strong.feasible.proper (strong_written strong) p (t.on_boundary_is p ((sorted_same S).from p j)));
  }

  in_boundary : Supported (q ∷ Q) F → BoundarySet P (q ∷ Q) s.disk
  in_boundary (one a t) = among_boundary (a ∷ []) a (Memᴰ.head refl) (omega arith) t
  in_boundary (two a b t) = among_boundary (a ∷ b ∷ []) a (Memᴰ.head refl) (omega arith) t
  in_boundary (three a b c t) = among_boundary (a ∷ b ∷ c ∷ []) a (Memᴰ.head refl) (omega arith) t

pub boundary_set : {P : List Point} (R : List Point) (s : IsSupport P R) → BoundarySet P R s.disk
boundary_set [] s = absurd (no_points s.some)
boundary_set (q ∷ Q) s = in_boundary q Q s (support (strong q Q s))

-- ---- the first

support_up : {P H S : List Point} → Spans P H → IsSupport H S → IsSupport P S
support_up s t = record {
  rises = t.rises;
  members = λ p i. s.members p (t.members p i);
  some = t.some;
  most = t.most;
  disk = t.disk;
  whole = smallest_from s t.whole;
  own = t.own;
}

-- a support set of P whose points are all on the boundary is one of H
support_down : {P H : List Point} {R : List Point} → Spans P H → (d : Disk) → Smallest P d → (b : BoundarySet P R d) → IsSupport H b.set
support_down {P} {H} s d m b = record {
  rises = t.rises;
  members = λ p i. boundary_corner d (λ q j. m.holds_all q (s.members q j)) p (s.all p (t.members p i)) m.proper (b.on p i);
  some = t.some;
  most = t.most;
  disk = t.disk;
  whole = smallest_to s t.whole;
  own = t.own;
}
  where
    t : IsSupport P b.set
    t = b.supports

shorter : {S R : List Point} (n : ℕ) → (S ≡ R) ⊎ Earlier R S → length S < n → length R < n
shorter n (inl e) h = subst (λ (A : List Point). length A < n) e h
shorter n (inr (fewer k)) h = omega arith
shorter n (inr (lexical k l)) h = omega arith

pub first_up : {P H S : List Point} → Spans P H → IsFirstSupport H S → IsFirstSupport P S
first_up {P} {H} {S} s f = record { supports = support_up s f.supports; first = first }
  where
    first : (R : List Point) → IsSupport P R → (R ≡ S) ⊎ Earlier S R
    first R t = go (fewer_or_same b.set R b.supports.rises t.rises b.inside)
      where
        b : BoundarySet P R t.disk
        b = boundary_set R t

        found : (b.set ≡ S) ⊎ Earlier S b.set
        found = f.first b.set (support_down s t.disk t.whole b)

        go : (b.set ≡ R) ⊎ (length b.set < length R) → (R ≡ S) ⊎ Earlier S R
        go (inl e) = subst (λ (A : List Point). (A ≡ S) ⊎ Earlier S A) e found
        go (inr h) = inr (fewer (shorter (length R) found h))

has_point : {P S : List Point} → IsSupport P S → (p : Point) × In p P
has_point {P} {S} t = go S t.some t.members
  where
    go : (S : List Point) → 1 ≤ length S → ((p : Point) → In p S → In p P) → (p : Point) × In p P
    go [] h f = absurd (no_points h)
    go (a ∷ S) h f = (a, f a (Memᴰ.head refl))

-- H has a first support set, and it is the only one of P
pub first_down : {P S : List Point} (H : List Point) → Spans P H → IsFirstSupport P S → IsFirstSupport H S
first_down {P} {S} [] s f = absurd (nothing (has_point f.supports))
  where
    nothing : (p : Point) × In p P → ⊥
    nothing i = Memᴰ.not-nil (s.all i.0 i.1).a_in
first_down {P} {S} (q ∷ H) s f = subst (IsFirstSupport (q ∷ H)) (first_unique (same_refl P) (first_up s (first_support_is q H)) f) (first_support_is q H)

-- ---- the hull

module _ {P H : List Point} (h : IsHull P H) where
  pub smallest_hull : (d : Disk) → Smallest P d ↔ Smallest H d
  smallest_hull d = (λ m. smallest_to (hull_spans h) m, λ m. smallest_from (hull_spans h) m)

  pub first_support_hull : (S : List Point) → IsFirstSupport P S ↔ IsFirstSupport H S
  first_support_hull S = (λ f. first_down H (hull_spans h) f, λ f. first_up (hull_spans h) f)

pub disk_of_hull : (p : Point) (P : List Point) (H : List Point) → IsHull (p ∷ P) H → disk_of H ≡ disk_of (p ∷ P)
disk_of_hull p P [] h = absurd (h.corners p (Memᴰ.head refl))
disk_of_hull p P (q ∷ Q) h = smallest_same (same_refl (p ∷ P)) (same_refl []) ((smallest_hull h (disk_of (q ∷ Q))).1 (smallest q Q)) (smallest p P)

pub support_of_hull : (p : Point) (P : List Point) (H : List Point) → IsHull (p ∷ P) H → first_support H ≡ first_support (p ∷ P)
support_of_hull p P [] h = absurd (h.corners p (Memᴰ.head refl))
support_of_hull p P (q ∷ Q) h = first_unique (same_refl (p ∷ P)) ((first_support_hull h (first_support (q ∷ Q))).1 (first_support_is q Q)) (first_support_is p P)
