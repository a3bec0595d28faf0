-- Document 02, item 6 holds (specs/ChosenPoints.antt).
--
--   accepts_through : of a list and a choice that are accepted the answer is the disk that fits
--   choice_same     : the answer depends on which points are chosen alone
--   chosen-points   : ChosenPoints
use mathlib.Core.Path.{◌≡◌, refl, sym, ◌∙◌, subst}
use mathlib.Core.Logic.{◌⊎◌, inl, inr}
use mathlib.Core.List.Memᴰ
use mathlib.Core.List.{List, [], ◌∷◌, ◌++◌}
use Prim.Native.Nat.{ℕ, ◌≤◌}
use native.Mathlib.Omega.{arith}
use lib.Dec.{T}
use lib.IntN.{ℤ}
use Rattle.answers.specs.Outcome.{Outcome, given, refused}
use Rattle.integers.proofs.Tests.{true_test}
use Rattle.geometry.specs.declared.Point.{Point}
use Rattle.geometry.specs.Plane.{Disk}
use Rattle.geometry.specs.EmBox.{em, in_em_box}
use Rattle.geometry.specs.Points.{points}
use Rattle.geometry.proofs.EmBox.{inside_test}
use Rattle.point_lists.specs.Sets.{In, Same}
use Rattle.point_lists.proofs.Sets.{none_of, also, same_sym}
use Rattle.disks.specs.Smallest.{RationalDisk, Fits, SmallestWith}
use Rattle.disks.specs.Procedure.{mtf, disk_in}
use Rattle.fitting.specs.Fitting.{fitting_disk}
use Rattle.fitting.proofs.Decided.{smallest_given, none_refused, given_smallest, refused_none, weight_most}
use Rattle.chosen_points.specs.declared.Chosen.{Chosen}
use Rattle.chosen_points.specs.declared.Chosen.TheVariants.{One, Two}
use Rattle.chosen_points.specs.Chosen.{chosen, fixed, through_of}
use Rattle.chosen_points.proofs.Choice.{fixed_some, fixed_most, fixed_different, fixed_same, through_present}
use Rattle.chosen_points.proofs.Fitting.{fits_same, smallest_same_set, all_there}
use Rattle.rules.specs.Row.{Rule, ◌unless◌, DueFirst, AllKept}
use Rattle.rules.specs.Rules.{engine_row}
use Rattle.rules.proofs.RowLaws.{due_append, kept_append}
use Rattle.rules.proofs.Calls as calls
use Rattle.requests.specs.ChosenPoints.{Accepts, ChosenPoints}

module _ (l : List ℤ) (c : Chosen) where
  abbrev P : List Point
  P = points l

  abbrev F : List Point
  F = fixed c

  -- the two rules behind the engine's
  abbrev rest : List Rule
  rest = 12 unless ((p : Point) → In p (chosen c) → In p P) ∷ 13 unless ((k : RationalDisk) × Fits k P (chosen c)) ∷ []

  accepts_through : Accepts l c → through_of l c ≡ fitting_disk P F
  accepts_through a = let (e, taken) = (calls.engine l).taken.1 a.0 in through_present l c taken (all_there l c a.1)

  -- ---- a disk

  given_accepts : {d : Disk} → through_of l c ≡ given d → Accepts l c
  given_accepts {d} h = let k = (kept_append (engine_row l) rest).0 ((calls.through l c).taken.0 (d, h)) in (k.0, k.1.0)

  module _ {d : Disk} (h : through_of l c ≡ given d) where
    accepts : Accepts l c
    accepts = given_accepts h

    found : (k : RationalDisk) × Fits k P F × (disk_in (mtf F P).cover ≡ d) × SmallestWith P F d
    found = given_smallest F P (fixed_most c) (fixed_some c) (fixed_different c) (sym (accepts_through accepts) ∙ h)

    is_smallest : SmallestWith P (chosen c) d
    is_smallest = smallest_same_set (fixed_same c) found.3

    in_box : (p : Point) → In p P → T (in_em_box p)
    in_box p i = true_test (inside_test em p (accepts.0.1.1.1.0 p i))

    e_most : d.e ≤ em.scale
    e_most =
        subst (λ (k : Disk). k.e ≤ em.scale) found.2
        (weight_most F P (fixed_most c) (fixed_some c) (fixed_different c) found.0 found.1
        (λ p i. in_box p (accepts.1 p ((fixed_same c).to p i))) in_box)

  smallest_there : (d : Disk) → Accepts l c → SmallestWith P (chosen c) d → through_of l c ≡ given d
  smallest_there d a m =
      accepts_through a ∙ smallest_given F P (fixed_most c) (fixed_some c) (fixed_different c) (smallest_same_set (same_sym (fixed_same c)) m)

  -- ---- none

  engine_thirteen : DueFirst (engine_row l) 13 → ⊥
  engine_thirteen (inl h) = omega (arith, h.1)
  engine_thirteen (inr (k, inl h)) = omega (arith, h.1)
  engine_thirteen (inr (k, inr (j, inl h))) = omega (arith, h.1)
  engine_thirteen (inr (k, inr (j, inr (i, inl h)))) = omega (arith, h.1)
  engine_thirteen (inr (k, inr (j, inr (i, inr h)))) = absurd h.1

  thirteen_accepts : through_of l c ≡ refused 13 → Accepts l c
  thirteen_accepts h = go ((due_append (engine_row l) rest 13).0 (((calls.through l c).refusal 13).0 h))
    where
      go : DueFirst (engine_row l) 13 ⊎ (AllKept (engine_row l) × DueFirst rest 13) → Accepts l c
      go (inl d) = absurd (engine_thirteen d)
      go (inr (k, inl d)) = absurd (omega (arith, d.1))
      go (inr (k, inr d)) = (k, d.0)

  none_there : through_of l c ≡ refused 13 → (k : RationalDisk) → Fits k P (chosen c) → ⊥
  none_there h k f =
      refused_none F P (fixed_most c) (fixed_some c) (fixed_different c) (sym (accepts_through (thirteen_accepts h)) ∙ h) k
      (fits_same (same_sym (fixed_same c)) f)

  there_none : Accepts l c → ((k : RationalDisk) → Fits k P (chosen c) → ⊥) → through_of l c ≡ refused 13
  there_none a n =
      accepts_through a ∙ none_refused F P (fixed_most c) (fixed_some c) (fixed_different c) (λ k f. n k (fits_same (fixed_same c) f))

-- ---- the choice

module _ (l : List ℤ) (c k : Chosen) (s : Same (chosen c) (chosen k)) where
  rest_same : (n : ℕ) → DueFirst (rest l c) n → DueFirst (rest l k) n
  rest_same n (inl d) = inl ((λ h. d.0 (λ p i. h p (s.to p i))), d.1)
  rest_same n (inr (h, inl d)) = inr ((λ p i. h p (s.from p i)), inl ((λ t. d.0 (t.0, fits_same (same_sym s) t.1)), d.1))
  rest_same n (inr (h, inr d)) = absurd d.1

  due_same : (n : ℕ) → DueFirst (engine_row l ++ rest l c) n → DueFirst (engine_row l ++ rest l k) n
  due_same n d = (due_append (engine_row l) (rest l k) n).1 (go ((due_append (engine_row l) (rest l c) n).0 d))
    where
      go : DueFirst (engine_row l) n ⊎ (AllKept (engine_row l) × DueFirst (rest l c) n)
          → DueFirst (engine_row l) n ⊎ (AllKept (engine_row l) × DueFirst (rest l k) n)
      go (inl h) = inl h
      go (inr h) = inr (h.0, rest_same n h.1)

  choice_same : through_of l c ≡ through_of l k
  choice_same = go (through_of l c) refl
    where
      go : (o : Outcome Disk) → through_of l c ≡ o → through_of l c ≡ through_of l k
      go (given d) h =
          let a = given_accepts l c h in
          h ∙ sym (smallest_there l k d (a.0, λ p i. a.1 p (s.from p i)) (smallest_same_set s (is_smallest l c h)))
      go (refused n) h = h ∙ sym (((calls.through l k).refusal n).1 (due_same n (((calls.through l c).refusal n).0 h)))

twice_once : (p : Point) → Same (p ∷ p ∷ []) (p ∷ [])
twice_once p = record {
  to = also In-one (Memᴰ.head refl) (also In-one (Memᴰ.head refl) (none_of In-one));
  from = also (λ q. In q (p ∷ p ∷ [])) (Memᴰ.head refl) (none_of (λ q. In q (p ∷ p ∷ [])));
}
  where
    In-one : Point → Type 0
    In-one q = In q (p ∷ [])

other_way : (p q : Point) (r : Point) → In r (p ∷ q ∷ []) → In r (q ∷ p ∷ [])
other_way p q = also There (Memᴰ.tail (Memᴰ.head refl)) (also There (Memᴰ.head refl) (none_of There))
  where
    There : Point → Type 0
    There r = In r (q ∷ p ∷ [])

pub chosen-points : ChosenPoints
chosen-points = record {
  smallest = λ l c d. ((λ h. (given_accepts l c h, is_smallest l c h)), (λ a. smallest_there l c d a.0 a.1));
  none = λ l c. ((λ h. (thirteen_accepts l c h, none_there l c h)), (λ a. there_none l c a.0 a.1));
  twice = λ l p. choice_same l (Two p p) (One p) (twice_once p);
  exchanged = λ l p q. choice_same l (Two p q) (Two q p) (record { to = other_way p q; from = other_way q p });
  lowest = λ l c d h. (is_smallest l c h).lowest;
  e_some = λ l c d h. (is_smallest l c h).proper;
  e_most = λ l c d h. e_most l c h;
}
