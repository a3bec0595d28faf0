-- The engine's answer is one that a record can hold, and its points belong to its disk.
--
--   valid_answer       : for a list of at least one point, all in the box of a square's limits, the disk and the first support set are valid by these
--   checked_answer     : and pass the checks
--   checked_enclosure  : so do those that the engine gives for a list
--   old_enclosure      : by the limits of the old em too, where the list's points lie in its box
use mathlib.Core.Path.{◌≡◌, refl, sym, subst}
use mathlib.Core.Bool.{true}
use mathlib.Core.List.{List, [], ◌∷◌}
use borrow.Author.Tests.{le-leb}
use lib.IntN.{ℤ}
use lib.ListN.{length}
use Rattle.point_lists.proofs.Rising.{rising_test}
use Rattle.answers.specs.Outcome.{given}
use Rattle.integers.proofs.Tests.{both, true_test}
use Rattle.geometry.specs.declared.Point.{Point}
use Rattle.geometry.specs.declared.Limits.{Limits}
use Rattle.geometry.specs.EmBox.{em, old_em, all_in_box, Inside}
use Rattle.geometry.specs.Points.{points}
use Rattle.geometry.proofs.EmBox.{inside_test, all_in, in_all}
use Rattle.point_lists.specs.Sets.{In}
use Rattle.disks.specs.Procedure.{disk_of}
use Rattle.disks.specs.Support.{first_support}
use Rattle.disks.specs.FirstSupport.{IsSupport}
use Rattle.disks.proofs.Welzl.{smallest}
use Rattle.disks.proofs.Answer.{Square, em_square, limits}
use Rattle.disks.proofs.First.{first_support_is}
use Rattle.engine.specs.Engine.{Enclosure, enclose_of}
use Rattle.engine.proofs.Accepted.{accepted_list, has_point}
use Rattle.validity.specs.Valid.{valid_points_in, valid_in}
use Rattle.validity.proofs.ValidLaws.{disk-valid, points-valid, both_valid}
use Rattle.belonging.proofs.Answers.{answer_belongs}
use Rattle.disk_checks.specs.Checks.{check_in, check_of}
use Rattle.disk_checks.proofs.CheckLaws.{passes_in}

-- the limits of the old em are those of a square too
old_square : Square old_em
old_square = record { some = record { lt = tt }; right_is = refl; top_is = refl; scale_is = refl; square_is = refl }

module _ (l : Limits) (sq : Square l) where
  support_valid : {P : List Point} (S : List Point) → IsSupport P S → ((p : Point) → In p P → Inside l p) → valid_points_in l S ≡ true
  support_valid S s h =
      points-valid l S (both (le-leb 1 (length S) s.some) (le-leb (length S) 3 s.most)) ((rising_test S).0 s.rises)
      (in_all l S (λ p i. h p (s.members p i)))

  valid_answer : (P : List Point) → (P ≡ [] → ⊥) → all_in_box l P ≡ true → valid_in l (disk_of P) (first_support P) ≡ true
  valid_answer [] some box = absurd (some refl)
  valid_answer (p ∷ P) some box =
      let disk = smallest p P in
      let inside = all_in l (p ∷ P) box in
      both_valid l (disk_of (p ∷ P)) (first_support (p ∷ P))
      (disk-valid l (disk_of (p ∷ P)) disk.proper disk.lowest (limits l sq p P (λ q i. true_test (inside_test l q (inside q i)))))
      (support_valid (first_support (p ∷ P)) (first_support_is p P).supports inside)

  checked_answer : (P : List Point) → (P ≡ [] → ⊥) → all_in_box l P ≡ true → check_in l (disk_of P) (first_support P) ≡ given tt
  checked_answer [] some box = absurd (some refl)
  checked_answer (p ∷ P) some box = passes_in l (disk_of (p ∷ P)) (first_support (p ∷ P)) (valid_answer (p ∷ P) some box) (answer_belongs p P)

pub checked_enclosure : (l : List ℤ) (e : Enclosure) → enclose_of l ≡ given e → check_of e.disk e.support ≡ given tt
checked_enclosure l e h =
    let a = accepted_list l e h in
    subst (λ (k : Enclosure). check_of k.disk k.support ≡ given tt) (sym a.answer)
    (checked_answer em em_square (points l) (has_point l a.even a.some) a.boxed)

pub old_enclosure : (l : List ℤ) (e : Enclosure) → enclose_of l ≡ given e → all_in_box old_em (points l) ≡ true
    → check_in old_em e.disk e.support ≡ given tt
old_enclosure l e h box =
    let a = accepted_list l e h in
    subst (λ (k : Enclosure). check_in old_em k.disk k.support ≡ given tt) (sym a.answer)
    (checked_answer old_em old_square (points l) (has_point l a.even a.some) box)
