-- Document 02, item 8 holds (specs/HullPoints.antt).
--
--   same_answers  : whole radius, preview and record follow from disk and support set
--   sticking_in   : a point that sticks out is a corner
--   kept_numbers_lem  : the kept numbers are those of the hull's corners
--   hull_points   : HullPoints
use mathlib.Core.Path.{◌≡◌, refl, sym, ◌∙◌, ap, ap₂, subst}
use mathlib.Core.Bool.{Bool, true, false, true≢false}
use mathlib.Core.List.{List, [], ◌∷◌, ◌++◌}
use Prim.Native.Nat.{ℕ, ◌*◌, ◌-◌, ◌%◌, ◌≤◌}
use native.Mathlib.Omega.{arith}
use lib.IntN.{ℤ, pos}
use lib.ListN.{length, take, replicate}
use lib.Seq.{take_at}
use Rattle.answers.specs.Outcome.{given}
use Rattle.answers.proofs.OutcomeLaws.{both_given, given_same}
use Rattle.geometry.specs.declared.Point.{Point}
use Rattle.geometry.specs.Plane.{Disk}
use Rattle.geometry.specs.Points.{points, flat}
use Rattle.geometry.proofs.PointLists.{length-flat, points_of_flat}
use Rattle.point_lists.specs.Sets.{has, In}
use Rattle.point_lists.proofs.Sets.{none_of, also}
use Rattle.point_lists.proofs.SetTests.{has_in, in_has}
use Rattle.disks.specs.Procedure.{disk_of}
use Rattle.disks.specs.Support.{first_support}
use Rattle.engine.specs.Engine.{Enclosure, enclose_of}
use Rattle.engine.proofs.Accepted.{Accepted, accepted_list, has_point}
use Rattle.hull.specs.Hull.{IsHull}
use Rattle.hull.specs.Chains.{hull_of}
use Rattle.hull.proofs.HullOf.{hull_of_lem, hull_of_only, hull_some}
use Rattle.hull.proofs.Different.{hull_length}
use Rattle.hull.proofs.Means.{mean}
use Rattle.hull.proofs.Extreme.{extreme, not_in_row}
use Rattle.hull.proofs.SameDisk.{disk_of_hull, support_of_hull}
use Rattle.joined_chains.specs.Laid.{laid}
use Rattle.hull_points.specs.Reducing.{reduce_of, list_after}
use Rattle.hull_points.proofs.Answers.{given_answer, list_reduced}
use Rattle.rules.specs.Row.{AllKept}
use Rattle.rules.specs.Rules.{engine_row}
use Rattle.rules.proofs.Calls as calls
use Rattle.claims.specs.Demand3.{answers_for}
use Rattle.requests.specs.HullPoints.{kept_of, SticksOut, SameAnswers, HullPoints}

-- ---- the answers

same_answers : (e f : Enclosure) → e.disk ≡ f.disk → e.support ≡ f.support → (b : List ℕ) → answers_for e b ≡ answers_for f b
same_answers e f d s b = ap₂ (λ (c : Disk) (S : List Point). answers_for (record { disk = c; support = S; tests = 0 }) b) d s

-- ---- what sticks out

sticking_in : {P H : List Point} → IsHull P H → (p : Point) → SticksOut P p → In p H
sticking_in {P} {H} h p s = go (has H p) refl
  where
    go : (b : Bool) → has H p ≡ b → In p H
    go true e = has_in H p e
    go false e = absurd (s.1 H h.members (λ i. true≢false (sym (in_has H p i) ∙ e)) (mean H h p s.0))

-- ---- the hull of a list that the engine accepts

same_disk_lem : (P : List Point) → (P ≡ [] → ⊥) → disk_of (hull_of P) ≡ disk_of P
same_disk_lem [] n = absurd (n refl)
same_disk_lem (p ∷ P) n = disk_of_hull p P (hull_of (p ∷ P)) (hull_of_lem (p ∷ P))

same_support : (P : List Point) → (P ≡ [] → ⊥) → first_support (hull_of P) ≡ first_support P
same_support [] n = absurd (n refl)
same_support (p ∷ P) n = support_of_hull p P (hull_of (p ∷ P)) (hull_of_lem (p ∷ P))

module _ (l : List ℤ) (e : Enclosure) (h : enclose_of l ≡ given e) where
  abbrev P : List Point
  P = points l

  abbrev H : List Point
  H = hull_of P

  rules : Accepted l e
  rules = accepted_list l e h

  some : P ≡ [] → ⊥
  some = has_point l rules.even rules.some

  as_many : length (points (flat H)) ≡ length H
  as_many = ap length (points_of_flat H)

  engine_kept : AllKept (engine_row l)
  engine_kept = (calls.engine l).taken.0 (e, h)

  few : length H ≤ 4096
  few = omega (arith, hull_length P, engine_kept.1.1.0)

  room : 2 * length H ≤ length l
  room = omega (arith, hull_length P, calls.paired l engine_kept.0)

  kept_rules : AllKept (engine_row (flat H))
  kept_rules = (
    even (length H) (length-flat H),
    (
      omega (arith, as_many, hull_some P some),
      (
        omega (arith, as_many, few),
        ((λ p i. engine_kept.1.1.1.0 p ((hull_of_lem P).members p (subst (In p) (points_of_flat H) i))), tt),
      ),
    ),
  )
    where
      even : {n : ℕ} (m : ℕ) → n ≡ 2 * m → n % 2 ≡ 0
      even m e = omega arith

  kept_numbers_lem : take (2 * length H) (list_after l) ≡ flat H
  unfolding laid
  kept_numbers_lem =
      ap (take (2 * length H)) (list_reduced l h) ∙ take_at (flat H) (replicate (length l - 2 * length H) (pos 0)) (2 * length H) (length-flat H)

  answers_kept : SameAnswers l (flat H)
  answers_kept =
      let (f, g) = (calls.engine (flat H)).taken.1 kept_rules in
      let is = (accepted_list (flat H) f g).answer in
      let disk : f.disk ≡ e.disk =
      ap (λ (a : Enclosure). a.disk) is ∙ ap disk_of (points_of_flat H) ∙ same_disk_lem P some ∙ sym (ap (λ (a : Enclosure). a.disk) rules.answer) in
      let support : f.support ≡ e.support =
      ap (λ (a : Enclosure). a.support) is ∙ ap first_support (points_of_flat H) ∙ same_support P some
      ∙ sym (ap (λ (a : Enclosure). a.support) rules.answer) in
      record {
        full = e;
        kept = f;
        full_is = h;
        kept_is = g;
        disk = disk;
        support = support;
        answers = same_answers f e disk support;
        tests = ap (λ (a : Enclosure). a.tests) is;
      }

-- ---- the call

reduced : (l : List ℤ) → AllKept (engine_row l) → (H : List Point) → IsHull (points l) H
    → (reduce_of l ≡ given (length H)) × (2 * length H ≤ length l) × (list_after l ≡ flat H ++ replicate (length l - 2 * length H) (pos 0))
unfolding laid
reduced l k H is =
    let (e, h) = (calls.engine l).taken.1 k in
    rw (hull_of_only (points l) H is) (given_answer l h, room l e h, list_reduced l h)

same : (l : List ℤ) (n : ℕ) → reduce_of l ≡ given n → SameAnswers l (kept_of l n)
same l n k =
    let (e, (h, g)) = both_given (enclose_of l) _ n k in
    subst (SameAnswers l) (sym (ap (λ (m : ℕ). kept_of l m) (sym (given_same g)) ∙ kept_numbers_lem l e h)) (answers_kept l e h)

pub hull_points : HullPoints
hull_points = record {
  one_hull = λ P. (hull_of P, (hull_of_lem P, λ K k. hull_of_only P K k));
  reduced = reduced;
  no_row = λ P H h. not_in_row H h;
  row = λ P a b i j r. record { members = also (λ p. In p P) i (also (λ p. In p P) j (none_of (λ p. In p P))); corners = r };
  lone = λ P a i f. record { members = also (λ p. In p P) i (none_of (λ p. In p P)); corners = f };
  corners = λ P H h p. ((λ i. (h.members p i, extreme H h p i)), sticking_in h p);
  inside = λ P H h. mean H h;
  same = same;
}
