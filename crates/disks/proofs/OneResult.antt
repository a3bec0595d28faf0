-- The text's rule (specs/Runs.antt) leads to one state at most.
--
--   through_same  : there is one smallest disk with R on its boundary
--   runs_same     : two states in which the procedure ends on the same R and P are equal
use mathlib.Core.Path.{◌≡◌, refl, sym, ◌∙◌, ap, subst}
use mathlib.Core.Logic.{◌⊎◌, inl, inr}
use mathlib.Core.Bool.{true, false, true≢false}
use mathlib.Core.List.{List, [], ◌∷◌, ◌++◌}
use Prim.Native.Nat.{◌≤◌, ◌<◌}
use native.Mathlib.Omega.{arith}
use lib.ListN.{length, length-append}
use Rattle.geometry.specs.declared.Point.{Point}
use Rattle.geometry.specs.Plane.{Disk}
use Rattle.point_lists.proofs.Sets.{same_refl}
use Rattle.disks.specs.Smallest.{SmallestWith}
use Rattle.disks.specs.Procedure.{Cover, disk, outside, State}
use Rattle.disks.specs.Runs.{SmallestThrough, none, some, Runs, at_once, stays, moves}
use Rattle.disks.proofs.OneWriting.{smallest_same}

-- ---- the disk with R on its boundary

disk_same : {R S : List Point} {d c : Disk} → R ≡ S → SmallestWith [] R d → SmallestWith [] S c → d ≡ c
disk_same {R} {S} {d} {c} e m n = smallest_same (same_refl []) (same_refl R) m (subst (λ (T : List Point). SmallestWith [] T c) (sym e) n)

some_not_none : {R : List Point} → R ≡ [] → 1 ≤ length R → ⊥
some_not_none {R} e h = omega (arith, ap length e)

pub through_same : {R S : List Point} {c k : Cover} → SmallestThrough R c → SmallestThrough S k → R ≡ S → c ≡ k
through_same none none e = refl
through_same none (some h m) e = absurd (some_not_none (sym e) h)
through_same (some h m) none e = absurd (some_not_none e h)
through_same (some h m) (some k n) e = ap disk (disk_same e m n)

-- ---- the last point

no_last : (P : List Point) (p : Point) → [] ≡ P ++ (p ∷ []) → ⊥
no_last P p e = let h = ap length e ∙ length-append P (p ∷ []) in omega arith

last_same : (P Q : List Point) (p q : Point) → P ++ (p ∷ []) ≡ Q ++ (q ∷ []) → (P ≡ Q) × (p ≡ q)
last_same [] [] p q e = (refl, cc)
last_same [] (b ∷ Q) p q e = let h : [] ≡ Q ++ (q ∷ []) = cc in absurd (no_last Q q h)
last_same (a ∷ P) [] p q e = let h : [] ≡ P ++ (p ∷ []) = cc in absurd (no_last P p h)
last_same (a ∷ P) (b ∷ Q) p q e =
    let first : a ≡ b = cc in
    let rest : P ++ (p ∷ []) ≡ Q ++ (q ∷ []) = cc in
    let (s, t) = last_same P Q p q rest in
    ((λ i. first i ∷ s i), t)

-- P is empty or R is of three, and so P has no last point or R no room
not_at-once : {R S P : List Point} (Q : List Point) (q : Point) → (P ≡ []) ⊎ (length R ≡ 3) → length S < 3 → R ≡ S → P ≡ Q ++ (q ∷ []) → ⊥
not_at-once Q q (inl e) h s t = no_last Q q (sym e ∙ t)
not_at-once Q q (inr e) h s t = omega (arith, ap length s)

two_answers : {X : Type 0} {c k : Cover} {p q : Point} → c ≡ k → p ≡ q → outside c p ≡ true → outside k q ≡ false → X
two_answers {X} {c} {k} {p} {q} e l t f = absurd (true≢false (sym t ∙ (λ i. outside (e i) (l i)) ∙ f))

-- ---- the state

pub runs_same : {R S P Q : List Point} {s t : State} → Runs R P s → Runs S Q t → R ≡ S → P ≡ Q → s ≡ t
runs_same (at_once h b) (at_once k c) e l = λ i. record { cover = through_same b c e i; tests = 0; left = l i }
runs_same (at_once h b) (stays {P = Q} q k d n) e l = absurd (not_at-once Q q h k e l)
runs_same (at_once h b) (moves {P = Q} q k d n a) e l = absurd (not_at-once Q q h k e l)
runs_same (stays {P = P} p h r o) (at_once k c) e l = absurd (not_at-once P p k h (sym e) (sym l))
runs_same (stays {P = P} p h r o) (stays {P = Q} q k d n) e l =
    let (same, last) = last_same P Q p q l in
    let state = runs_same r d e same in
    cc
runs_same (stays {P = P} p h r o) (moves {P = Q} q k d n a) e l =
    let (same, last) = last_same P Q p q l in
    two_answers (ap (λ (s : State). s.cover) (sym (runs_same r d e same))) (sym last) n o
runs_same (moves {P = P} p h r o b) (at_once k c) e l = absurd (not_at-once P p k h (sym e) (sym l))
runs_same (moves {P = P} p h r o b) (stays {P = Q} q k d n) e l =
    let (same, last) = last_same P Q p q l in
    two_answers (ap (λ (s : State). s.cover) (runs_same r d e same)) last o n
runs_same (moves {P = P} p h r o b) (moves {P = Q} q k d n a) e l =
    let (same, last) = last_same P Q p q l in
    let state = runs_same r d e same in
    let inner = runs_same b a (λ i. last i ∷ e i) (λ i. (state i).left) in
    cc
