-- The loader's verdict on the lines goes by the rule of the lines, then 5.
--
--   here i             == how many points the line i has
--   Faulty k ls n      == lines ls behind lines with k points: good ones, a faulty one that gives n, and the rest
--   from k ls          == the rule of these lines
--   judged             : the verdict on lines behind lines with k points goes by this rule, then 5
--   lines-judged       : so with none before them
use mathlib.Core.Path.{◌≡◌, refl, sym, ap, ◌∙◌, subst}
use mathlib.Core.Logic.{◌↔◌, ◌⊎◌, inl, inr}
use mathlib.Core.Bool.{true, false, not, true≢false}
use mathlib.Core.List.Memᴰ
use mathlib.Core.List.{List, [], ◌∷◌, ◌++◌, Memᴰ}
use Prim.Native.Nat.{ℕ, ◌+◌, ◌≤◌, ◌<◌}
use native.Mathlib.Nat.{zero-add, add-zero}
use native.Mathlib.Numerals.{add-one}
use native.Mathlib.Omega.{arith}
use borrow.Author.Tests.{eqb-true, eqb-false, leb-true, leb-false, not-true, not-false}
use lib.Dec.{leb, eqb}
use lib.ListN.{length}
use Rattle.answers.specs.Outcome.{Outcome, refused}
use Rattle.geometry.specs.declared.Point.{Point}
use Rattle.geometry.specs.EmBox.{em, in_em_box, Inside}
use Rattle.geometry.proofs.EmBox.{inside, inside_test}
use Rattle.lines.specs.Line.{Line, blank, point, fault}
use Rattle.lines.proofs.OneKind.{blank_fault, blank_point, point_fault, point_same}
use Rattle.description.specs.Description.{points_on, by_line}
use Rattle.rules.specs.Row.{Rule, ◌unless◌, DueFirst, AllKept, GoesBy}
use Rattle.rules.specs.Rules as rules
use Rattle.rules.specs.Rules.{GoodLine, empty, boxed, AllGood, line_row, FirstFaulty}
use Rattle.rules.proofs.RowLaws.{row_end, row_step, due_append, kept_append, row_same, row_kept, rule_kept}

-- ---- one line

fault_bad : GoodLine fault → ⊥
fault_bad g = go fault g refl
  where
    go : (i : Line) → GoodLine i → i ≡ fault → ⊥
    go fault g e = elim g [ ]
    go blank empty e = blank_fault e
    go (point p) (boxed b) e = point_fault p e

abbrev here : Line → ℕ
here blank = 0
here (point p) = 1
here fault = 0

points_here : (i : Line) (ls : List Line) → length (points_on (i ∷ ls)) ≡ here i + length (points_on ls)
unfolding points_on
points_here blank ls = sym (zero-add (length (points_on ls)))
points_here (point p) ls = omega arith
points_here fault ls = sym (zero-add (length (points_on ls)))

line_good : (k : ℕ) (i : Line) → k ≤ 4096 → AllKept (line_row k i) → GoodLine i × (k + here i ≤ 4096)
line_good k blank h r = (empty, omega arith)
line_good k (point p) h r = let l : k < 4096 = r.1.1.0 p refl in (boxed (r.1.0 p refl), omega arith)
line_good k fault h r = absurd (r.0 refl)

good_line : (k : ℕ) (i : Line) → GoodLine i → k + here i ≤ 4096 → AllKept (line_row k i)
good_line k blank g h = (blank_fault, ((λ p e. absurd (blank_point p e)), ((λ p e. absurd (blank_point p e)), tt)))
good_line k (point p) (boxed b) h = (point_fault p, ((λ q e. subst (Inside em) (point_same p q e) b), ((λ q e. omega arith), tt)))
good_line k fault g h = absurd (fault_bad g)

all_good : (i : Line) (ls : List Line) → GoodLine i → AllGood ls → AllGood (i ∷ ls)
all_good i ls g a j m = go (Memᴰ.cases_cons m)
  where
    go : (j ≡ i) ⊎ Memᴰ j ls → GoodLine j
    go (inl e) = subst GoodLine (sym e) g
    go (inr n) = a j n

-- ---- lines behind lines with k points

record Faulty (k : ℕ) (ls : List Line) (n : ℕ) : Type 0 where
  front : List Line
  line : Line
  back : List Line
  parted : ls ≡ front ++ line ∷ back
  good : AllGood front
  few : k + length (points_on front) ≤ 4096
  due : DueFirst (line_row (k + length (points_on front)) line) n

abbrev from : ℕ → List Line → Rule
from k ls = record { Kept = AllGood ls × (k + length (points_on ls) ≤ 4096); Broken = Faulty k ls }

abbrev row_from : ℕ → List Line → List Rule
row_from k ls = from k ls ∷ 5 unless (1 ≤ k + length (points_on ls)) ∷ []

faulty_none : (k n : ℕ) → Faulty k [] n → ⊥
faulty_none k n f = go f.front f.parted
  where
    go : (front : List Line) → [] ≡ front ++ f.line ∷ f.back → ⊥
    go [] e = let z : ◌≡◌ {A = ℕ} 0 1 = cc in omega arith
    go (i ∷ front) e = let z : ◌≡◌ {A = ℕ} 0 1 = cc in omega arith

here_more : (k : ℕ) (i : Line) (ls : List Line) → k + length (points_on (i ∷ ls)) ≡ k + here i + length (points_on ls)
here_more k i ls = let e = points_here i ls in omega (arith, e)

-- the first of the lines is faulty, or it is good and the first faulty one is behind it
module _ (k : ℕ) (i : Line) (ls : List Line) (n : ℕ) where
  faulty_split : Faulty k (i ∷ ls) n → DueFirst (line_row k i) n ⊎ (AllKept (line_row k i) × Faulty (k + here i) ls n)
  unfolding points_on
  faulty_split f = go f.front f.parted f.good f.few f.due
    where
      go : (front : List Line) → i ∷ ls ≡ front ++ f.line ∷ f.back → AllGood front → k + length (points_on front) ≤ 4096
          → DueFirst (line_row (k + length (points_on front)) f.line) n
          → DueFirst (line_row k i) n ⊎ (AllKept (line_row k i) × Faulty (k + here i) ls n)
      go [] e g l d =
          let same : f.line ≡ i = cc in
          let at_line : DueFirst (line_row k f.line) n = subst (λ (m : ℕ). DueFirst (line_row m f.line) n) (add-zero k) d in
          inl (subst (λ (j : Line). DueFirst (line_row k j) n) same at_line)
      go (j ∷ front) e g l d =
          let same : j ≡ i = cc in
          let others : ls ≡ front ++ f.line ∷ f.back = cc in
          let fine : GoodLine i = subst GoodLine same (g j (Memᴰ.head refl)) in
          let more = here_more k j front ∙ ap (λ (h : Line). k + here h + length (points_on front)) same in
          let room : k + here i + length (points_on front) ≤ 4096 = subst (λ (m : ℕ). m ≤ 4096) more l in
          inr (
            good_line k i fine (omega arith),
            record {
              front = front;
              line = f.line;
              back = f.back;
              parted = others;
              good = λ h m. g h (Memᴰ.tail m);
              few = room;
              due = subst (λ (m : ℕ). DueFirst (line_row m f.line) n) more d;
            },
          )

  faulty_here : k ≤ 4096 → DueFirst (line_row k i) n → Faulty k (i ∷ ls) n
  unfolding points_on
  faulty_here h d = record {
    front = [];
    line = i;
    back = ls;
    parted = refl;
    good = λ j m. absurd (Memᴰ.not-nil m);
    few = omega arith;
    due = subst (λ (m : ℕ). DueFirst (line_row m i) n) (sym (add-zero k)) d;
  }

  faulty_later : GoodLine i → Faulty (k + here i) ls n → Faulty k (i ∷ ls) n
  faulty_later g f = record {
    front = i ∷ f.front;
    line = f.line;
    back = f.back;
    parted = ap {B = List Line} (λ l. i ∷ l) f.parted;
    good = all_good i f.front g f.good;
    few = subst (λ (m : ℕ). m ≤ 4096) (sym (here_more k i f.front)) f.few;
    due = subst (λ (m : ℕ). DueFirst (line_row m f.line) n) (sym (here_more k i f.front)) f.due;
  }

-- the rules of a line and then those of the next lines are the rules of the lines from it on
module _ (k : ℕ) (i : Line) (ls : List Line) (h : k ≤ 4096) where
  kept_cons : (AllKept (line_row k i) × (from (k + here i) ls).Kept) ↔ (from k (i ∷ ls)).Kept
  kept_cons = (
    λ r. let g = line_good k i h r.0 in (all_good i ls g.0 r.1.0, subst (λ (m : ℕ). m ≤ 4096) (sym (here_more k i ls)) r.1.1),
    λ r. let room : k + here i + length (points_on ls) ≤ 4096 = subst (λ (m : ℕ). m ≤ 4096) (here_more k i ls) r.1 in (
      good_line k i (r.0 i (Memᴰ.head refl)) (omega arith),
      (λ j m. r.0 j (Memᴰ.tail m), room),
    ),
  )

  some_cons : (1 ≤ k + here i + length (points_on ls)) ↔ (1 ≤ k + length (points_on (i ∷ ls)))
  some_cons = (subst (λ (m : ℕ). 1 ≤ m) (sym (here_more k i ls)), subst (λ (m : ℕ). 1 ≤ m) (here_more k i ls))

  due_cons : (n : ℕ) → DueFirst (line_row k i ++ row_from (k + here i) ls) n ↔ DueFirst (row_from k (i ∷ ls)) n
  due_cons n = (
    λ d. elim ((due_append (line_row k i) (row_from (k + here i) ls) n).0 d) [
      | inl a ↦ inl (faulty_here k i ls n h a)
      | inr a ↦ elim a.1 [
        | inl b ↦ inl (faulty_later k i ls n (line_good k i h a.0).0 b)
        | inr b ↦ inr (
          kept_cons.0 (a.0, b.0),
          elim b.1 [
            | inl c ↦ inl ((λ s. c.0 (some_cons.1 s)), c.1)
            | inr c ↦ absurd c.1
          ],
        )
      ]
    ],
    λ d. (due_append (line_row k i) (row_from (k + here i) ls) n).1 (elim d [
      | inl a ↦ elim (faulty_split k i ls n a) [ inl b ↦ inl b | inr b ↦ inr (b.0, inl b.1) ]
      | inr a ↦ let r = kept_cons.1 a.0 in inr (
        r.0,
        inr (
          r.1,
          elim a.1 [
            | inl c ↦ inl ((λ s. c.0 (some_cons.0 s)), c.1)
            | inr c ↦ absurd c.1
          ],
        ),
      )
    ]),
  )

  all_cons : AllKept (line_row k i ++ row_from (k + here i) ls) ↔ AllKept (row_from k (i ∷ ls))
  all_cons = (
    λ r. (kept_cons.0 ((r.0, (r.1.0, (r.1.1.0, tt))), r.1.1.1.0), (some_cons.0 r.1.1.1.1.0, tt)),
    λ r. let s = kept_cons.1 r.0 in (kept_append (line_row k i) (row_from (k + here i) ls)).1 (s.0, (s.1, (some_cons.1 r.1.0, tt))),
  )

  row_cons : (o : Outcome ℕ) → GoesBy (line_row k i ++ row_from (k + here i) ls) o → GoesBy (row_from k (i ∷ ls)) o
  row_cons o g = row_same due_cons all_cons g

-- ---- the verdict

judged : (ls : List Line) (k : ℕ) → k ≤ 4096 → GoesBy (row_from k ls) (by_line k ls)
unfolding by_line points_on
judged [] k h =
    row_kept (from k []) ((λ i m. absurd (Memᴰ.not-nil m)), omega arith) (faulty_none k)
    (row_step (eqb k 0) 5 (λ t s. none k (eqb-true k 0 t) s) (λ f. some k (eqb-false k 0 f)) (λ s. row_end k))
  where
    none : (k : ℕ) → k ≡ 0 → 1 ≤ k + 0 → ⊥
    none k e s = omega arith

    some : (k : ℕ) → (k ≡ 0 → ⊥) → 1 ≤ k + 0
    some k e = omega (arith, e)
judged (blank ∷ ls) k h =
    let later : GoesBy (row_from (k + 0) ls) (by_line k ls) =
    subst (λ (m : ℕ). GoesBy (row_from (k + 0) ls) (by_line m ls)) (add-zero k) (judged ls (k + 0) (omega arith)) in
    row_cons k blank ls h (by_line k ls)
    (rule_kept 2 blank_fault (rule_kept 3 (λ p e. absurd (blank_point p e)) (rule_kept 4 (λ p e. absurd (blank_point p e)) later)))
judged (fault ∷ ls) k h =
    row_cons k fault ls h (refused 2)
    (row_step true 2 {rest = refused 2} (λ t s. s refl) (λ f. absurd (true≢false f)) (λ s. absurd (s refl)))
judged (point p ∷ ls) k h =
    row_cons k (point p) ls h _
    (rule_kept 2 (point_fault p)
    (row_step (not (in_em_box p)) 3 (λ t s. outside p (not-true (in_em_box p) t) (s p refl)) (λ f. within p (inside em p (not-false (in_em_box p) f)))
    (λ s. row_step (leb 4096 k) 4 {P = (q : Point) → point p ≡ point q → k < 4096}
    (λ t r. full k (leb-true 4096 k t) (r p refl)) (λ f q e. leb-false 4096 k f)
    (λ r. let room : k < 4096 = r p refl in
    subst (λ (m : ℕ). GoesBy (row_from (k + 1) ls) (by_line m ls)) (add-one k) (judged ls (k + 1) (omega arith))))))
  where
    outside : (p : Point) → in_em_box p ≡ false → Inside em p → ⊥
    outside p f b = true≢false (sym (inside_test em p b) ∙ f)

    within : (p : Point) → Inside em p → (q : Point) → point p ≡ point q → Inside em q
    within p b q e = subst (Inside em) (point_same p q e) b

    full : (k : ℕ) → 4096 ≤ k → k < 4096 → ⊥
    full k h l = omega arith

-- with no line before them
lines_due : (ls : List Line) (n : ℕ) → Faulty 0 ls n ↔ FirstFaulty ls n
lines_due ls n = (
  λ f. let e = zero-add (length (points_on f.front)) in record {
    front = f.front;
    line = f.line;
    back = f.back;
    parted = f.parted;
    good = f.good;
    few = subst (λ (m : ℕ). m ≤ 4096) e f.few;
    due = subst (λ (m : ℕ). DueFirst (line_row m f.line) n) e f.due;
  },
  λ f. let e = sym (zero-add (length (points_on f.front))) in record {
    front = f.front;
    line = f.line;
    back = f.back;
    parted = f.parted;
    good = f.good;
    few = subst (λ (m : ℕ). m ≤ 4096) e f.few;
    due = subst (λ (m : ℕ). DueFirst (line_row m f.line) n) e f.due;
  },
)

pub lines-judged : (ls : List Line) → GoesBy (rules.by_line ls ∷ 5 unless (1 ≤ length (points_on ls)) ∷ []) (by_line 0 ls)
lines-judged ls = row_same due all (judged ls 0 (omega arith))
  where
    none : 0 + length (points_on ls) ≡ length (points_on ls)
    none = zero-add (length (points_on ls))

    kept : (from 0 ls).Kept ↔ (rules.by_line ls).Kept
    kept = ((λ k. (k.0, rw none at k.1)), (λ k. (k.0, rw none k.1)))

    some : (1 ≤ 0 + length (points_on ls)) ↔ (1 ≤ length (points_on ls))
    some = ((λ k. rw none at k), (λ k. rw none k))

    due : (n : ℕ) → DueFirst (row_from 0 ls) n ↔ DueFirst (rules.by_line ls ∷ 5 unless (1 ≤ length (points_on ls)) ∷ []) n
    due n = (
      λ d. elim d [
        | inl a ↦ inl ((lines_due ls n).0 a)
        | inr a ↦ inr (kept.0 a.0, elim a.1 [ inl c ↦ inl ((λ s. c.0 (some.1 s)), c.1) | inr c ↦ absurd c.1 ])
      ],
      λ d. elim d [
        | inl a ↦ inl ((lines_due ls n).1 a)
        | inr a ↦ inr (kept.1 a.0, elim a.1 [ inl c ↦ inl ((λ s. c.0 (some.0 s)), c.1) | inr c ↦ absurd c.1 ])
      ],
    )

    all : AllKept (row_from 0 ls) ↔ AllKept (rules.by_line ls ∷ 5 unless (1 ≤ length (points_on ls)) ∷ [])
    all = ((λ r. (kept.0 r.0, (some.0 r.1.0, tt))), (λ r. (kept.1 r.0, (some.1 r.1.0, tt))))
