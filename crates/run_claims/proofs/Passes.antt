-- A run of a sheet, by what stands behind its first k glyphs.
--
--   up t k          == the state behind the first k glyphs, with the allowance t
--   ran-up          : behind all of them it is that of the run
--   verdict b, noted o q == the number that a glyph gets: 0 where the test b holds, else 16; or its refusal
--   added o q       == the bytes that it adds
--   number_is       : number k is what glyph k got
--   records_front   : what was written stays in front of what comes
--   Along s t ns k q == q is the state behind k glyphs, by their numbers ns
--   along           : it is so of each k
--   Kept p q        == no glyph needed more yet, the state q has what p has, and as much left or more
--   kept            : so it is with a larger allowance, as long as no glyph needed more with the other
use mathlib.Core.Path.{◌≡◌, refl, sym, ap, ◌∙◌, subst}
use mathlib.Core.Bool.{Bool, true, false, ◌&&◌, true≢false}
use mathlib.Core.List.{List, [], ◌∷◌, ◌++◌, append-nil, append_assoc}
use Prim.Native.Nat.{ℕ, zero, suc, ◌+◌, ◌*◌, ◌≤◌, ◌<◌}
use native.Mathlib.Nat.{add-zero, add-suc, zero-add}
use native.Mathlib.Omega.{arith}
use borrow.Author.Tests.{le-leb, leb-true, ltb-true, ltb-false, ne_eqb}
use lib.Dec.{leb, ltb, eqb}
use lib.ListN.{length, length-append, get_or-append}
use lib.Seq.{get_or_at}
use Rattle.integers.proofs.Tests.{first, rest}
use Rattle.answers.specs.Outcome.{Outcome, given, refused}
use Rattle.directory.specs.Directory.{pairs}
use Rattle.record_writer.specs.Layout.{record_length}
use Rattle.letter.specs.Letter.{Letter}
use Rattle.sheet.specs.Sheet.{part_at, parts}
use Rattle.run_steps.specs.Steps.{State, start, tried, step, pass}
use Rattle.sheet_run.specs.Running.{letters}
use Rattle.run_claims.specs.SheetRun.{tests_of, number_at, when, worked_to, spent_to}
use Rattle.run_claims.proofs.Glyphs.{glyph, Sound, sound}

-- ---- one glyph

abbrev pub verdict : Bool → ℕ
verdict true = 0
verdict false = 16

-- whether a letter is worked
abbrev pub enough : Letter → State → Bool
enough g q = q.going && leb g.tests q.left

abbrev pub noted : Outcome Letter → State → ℕ
noted (given g) q = verdict (enough g q)
noted (refused n) q = n

abbrev pub bytes_if : Bool → Letter → List ℕ
bytes_if true g = g.bytes
bytes_if false g = []

abbrev pub added : Outcome Letter → State → List ℕ
added (given g) q = bytes_if (enough g q) g
added (refused n) q = []

tried-numbers : (b : Bool) (g : Letter) (q : State) → (tried b g q).numbers ≡ q.numbers ++ (verdict b ∷ [])
unfolding tried
tried-numbers true g q = refl
tried-numbers false g q = refl

step-numbers : (o : Outcome Letter) (q : State) → (step o q).numbers ≡ q.numbers ++ (noted o q ∷ [])
unfolding step
step-numbers (given g) q = tried-numbers (enough g q) g q
step-numbers (refused n) q = refl

tried_records : (b : Bool) (g : Letter) (q : State) → (tried b g q).records ≡ q.records ++ bytes_if b g
unfolding tried
tried_records true g q = refl
tried_records false g q = sym (append-nil q.records)

pub step_records : (o : Outcome Letter) (q : State) → (step o q).records ≡ q.records ++ added o q
unfolding step
step_records (given g) q = tried_records (enough g q) g q
step_records (refused n) q = sym (append-nil q.records)

-- ---- the glyphs of a sheet

module _ (s : List ℕ) where
  unfoldable pub up : ℕ → ℕ → State
  up t zero = start t
  up t (suc k) = step (glyph s k) (up t k)

  pass_up : (t i n : ℕ) → pass (letters s i n) (up t i) ≡ up t (i + n)
  unfolding letters parts pairs pass up
  pass_up t i zero = ap (up t) (sym (add-zero i))
  pass_up t i (suc n) = let e : suc i + n ≡ i + suc n = omega arith in pass_up t (suc i) n ∙ ap (up t) e

  pub ran-up : (t n : ℕ) → pass (letters s 0 n) (start t) ≡ up t n
  unfolding up
  ran-up t n = pass_up t 0 n ∙ ap (up t) (zero-add n)

  pub up-numbers : (t k : ℕ) → length (up t k).numbers ≡ k
  unfolding up
  up-numbers t zero = refl
  up-numbers t (suc k) =
      ap length (step-numbers (glyph s k) (up t k)) ∙ length-append (up t k).numbers (noted (glyph s k) (up t k) ∷ []) ∙ omega (arith, up-numbers t k)

  pub number_is : (t m k : ℕ) → k < m → number_at (up t m).numbers k ≡ noted (glyph s k) (up t k)
  unfolding up
  number_is t zero k h = absurd (none k h)
    where
      none : (k : ℕ) → k < 0 → ⊥
      none k h = omega arith
  number_is t (suc m) k h = ap (λ (l : List ℕ). number_at l k) (step-numbers (glyph s m) (up t m)) ∙ by_place (ltb k m) refl (number_is t m k)
    where
      last : ℕ
      last = noted (glyph s m) (up t m)

      by_place : (b : Bool) → ltb k m ≡ b → (k < m → number_at (up t m).numbers k ≡ noted (glyph s k) (up t k))
          → number_at ((up t m).numbers ++ (last ∷ [])) k ≡ noted (glyph s k) (up t k)
      by_place true e earlier =
          let before : k < m = ltb-true k m e in
          get_or-append (up t m).numbers (last ∷ []) 0 k (omega (arith, up-numbers t m)) ∙ earlier before
      by_place false e earlier =
          let at : m ≡ k = omega (arith, ltb-false k m e) in
          get_or_at (up t m).numbers last [] 0 k (up-numbers t m ∙ at) ∙ ap (λ (i : ℕ). noted (glyph s i) (up t i)) at

  pub records_front : (t k d : ℕ) → (more : List ℕ) × ((up t (k + d)).records ≡ (up t k).records ++ more)
  unfolding up
  records_front t k zero = ([], ap (λ (i : ℕ). (up t i).records) (add-zero k) ∙ sym (append-nil (up t k).records))
  records_front t k (suc d) =
      let front = records_front t k d in
      let q = up t (k + d) in
      let o = glyph s (k + d) in (
        front.0 ++ added o q,
        ap (λ (i : ℕ). (up t i).records) (add-suc k d)
            ∙ step_records o q
            ∙ ap (λ (l : List ℕ). l ++ added o q) front.1
            ∙ append_assoc (up t k).records front.0 (added o q),
      )

-- ---- the state by the numbers

pub record Along (s : List ℕ) (t : ℕ) (ns : List ℕ) (k : ℕ) (q : State) : Type 0 where
  pub left_is : q.left + spent_to s ns k ≡ t
  pub worked_is : q.worked ≡ worked_to ns k
  pub long : length q.records ≡ record_length * q.worked
  pub running : ((i : ℕ) → i < k → number_at ns i ≡ 16 → ⊥) → q.going ≡ true
  pub stopped : (i : ℕ) → i < k → number_at ns i ≡ 16 → q.going ≡ false

-- number k, and what it adds
module _ (s ns : List ℕ) (k n : ℕ) (is : number_at ns k ≡ n) where
  spent_next : (b : Bool) → eqb n 0 ≡ b → spent_to s ns (suc k) ≡ spent_to s ns k + when b (tests_of (part_at s k))
  unfolding spent_to
  spent_next b e = ap (λ (c : Bool). spent_to s ns k + when c (tests_of (part_at s k))) (ap (λ (m : ℕ). eqb m 0) is ∙ e)

  worked_next : (b : Bool) → eqb n 0 ≡ b → worked_to ns (suc k) ≡ worked_to ns k + when b 1
  unfolding worked_to
  worked_next b e = ap (λ (c : Bool). worked_to ns k + when c 1) (ap (λ (m : ℕ). eqb m 0) is ∙ e)

  -- one of the first k + 1 numbers is 16
  among : {A : Type 0} → ((i : ℕ) → i < k → number_at ns i ≡ 16 → A) → (n ≡ 16 → A) → (i : ℕ) → i < suc k → number_at ns i ≡ 16 → A
  among {A} before at i h e = by_place (ltb i k) refl
    where
      by_place : (b : Bool) → ltb i k ≡ b → A
      by_place true f = before i (ltb-true i k f) e
      by_place false f = let same : i ≡ k = omega (arith, ltb-false i k f) in at (sym is ∙ ap (number_at ns) (sym same) ∙ e)

worked_not : ◌≡◌ {A = ℕ} 0 16 → ⊥
worked_not e = omega arith

module _ (s : List ℕ) (t : ℕ) (ns : List ℕ) (k : ℕ) (q : State) (a : Along s t ns k q) where
  faulty_along : (n : ℕ) → 2 ≤ n → n ≤ 5 → number_at ns k ≡ n → Along s t ns (suc k) (step (refused n) q)
  unfolding step
  faulty_along n low high is =
      let other = ne_eqb n 0 (λ z. no n low z) in
      record {
        left_is = omega (arith, a.left_is, spent_next s ns k n is false other);
        worked_is = a.worked_is ∙ sym (worked_next s ns k n is false other ∙ add-zero (worked_to ns k));
        long = a.long;
        running = λ h. a.running (λ i l. h i (omega arith));
        stopped = among s ns k n is a.stopped (λ z. absurd (high_not n high z));
      }
    where
      no : (n : ℕ) → 2 ≤ n → n ≡ 0 → ⊥
      no n l e = omega arith

      high_not : (n : ℕ) → n ≤ 5 → n ≡ 16 → ⊥
      high_not n l e = omega arith

  letter_along : (g : Letter) → g.tests ≡ tests_of (part_at s k) → length g.bytes ≡ record_length
      → (b : Bool) → enough g q ≡ b → number_at ns k ≡ verdict b → Along s t ns (suc k) (tried b g q)
  unfolding tried
  letter_along g tests long true test is =
      let going = first q.going (leb g.tests q.left) test in
      let less : g.tests ≤ q.left = leb-true g.tests q.left (rest q.going (leb g.tests q.left) test) in
      record {
        left_is = omega (arith, a.left_is, spent_next s ns k 0 is true refl);
        worked_is = ap (λ (w : ℕ). w + 1) a.worked_is ∙ sym (worked_next s ns k 0 is true refl);
        long = length-append q.records g.bytes ∙ omega (arith, a.long);
        running = λ h. refl;
        stopped = among s ns k 0 is (λ i l z. absurd (true≢false (sym going ∙ a.stopped i l z))) (λ z. absurd (worked_not z));
      }
  letter_along g tests long false test is = record {
    left_is = omega (arith, a.left_is, spent_next s ns k 16 is false refl);
    worked_is = a.worked_is ∙ sym (worked_next s ns k 16 is false refl ∙ add-zero (worked_to ns k));
    long = a.long;
    running = λ h. absurd (h k (omega arith) is);
    stopped = λ i l z. refl;
  }

  along_next : (o : Outcome Letter) → Sound (part_at s k) o → number_at ns k ≡ noted o q → Along s t ns (suc k) (step o q)
  unfolding step
  along_next (given g) sound is = letter_along g (sound.tests_are g refl) (sound.long g refl) (enough g q) refl is
  along_next (refused n) sound is = let own = sound.own n refl in faulty_along n own.0 own.1 is

pub along : (s : List ℕ) → length s ≤ 65535 → (t : ℕ) (ns : List ℕ) (n : ℕ) → ((k : ℕ) → k < n → number_at ns k ≡ noted (glyph s k) (up s t k))
    → (k : ℕ) → k ≤ n → Along s t ns k (up s t k)
unfolding up spent_to worked_to
along s short t ns n are zero h = record {
  left_is = add-zero t;
  worked_is = refl;
  long = refl;
  running = λ h. refl;
  stopped = λ i l. absurd (none i l);
}
  where
    none : (i : ℕ) → i < 0 → ⊥
    none i l = omega arith
along s short t ns n are (suc k) h =
    along_next s t ns k (up s t k) (along s short t ns n are k (omega arith)) (glyph s k) (sound s short k) (are k (omega arith))

-- ---- a larger allowance

pub record Kept (p q : State) : Type 0 where
  pub going : q.going ≡ true
  pub less : p.left ≤ q.left
  pub numbers : q.numbers ≡ p.numbers

-- p is behind no glyph that needed more, q stands with as much left or more
module _ (p q : State) where
  letter_kept : (g : Letter) (b : Bool) → enough g p ≡ b → Kept p q → (tried b g p).going ≡ true → Kept (tried b g p) (tried (enough g q) g q)
  unfolding tried
  letter_kept g true test k h =
      let fits : g.tests ≤ p.left = leb-true g.tests p.left (rest p.going (leb g.tests p.left) test) in
      let enough_too : enough g q ≡ true = rw k.going (le-leb g.tests q.left (omega (arith, k.less))) in
      subst (λ (b : Bool). Kept (tried true g p) (tried b g q)) (sym enough_too)
      (record { going = refl; less = omega (arith, k.less); numbers = ap (λ (l : List ℕ). l ++ (0 ∷ [])) k.numbers })
  letter_kept g false test k h = absurd (true≢false (sym h))

  step_kept : (o : Outcome Letter) → (p.going ≡ true → Kept p q) → (step o p).going ≡ true → Kept (step o p) (step o q)
  unfolding step tried
  step_kept (given g) k h = letter_kept g (enough g p) refl (k (was (enough g p) refl h)) h
    where
      was : (b : Bool) → enough g p ≡ b → (tried b g p).going ≡ true → p.going ≡ true
      was true e h = first p.going (leb g.tests p.left) e
      was false e h = absurd (true≢false (sym h))
  step_kept (refused n) k h =
      let same = k h in
      record { going = same.going; less = same.less; numbers = ap (λ (l : List ℕ). l ++ (n ∷ [])) same.numbers }

pub kept : (s : List ℕ) (t u : ℕ) → t ≤ u → (k : ℕ) → (up s t k).going ≡ true → Kept (up s t k) (up s u k)
unfolding up
kept s t u h zero e = record { going = refl; less = h; numbers = refl }
kept s t u h (suc k) e = step_kept (up s t k) (up s u k) (glyph s k) (kept s t u h k) e
