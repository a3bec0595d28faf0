-- Item 12 holds (specs/SheetRun.antt).
--
--   RunKnown, run_known : what is known of a run that is not refused
--   number-at, along_at : the number of glyph k, and the state behind k glyphs
--   sheet-run           : SheetRun
use mathlib.Core.Path.{◌≡◌, refl, sym, ap, ap₂, ◌∙◌, subst}
use mathlib.Core.Logic.{◌↔◌}
use mathlib.Core.Bool.{Bool, true, false, ◌&&◌, true≢false}
use mathlib.Core.List.{List, ◌++◌, append_assoc}
use Prim.Native.Nat.{ℕ, zero, suc, ◌+◌, ◌-◌, ◌*◌, ◌≤◌, ◌<◌}
use native.Mathlib.Omega.{arith}
use borrow.Author.Tests.{le-leb, lt-leb, leb-true, ltb-true, ltb-false}
use lib.Dec.{leb, ltb, eqb}
use lib.IntN.{ℤ}
use lib.ListN.{length, take, drop, get_or-append}
use lib.Seq.{take_at, drop_at}
use Rattle.integers.proofs.Tests.{first, rest}
use Rattle.answers.specs.Outcome.{Outcome, given, refused}
use Rattle.answers.specs.Lent.{front_put}
use Rattle.answers.proofs.OutcomeLaws.{both_given, given_same, not_given}
use Rattle.description.specs.Description.{load_of, named, room}
use Rattle.description.proofs.AcceptedTexts.{room_long, accepted_room}
use Rattle.directory.specs.Directory.{count, count_of}
use Rattle.directory.proofs.Rows.{count_known}
use Rattle.sheet.specs.Sheet.{part_at}
use Rattle.record_writer.specs.Layout.{record_length}
use Rattle.disks.specs.Procedure.{disk_of}
use Rattle.disks.specs.Support.{first_support}
use Rattle.engine.specs.Engine.{enclosure}
use Rattle.letter.specs.Letter.{Letter, letter, letter_of}
use Rattle.letter.proofs.Whole.{letter_loaded, letter_unloaded, letter-named}
use Rattle.run_steps.specs.Steps.{State, tried, step}
use Rattle.sheet_run.specs.Running.{run_of, answer_of, buffer_by, numbers_by, buffer_after, numbers_after}
use Rattle.sheet_run.proofs.Rows.{run_is}
use Rattle.claims.specs.Values.{glyph_bytes}
use Rattle.claims.specs.Demand3.{AcceptedDescription, Answers, worked}
use Rattle.claims.proofs.Demand3.{answers, worked_is}
use Rattle.run_claims.specs.SheetRun.{tests_of, number_at, when, worked_to, spent_to, record_in, RunIsFair, LargerKeeps, SheetRun}
use Rattle.run_claims.proofs.Glyphs.{glyph, sound, described, opened}
use Rattle.run_claims.proofs.Passes.{verdict, enough, noted, bytes_if, added, up, ran-up, up-numbers, number_is, step_records, records_front, along, Along, kept}

-- ---- a run that is not refused

pub record RunKnown (s : List ℕ) (t : ℕ) (b ns : List ℕ) (w l : ℕ) : Type 0 where
  pub size : ℕ
  pub counts : count_of s ≡ given size
  pub comes_to : run_of s t b ns ≡ given (up s t (count s))
  pub worked_are : w ≡ (up s t (count s)).worked
  pub left_is : l ≡ (up s t (count s)).left

pub run_known : (s : List ℕ) (t : ℕ) (b ns : List ℕ) (w l : ℕ) → answer_of (run_of s t b ns) ≡ given (w, l) → RunKnown s t b ns w l
run_known s t b ns w l h =
    let one = both_given (run_of s t b ns) _ (w, l) h in
    let is = run_is s t b ns one.0 one.1.0 in
    let same : one.0 ≡ up s t (count s) = is.1.1 ∙ ran-up s t (count s) in
    let pair : ◌≡◌ {A = ℕ × ℕ} (w, l) (one.0.worked, one.0.left) = sym (given_same one.1.1) in
    record {
      size = is.0;
      counts = is.1.0;
      comes_to = one.1.0 ∙ ap given same;
      worked_are = ap (λ (p : ℕ × ℕ). p.0) pair ∙ ap (λ (q : State). q.worked) same;
      left_is = ap (λ (p : ℕ × ℕ). p.1) pair ∙ ap (λ (q : State). q.left) same;
    }

-- ---- tests

and_false : (b : Bool) → b && false ≡ false
and_false true = refl
and_false false = refl

worked_test : (b : Bool) → verdict b ≡ 0 → b ≡ true
worked_test true e = refl
worked_test false e = absurd (no e)
  where
    no : ◌≡◌ {A = ℕ} 16 0 → ⊥
    no e = omega arith

-- the letter of an accepted description
accepted_letter : {d : List ℕ} → AcceptedDescription d → letter_of d ≡ given (letter (enclosure (named d)))
accepted_letter {d} a = letter_loaded d a.list (accepted_room d a.list a.count a.loads) a.count a.loads

letter_accepted : (d : List ℕ) (g : Letter) → letter_of d ≡ given g → AcceptedDescription d
letter_accepted d g h = by_load (load_of d room) refl
  where
    by_load : (o : Outcome ℕ) → load_of d room ≡ o → AcceptedDescription d
    by_load (given n) e = record { list = room; count = n; loads = e }
    by_load (refused k) e = absurd (not_given (sym (letter_unloaded d room room_long k e) ∙ h))

-- ---- one run

module _ (s : List ℕ) (t : ℕ) (b ns : List ℕ) (w l : ℕ) (z : RunKnown s t b ns w l) where
  abbrev n : ℕ
  n = count s

  short : length s ≤ 65535
  short = (count_known s z.size z.counts).short

  abbrev end : State
  end = up s t n

  abbrev after : List ℕ
  after = buffer_after s t b ns

  abbrev numbers : List ℕ
  numbers = numbers_after s t b ns

  after_is : after ≡ front_put end.records b
  after_is = ap (λ (o : Outcome State). buffer_by o b) z.comes_to

  numbers_are : numbers ≡ front_put end.numbers ns
  numbers_are = ap (λ (o : Outcome State). numbers_by o ns) z.comes_to

  pub number-at : (k : ℕ) → k < n → number_at numbers k ≡ noted (glyph s k) (up s t k)
  number-at k h =
      ap (λ (m : List ℕ). number_at m k) numbers_are
      ∙ get_or-append end.numbers (drop (length end.numbers) ns) 0 k (omega (arith, up-numbers s t n))
      ∙ number_is s t n k h

  pub along_at : (k : ℕ) → k ≤ n → Along s t numbers k (up s t k)
  along_at k h = along s short t numbers n number-at k h

  -- a glyph with a letter
  module _ (k : ℕ) (below : k < n) (g : Letter) (is : glyph s k ≡ given g) where
    abbrev so_far : Along s t numbers k (up s t k)
    so_far = along_at k (omega arith)

    tests_are : g.tests ≡ tests_of (part_at s k)
    tests_are = (sound s short k).tests_are g is

    number_of : number_at numbers k ≡ verdict (enough g (up s t k))
    number_of = number-at k below ∙ ap (λ (o : Outcome Letter). noted o (up s t k)) is

    test_of : number_at numbers k ≡ 0 → enough g (up s t k) ≡ true
    test_of e = worked_test (enough g (up s t k)) (sym number_of ∙ e)

    by_test : (c : Bool) → enough g (up s t k) ≡ c → number_at numbers k ≡ verdict c
    by_test c e = number_of ∙ ap verdict e

    enough_left : number_at numbers k ≡ 0 → ((i : ℕ) → i < k → number_at numbers i ≡ 16 → ⊥) × (spent_to s numbers k + tests_of (part_at s k) ≤ t)
    enough_left e =
        let q = up s t k in
        let going = first q.going (leb g.tests q.left) (test_of e) in
        let less : g.tests ≤ q.left = leb-true g.tests q.left (rest q.going (leb g.tests q.left) (test_of e)) in
        (λ i h stop. true≢false (sym going ∙ so_far.stopped i h stop), omega (arith, so_far.left_is, tests_are))

    left_enough : ((i : ℕ) → i < k → number_at numbers i ≡ 16 → ⊥) → spent_to s numbers k + tests_of (part_at s k) ≤ t → number_at numbers k ≡ 0
    left_enough none h =
        by_test true (rw (so_far.running none) (le-leb g.tests (up s t k).left (omega (arith, so_far.left_is, tests_are))))

    too_many : t < spent_to s numbers k + tests_of (part_at s k) → number_at numbers k ≡ 16
    too_many h =
        by_test false (rw (lt-leb g.tests (up s t k).left (omega (arith, so_far.left_is, tests_are))) (and_false (up s t k).going))

    behind_stopped : (i : ℕ) → i ≤ k → number_at numbers i ≡ 16 → number_at numbers k ≡ 16
    behind_stopped i h e = by_place (ltb i k) refl
      where
        by_place : (c : Bool) → ltb i k ≡ c → number_at numbers k ≡ 16
        by_place true f = by_test false (rw (so_far.stopped i (ltb-true i k f) e))
        by_place false f = let same : i ≡ k = omega (arith, ltb-false i k f) in ap (number_at numbers) (sym same) ∙ e

    still_going : number_at numbers k ≡ 0 → (up s t (suc k)).going ≡ true
    unfolding up step tried
    still_going e = rw (is, test_of e)

    record_at : number_at numbers k ≡ 0 → record_in after numbers k ≡ g.bytes
    unfolding up
    record_at e =
        let q = up s t k in
        let d : suc k + (n - suc k) ≡ n = omega arith in
        let later = records_front s t (suc k) (n - suc k) in
        let mine : added (glyph s k) q ≡ g.bytes =
        ap (λ (o : Outcome Letter). added o q) is ∙ ap (λ (c : Bool). bytes_if c g) (test_of e) in
        let all : end.records ≡ q.records ++ (g.bytes ++ later.0) =
        ap (λ (i : ℕ). (up s t i).records) (sym d)
        ∙ later.1
        ∙ ap (λ (m : List ℕ). m ++ later.0) (step_records (glyph s k) q ∙ ap (λ (m : List ℕ). q.records ++ m) mine)
        ∙ append_assoc q.records g.bytes later.0 in
        let tail = drop (length end.records) b in
        let whole : after ≡ q.records ++ (g.bytes ++ (later.0 ++ tail)) =
        after_is
        ∙ ap (λ (m : List ℕ). m ++ tail) all
        ∙ append_assoc q.records (g.bytes ++ later.0) tail
        ∙ ap (λ (m : List ℕ). q.records ++ m) (append_assoc g.bytes later.0 tail) in
        let place : length q.records ≡ record_length * worked_to numbers k = so_far.long ∙ ap (λ (m : ℕ). record_length * m) so_far.worked_is in
        ap (λ (m : List ℕ). take record_length (drop (record_length * worked_to numbers k) m)) whole
        ∙ ap (take record_length) (drop_at q.records (g.bytes ++ (later.0 ++ tail)) (record_length * worked_to numbers k) place)
        ∙ take_at g.bytes (later.0 ++ tail) record_length ((sound s short k).long g is)

  -- a worked glyph has a letter
  worked-letter : (k : ℕ) → k < n → number_at numbers k ≡ 0 → (g : Letter) × (glyph s k ≡ given g)
  worked-letter k below e = by_glyph (glyph s k) refl
    where
      no : (m : ℕ) → 2 ≤ m → m ≡ 0 → ⊥
      no m l e = omega arith

      by_glyph : (o : Outcome Letter) → glyph s k ≡ o → (g : Letter) × (glyph s k ≡ given g)
      by_glyph (given g) is = (g, is)
      by_glyph (refused m) is =
          let number : number_at numbers k ≡ m = number-at k below ∙ ap (λ (o : Outcome Letter). noted o (up s t k)) is in
          absurd (no m ((sound s short k).own m is).0 (sym number ∙ e))

  -- a description that the sheet opener gives for glyph k
  module _ (k : ℕ) (d : List ℕ) (given_as : glyph_bytes s k ≡ given d) where
    abbrev below-count : k < n
    below-count = (described s k d given_as).0

    abbrev part_is : d ≡ part_at s k
    part_is = (described s k d given_as).1

    accepted_glyph : AcceptedDescription d → glyph s k ≡ given (letter (enclosure (named d)))
    accepted_glyph a = ap letter_of (sym part_is) ∙ accepted_letter a

    keeps_refusal : (m : ℕ) (list : List ℤ) → 8192 ≤ length list → load_of d list ≡ refused m → (number_at numbers k ≡ m) × (2 ≤ m) × (m ≤ 5)
    keeps_refusal m list long refuses =
        let is : glyph s k ≡ refused m = ap letter_of (sym part_is) ∙ letter_unloaded d list long m refuses in
        let own = (sound s short k).own m is in
        (number-at k below-count ∙ ap (λ (o : Outcome Letter). noted o (up s t k)) is, own.0, own.1)

    worked_out : number_at numbers k ≡ 0 → (list : List ℤ) → 8192 ≤ length list → (buffer : List ℕ) → record_length ≤ length buffer
        → (a : Answers) × ((worked d list buffer ≡ given a) × (record_in after numbers k ≡ a.bytes))
    worked_out e list long buffer room =
        let (g, is) = worked-letter k below-count e in
        let own : letter_of d ≡ given g = ap letter_of part_is ∙ is in
        let accepted = letter_accepted d g own in (
          answers (disk_of (named d)) (first_support (named d)),
          (worked_is accepted list buffer long room, record_at k below-count g is e ∙ ap (λ (f : Letter). f.bytes) (letter-named d g own)),
        )

  records_long : length end.records ≡ record_length * w
  records_long = (along_at n (omega arith)).long ∙ ap (λ (m : ℕ). record_length * m) (sym z.worked_are)

  is_fair : RunIsFair s t b ns w l after numbers
  is_fair = record {
    described = λ k d.
        (described s k d, λ h. subst (λ (c : List ℕ). glyph_bytes s k ≡ given c) (sym h.1) (opened s k z.size z.counts h.0));
    faulty = λ k m d list e long refuses. keeps_refusal k d e m list long refuses;
    worked_if = λ k d e a.
        let below = below-count k d e in
        let is = accepted_glyph k d e a in
        subst (λ (c : List ℕ). (number_at numbers k ≡ 0) ↔ (((i : ℕ) → i < k → number_at numbers i ≡ 16 → ⊥) × (spent_to s numbers k + tests_of c ≤ t)))
        (sym (part_is k d e)) (enough_left k below _ is, λ h. left_enough k below _ is h.0 h.1);
    needs_more = λ k d e a h.
        too_many k (below-count k d e) _ (accepted_glyph k d e a) (subst (λ (c : List ℕ). t < spent_to s numbers k + tests_of c) (part_is k d e) h);
    from_first = λ i k d h e a stop. behind_stopped k (below-count k d e) _ (accepted_glyph k d e a) i h stop;
    recorded = worked_out;
    many = z.worked_are ∙ (along_at n (omega arith)).worked_is;
    make_all = omega (arith, (along_at n (omega arith)).left_is, z.left_is);
    bytes_stay =
        ap (drop (record_length * w)) after_is
        ∙ drop_at end.records (drop (length end.records) b) (record_length * w) records_long
        ∙ ap (λ (m : ℕ). drop m b) records_long;
    places_stay =
        ap (drop n) numbers_are
        ∙ drop_at end.numbers (drop (length end.numbers) ns) n (up-numbers s t n)
        ∙ ap (λ (m : ℕ). drop m ns) (up-numbers s t n);
  }

-- ---- two runs

same_worked : (ns ms : List ℕ) (k : ℕ) → ((i : ℕ) → i < k → number_at ms i ≡ number_at ns i) → worked_to ms k ≡ worked_to ns k
unfolding worked_to
same_worked ns ms zero h = refl
same_worked ns ms (suc k) h =
    ap₂ (λ (a c : ℕ). a + when (eqb c 0) 1) (same_worked ns ms k (λ i l. h i (omega arith))) (h k (omega arith))

module _ (s : List ℕ) (t u : ℕ) (larger : t ≤ u) (b ns c ms : List ℕ) (w l x m : ℕ) (z : RunKnown s t b ns w l) (y : RunKnown s u c ms x m) where
  abbrev less : List ℕ
  less = numbers_after s t b ns

  abbrev more : List ℕ
  more = numbers_after s u c ms

  same_number : (k : ℕ) → k < count s → number_at less k ≡ 0 → (i : ℕ) → i ≤ k → number_at more i ≡ number_at less i
  same_number k below e i h =
      let (g, is) = worked-letter s t b ns w l z k below e in
      let both = kept s t u larger (suc k) (still_going s t b ns w l z k below g is e) in
      let here : i < suc k = omega arith in
      number-at s u c ms x m y i (omega arith)
      ∙ sym (number_is s u (suc k) i here)
      ∙ ap (λ (f : List ℕ). number_at f i) both.numbers
      ∙ number_is s t (suc k) i here
      ∙ sym (number-at s t b ns w l z i (omega arith))

  keeps : LargerKeeps s (buffer_after s t b ns) less (buffer_after s u c ms) more
  keeps = record {
    same_numbers = same_number;
    same_place = λ k below e. same_worked less more k (λ i h. same_number k below e i (omega arith));
    same_record = λ k below e.
        let (g, is) = worked-letter s t b ns w l z k below e in
        record_at s u c ms x m y k below g is (same_number k below e k (omega arith) ∙ e) ∙ sym (record_at s t b ns w l z k below g is e);
  }

pub sheet-run : SheetRun
sheet-run = record {
  fair = λ s t b ns w l h. is_fair s t b ns w l (run_known s t b ns w l h);
  larger = λ s t u le b ns c ms w l x m h k. keeps s t u le b ns c ms w l x m (run_known s t b ns w l h) (run_known s u c ms x m k);
}
