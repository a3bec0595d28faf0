-- Item 13 holds (specs/SheetEstimate.antt).
--
--   Known, known     : what is known of an estimate that is not refused
--   sheet-estimate   : SheetEstimate
use mathlib.Core.Path.{◌≡◌, refl, sym, ap, ◌∙◌, subst}
use mathlib.Core.Bool.{Bool, true, false}
use mathlib.Core.List.{List, map}
use Prim.Native.Nat.{ℕ, zero, suc, ◌+◌, ◌*◌, ◌≤◌, ◌<◌}
use native.Mathlib.Omega.{arith}
use borrow.Author.Tests.{le-leb, leb-true, ltb-true, ltb-false, ne_eqb}
use lib.Dec.{ltb, eqb}
use lib.IntN.{ℤ}
use lib.ListN.{length, drop, get_or-append}
use lib.Seq.{drop_at}
use Rattle.answers.specs.Outcome.{Outcome, given, refused}
use Rattle.answers.specs.Lent.{front_put}
use Rattle.answers.proofs.OutcomeLaws.{both_given, given_same, not_given, refused_same}
use Rattle.disks.proofs.EveryRun.{most_three}
use Rattle.description.specs.Description.{load_of, room}
use Rattle.description.proofs.AcceptedTexts.{room_long, load_same, accepted_count}
use Rattle.directory.specs.Directory.{count, count_of}
use Rattle.directory.proofs.Rows.{Counted, count_known}
use Rattle.sheet.specs.Sheet.{part_at}
use Rattle.record_writer.specs.Layout.{record_length}
use Rattle.letter.specs.Letter.{Letter}
use Rattle.letter.proofs.Whole.{letter_unloaded}
use Rattle.run_steps.specs.Steps.{State, tried, step}
use Rattle.sheet_run.specs.Running as running
use Rattle.sheet_run.specs.Running.{run_of, buffer_after, numbers_after}
use Rattle.sheet_run.proofs.Rows.{run_no_room, run_no_place, run_given}
use Rattle.sheet_estimate.specs.Estimating.{points_of, refusal_of, bytes_for, most_tests, tests_for, Estimate, estimated, estimate_of, answer_of}
use Rattle.sheet_estimate.specs.Estimating.{points_by, refusals_by, points_after, refusals_after, loads}
use Rattle.sheet_estimate.proofs.Sums.{most, tests_few}
use Rattle.sheet_estimate.proofs.Rows.{estimate_is}
use Rattle.sheet_estimate.proofs.Told.{load_at}
use Rattle.claims.specs.Values.{glyph_bytes}
use Rattle.run_claims.specs.SheetRun.{number_at, when, worked_to}
use Rattle.run_claims.proofs.Glyphs.{glyph, sound, described, opened}
use Rattle.run_claims.proofs.Passes.{verdict, enough, noted, up, Along}
use Rattle.run_claims.proofs.SheetRun.{RunKnown, run_known, number-at, along_at, sheet-run}
use Rattle.estimate_claims.specs.SheetEstimate.{total, acceptable, EstimateIsTrue, RunKeepsTo, SheetEstimate}
use Rattle.estimate_claims.proofs.Totals.{total_same, total_within, total_most, noted_long, noted_at, sum-total, Agree, both, neither, agree}

-- ---- a run with enough left

-- before a glyph, of whose letter and load the state q knows that no glyph needed more, and that with what is `done` the allowance t is left
module _ (t done : ℕ) (q : State) (going : q.going ≡ true) (left : t ≤ q.left + done) where
  fits : (g : Letter) (m : ℕ) → g.tests ≤ most_tests m → done + most_tests m ≤ t → enough g q ≡ true
  fits g m few room_for = rw going (le-leb g.tests q.left (omega arith))

  noted_load : {o : Outcome Letter} {l : Outcome ℕ} → Agree o l → done + tests_for l ≤ t → noted o q ≡ refusal_of l
  noted_load (both {g} {n} few) h = ap verdict (fits g n few h)
  noted_load neither h = refl

  still_going : {o : Outcome Letter} {l : Outcome ℕ} → Agree o l → done + tests_for l ≤ t
      → ((step o q).going ≡ true) × (t ≤ (step o q).left + (done + tests_for l))
  unfolding step tried
  still_going (both {g} {n} few) h =
      subst (λ (c : Bool). ((tried c g q).going ≡ true) × (t ≤ (tried c g q).left + (done + most_tests n))) (sym (fits g n few h))
      (refl, omega (arith, leb-true g.tests q.left (le-leb g.tests q.left (omega arith))))
  still_going neither h = (going, omega arith)

worked-total : (ns : List ℕ) (k : ℕ) → record_length * worked_to ns k ≡ total (acceptable ns (λ j. record_length)) k
unfolding worked_to total
worked-total ns zero = refl
worked-total ns (suc k) = omega (arith, worked-total ns k, one (eqb (number_at ns k) 0))
  where
    one : (c : Bool) → record_length * when c 1 ≡ when c record_length
    one true = refl
    one false = refl

-- ---- an estimate that is not refused

pub record Known (s ps rs : List ℕ) (b t : ℕ) : Type 0 where
  pub size : ℕ
  pub counts : count_of s ≡ given size
  pub comes_to : estimate_of s ps rs ≡ given (estimated s (count s))
  pub bytes_are : b ≡ total (λ k. bytes_for (load_at s k)) (count s)
  pub tests_are : t ≡ total (λ k. tests_for (load_at s k)) (count s)

pub known : (s ps rs : List ℕ) (b t : ℕ) → answer_of (estimate_of s ps rs) ≡ given (b, t) → Known s ps rs b t
known s ps rs b t h =
    let one = both_given (estimate_of s ps rs) _ (b, t) h in
    let is = estimate_is s ps rs one.0 one.1.0 in
    let same : one.0 ≡ estimated s (count s) = is.1.1 ∙ ap (estimated s) (count_known s is.0 is.1.0).all in
    let pair : ◌≡◌ {A = ℕ × ℕ} (b, t) (one.0.bytes, one.0.tests) = sym (given_same one.1.1) in
    record {
      size = is.0;
      counts = is.1.0;
      comes_to = one.1.0 ∙ ap given same;
      bytes_are = ap (λ (p : ℕ × ℕ). p.0) pair ∙ ap (λ (e : Estimate). e.bytes) same ∙ sum-total bytes_for s (count s);
      tests_are = ap (λ (p : ℕ × ℕ). p.1) pair ∙ ap (λ (e : Estimate). e.tests) same ∙ sum-total tests_for s (count s);
    }

-- a list that has f of the loader's answers at its front
module _ (f : Outcome ℕ → ℕ) (s l after : List ℕ) (is : after ≡ front_put (map f (loads s (count s))) l) where
  abbrev front : List ℕ
  front = map f (loads s (count s))

  long : length front ≡ count s
  long = noted_long f s (count s)

  place_is : (k : ℕ) → k < count s → number_at after k ≡ f (load_at s k)
  place_is k h =
      ap (λ (m : List ℕ). number_at m k) is
      ∙ get_or-append front (drop (length front) l) 0 k (subst (λ (m : ℕ). k < m) (sym long) h)
      ∙ noted_at f s (count s) k h

  behind : drop (count s) after ≡ drop (count s) l
  behind = ap (drop (count s)) is ∙ drop_at front (drop (length front) l) (count s) long ∙ ap (λ (m : ℕ). drop m l) long

module _ (s ps rs : List ℕ) (b t : ℕ) (z : Known s ps rs b t) where
  abbrev n : ℕ
  n = count s

  counted : Counted s z.size
  counted = count_known s z.size z.counts

  abbrev points : List ℕ
  points = points_after s ps rs

  abbrev refusals : List ℕ
  refusals = refusals_after s ps rs

  points_are : points ≡ front_put (map points_of (loads s n)) ps
  points_are = ap (λ (o : Outcome Estimate). points_by o ps) z.comes_to

  refusals_are : refusals ≡ front_put (map refusal_of (loads s n)) rs
  refusals_are = ap (λ (o : Outcome Estimate). refusals_by o rs) z.comes_to

  points-at : (k : ℕ) → k < n → number_at points k ≡ points_of (load_at s k)
  points-at = place_is points_of s ps points points_are

  refusal_at : (k : ℕ) → k < n → number_at refusals k ≡ refusal_of (load_at s k)
  refusal_at = place_is refusal_of s rs refusals refusals_are

  -- the loader refuses glyph k with 2 to 5
  own : (k m : ℕ) → load_at s k ≡ refused m → (2 ≤ m) × (m ≤ 5)
  own k m e = (sound s counted.short k).own m (letter_unloaded (part_at s k) room room_long m e)

  -- the loader's answer in another list
  load_is : (k : ℕ) (d : List ℕ) (list : List ℤ) (o : Outcome ℕ) → glyph_bytes s k ≡ given d → 8192 ≤ length list → load_of d list ≡ o
      → load_at s k ≡ o
  load_is k d list o e room_for h =
      ap (λ (text : List ℕ). load_of text room) (sym (described s k d e).1) ∙ load_same d room list room_long room_for ∙ h

  -- a term of the sums, by the lists
  term_is : (g : ℕ → ℕ) (f : Outcome ℕ → ℕ) (k : ℕ) → ((m : ℕ) → load_at s k ≡ given m → g k ≡ f (given m))
      → ((m : ℕ) → f (refused m) ≡ 0) → k < n
      → f (load_at s k) ≡ acceptable refusals g k
  term_is g f k when_given when_refused below = by_load (load_at s k) refl
    where
      no : (m : ℕ) → 2 ≤ m → m ≡ 0 → ⊥
      no m l e = omega arith

      by_load : (o : Outcome ℕ) → load_at s k ≡ o → f (load_at s k) ≡ acceptable refusals g k
      by_load (given m) e =
          ap f e ∙ sym (when_given m e) ∙ sym (ap (λ (j : ℕ). when (eqb j 0) (g k)) (refusal_at k below ∙ ap refusal_of e))
      by_load (refused m) e =
          let test = ap (λ (j : ℕ). eqb j 0) (refusal_at k below ∙ ap refusal_of e) ∙ ne_eqb m 0 (no m (own k m e).0) in
          ap f e ∙ when_refused m ∙ sym (ap (λ (c : Bool). when c (g k)) test)

  is_true : EstimateIsTrue s ps rs b t points refusals
  is_true = record {
    described = λ k d. (described s k d, λ h. opened s k z.size z.counts h.0 ∙ ap given (sym h.1));
    loaded = λ k m d list e long_enough h.
        let below = (described s k d e).0 in
        let is = load_is k d list (given m) e long_enough h in
        (points-at k below ∙ ap points_of is, accepted_count d list m h, refusal_at k below ∙ ap refusal_of is);
    faulty = λ k m d list e long_enough h.
        let below = (described s k d e).0 in
        let is = load_is k d list (refused m) e long_enough h in
        (points-at k below ∙ ap points_of is, refusal_at k below ∙ ap refusal_of is, (own k m is).0, (own k m is).1);
    bytes_are = z.bytes_are ∙ total_same _ _ n (λ k below. term_is (λ j. record_length) bytes_for k (λ m e. refl) (λ m. refl) below);
    tests_are =
        z.tests_are
        ∙ total_same _ _ n (λ k below.
        term_is (λ j. most_tests (number_at points j)) tests_for k (λ m e. ap most_tests (points-at k below ∙ ap points_of e)) (λ m. refl) below);
    small =
        omega (arith, z.tests_are, total_most (λ k. tests_for (load_at s k)) most n (λ k. tests_few (part_at s k)), counted.whole, counted.short);
    points_stay = behind points_of s ps points points_are;
    refusals_stay = behind refusal_of s rs refusals refusals_are;
  }

  -- ---- a run with that sum

  abbrev need : ℕ → ℕ
  need k = tests_for (load_at s k)

  never_sixteen : (k : ℕ) → refusal_of (load_at s k) ≡ 16 → ⊥
  never_sixteen k = by_load (load_at s k) refl
    where
      high : (m : ℕ) → m ≤ 5 → m ≡ 16 → ⊥
      high m l e = omega arith

      by_load : (o : Outcome ℕ) → load_at s k ≡ o → refusal_of (load_at s k) ≡ 16 → ⊥
      by_load (given m) e h = high 0 (omega arith) (sym (ap refusal_of e) ∙ h)
      by_load (refused m) e h = high m (own k m e).1 (sym (ap refusal_of e) ∙ h)

  module _ (u : ℕ) (enough_tests : t ≤ u) where
    within : (k : ℕ) → k < n → total need k + need k ≤ u
    within k h = omega (arith, z.tests_are, total_within need n k h)

    going : (k : ℕ) → k ≤ n → ((up s u k).going ≡ true) × (u ≤ (up s u k).left + total need k)
    unfolding up total
    going zero h = (refl, omega arith)
    going (suc k) h =
        let before = going k (omega arith) in still_going u (total need k) (up s u k) before.0 before.1 (agree (part_at s k)) (within k (omega arith))

    foretold : (k : ℕ) → k < n → noted (glyph s k) (up s u k) ≡ refusal_of (load_at s k)
    foretold k h =
        let before = going k (omega arith) in noted_load u (total need k) (up s u k) before.0 before.1 (agree (part_at s k)) (within k h)

    module _ (c ns : List ℕ) (q : State) (m : run_of s u c ns ≡ given q) where
      ran : RunKnown s u c ns q.worked q.left
      ran = run_known s u c ns q.worked q.left (ap running.answer_of m)

      abbrev numbers : List ℕ
      numbers = numbers_after s u c ns

      number_is : (k : ℕ) → k < n → number_at numbers k ≡ refusal_of (load_at s k)
      number_is k h = number-at s u c ns q.worked q.left ran k h ∙ foretold k h

      end : Along s u numbers n (up s u n)
      end = along_at s u c ns q.worked q.left ran n (omega arith)

      records_are : b ≡ record_length * q.worked
      records_are =
          is_true.bytes_are
          ∙ total_same _ _ n (λ k h. ap (λ (j : ℕ). when (eqb j 0) record_length) (refusal_at k h ∙ sym (number_is k h)))
          ∙ sym (worked-total numbers n)
          ∙ ap (λ (k : ℕ). record_length * k) (sym end.worked_is ∙ sym ran.worked_are)

      keeps_to : RunKeepsTo s b u refusals c ns q
      keeps_to = record {
        none_stopped = λ k h e. never_sixteen k (sym (number_is k h) ∙ e);
        foretold = λ k h. number_is k h ∙ sym (refusal_at k h);
        written =
            ap (λ (p : State). length p.records) (given_same (sym m ∙ ran.comes_to))
            ∙ end.long
            ∙ ap (λ (k : ℕ). record_length * k) (sym ran.worked_are)
            ∙ sym records_are;
        records_are = records_are;
        bytes_stay =
            subst (λ (k : ℕ). drop k (buffer_after s u c ns) ≡ drop k c) (sym records_are)
            (sheet-run.fair s u c ns q.worked q.left (ap running.answer_of m)).bytes_stay;
      }

  refused_for_room : (c ns : List ℕ) (k : ℕ) → run_of s t c ns ≡ refused k → k ≡ 8
  refused_for_room c ns k h = by_room (ltb (length c) (record_length * z.size)) refl
    where
      by_list : record_length * z.size ≤ length c → (a : Bool) → ltb (length ns) z.size ≡ a → k ≡ 8
      by_list enough_bytes true e =
          refused_same (sym h ∙ run_no_place s t c ns z.size z.counts enough_bytes (ltb-true (length ns) z.size e))
      by_list enough_bytes false e =
          absurd (not_given (sym h ∙ run_given s t c ns z.size z.counts enough_bytes (ltb-false (length ns) z.size e) is_true.small))

      by_room : (a : Bool) → ltb (length c) (record_length * z.size) ≡ a → k ≡ 8
      by_room true e = refused_same (sym h ∙ run_no_room s t c ns z.size z.counts (ltb-true (length c) (record_length * z.size) e))
      by_room false e = by_list (ltb-false (length c) (record_length * z.size) e) (ltb (length ns) z.size) refl

pub sheet-estimate : SheetEstimate
sheet-estimate = record {
  true_estimate = λ s ps rs b t h. is_true s ps rs b t (known s ps rs b t h);
  run_keeps = λ s ps rs b t h u le c ns q m. keeps_to s ps rs b t (known s ps rs b t h) u le c ns q m;
  only_room = λ s ps rs b t h c ns k r. refused_for_room s ps rs b t (known s ps rs b t h) c ns k r;
  no_rest = λ n. omega (arith, most_three n);
}
