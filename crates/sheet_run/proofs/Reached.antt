-- A run, glyph by glyph, as a loop over the directory goes.
--
--   state r b ns i       == the state behind i glyphs, read off the standing r, the buffer b and the list ns
--   Reached              == the glyphs from i on lead from that state where all of them lead from the start, and the bytes behind stay
--   reached_next         : it holds behind one more glyph
--   reached_end          : behind the last glyph the state is that of the whole run
--   reached_buffer, reached_numbers : so are the buffer, and a list with these numbers at its front
use mathlib.Core.Path.{◌≡◌, sym, ap, ◌∙◌, subst}
use mathlib.Core.List.{List, [], ◌∷◌, ◌++◌}
use Prim.Native.Nat.{ℕ, ◌+◌, ◌-◌, ◌*◌, ◌≤◌, ◌<◌}
use native.Mathlib.Numerals.{add-one}
use native.Mathlib.Omega.{arith}
use lib.ListN.{length, take, drop, set, length-set}
use lib.Seq.{take-suc-set, take_all}
use Rattle.std.specs.Prelude.{Result}
use Rattle.answers.specs.declared.Refusal.{Refusal}
use Rattle.answers.specs.Outcome.{Outcome, outcome}
use Rattle.answers.specs.Lent.{front_put}
use Rattle.answers.proofs.LentLaws.{front_kept, behind_stays}
use Rattle.record_writer.specs.Layout.{record_length}
use Rattle.directory.specs.Directory.{count}
use Rattle.sheet.specs.Sheet.{part_at}
use Rattle.letter.specs.Letter.{Letter, letter_of}
use Rattle.letter.proofs.Whole.{letter_long}
use Rattle.run_steps.specs.Steps.{State, start, step, pass}
use Rattle.run_steps.specs.Inner.{number_for, bare, Stepped}
use Rattle.run_steps.specs.declared.Standing.{Standing}
use Rattle.run_steps.proofs.Placing.{take-placed, drop-placed}
use Rattle.run_steps.proofs.StepLaws.{step_onto, Long, step_long, step_most}
use Rattle.sheet_run.specs.Running.{letters, ran}
use Rattle.sheet_run.proofs.Glyphs.{letters_next, letters_done}

abbrev pub state : Standing → List ℕ → List ℕ → ℕ → State
state r b ns i = record { left = r.left; going = r.going; worked = r.worked; records = take (record_length * r.worked) b; numbers = take i ns }

pub record Reached (s : List ℕ) (n t : ℕ) (b₀ b ns : List ℕ) (r : Standing) (i : ℕ) : Type 0 where
  pub within : i ≤ n
  pub few : r.worked ≤ i
  pub buffer_length : length b ≡ length b₀
  pub numbers_length : length ns ≡ n
  pub bytes_stay : drop (record_length * r.worked) b ≡ drop (record_length * r.worked) b₀
  pub same : pass (letters s i (n - i)) (state r b ns i) ≡ pass (letters s 0 n) (start t)

-- ---- one glyph

module _ (o : Outcome Letter) (long : Long o) (q : Standing) (i : ℕ) (b after ns : List ℕ) (r : Standing) (a : Result (Unit {0}) Refusal)
    (v : ℕ) (h : Stepped o q b r after a) (v_is : v ≡ number_for (outcome a)) (room : record_length * q.worked + record_length ≤ length b) (place : i < length ns) where
  -- where the records end before it
  abbrev end : ℕ
  end = record_length * q.worked

  abbrev added : State
  added = step o (bare q.left q.going q.worked)

  end_is : end + length added.records ≡ record_length * r.worked
  end_is = step_long q.left q.going q.worked o long ∙ ap (λ (k : ℕ). record_length * k) (sym h.worked_is)

  inside : end ≤ length b
  inside = omega arith

  records_are : take end b ++ added.records ≡ take (record_length * r.worked) after
  records_are =
      sym (take-placed end added.records b inside)
      ∙ ap (take (end + length added.records)) (sym h.after_is)
      ∙ ap (λ (k : ℕ). take k after) end_is

  numbers_are : take i ns ++ added.numbers ≡ take (i + 1) (set ns i v)
  numbers_are =
      ap (λ (m : List ℕ). take i ns ++ m) (sym h.number_is)
      ∙ ap (λ (k : ℕ). take i ns ++ (k ∷ [])) (sym v_is)
      ∙ sym (take-suc-set ns i v place)
      ∙ ap (λ (k : ℕ). take k (set ns i v)) (sym (add-one i))

  next_state : step o (state q b ns i) ≡ state r after (set ns i v) (i + 1)
  next_state =
      step_onto o (state q b ns i)
      ∙ (λ j. record { left = sym h.left_is j; going = sym h.going_is j; worked = sym h.worked_is j; records = records_are j; numbers = numbers_are j })

  bytes_behind : (b₀ : List ℕ) → drop end b ≡ drop end b₀ → drop (record_length * r.worked) after ≡ drop (record_length * r.worked) b₀
  bytes_behind b₀ e =
      subst (λ (k : ℕ). drop k after ≡ drop k b₀) end_is
      (ap (drop (end + length added.records)) h.after_is
      ∙ drop-placed end added.records b inside
      ∙ behind_stays end b b₀ (length added.records) e)

module _ {s : List ℕ} {n t : ℕ} {b₀ b ns : List ℕ} {q : Standing} {i : ℕ} (z : Reached s n t b₀ b ns q i) where
  pub reached_next : (after : List ℕ) (r : Standing) (a : Result (Unit {0}) Refusal) (v : ℕ) → i < n → record_length * n ≤ length b₀
      → length after ≡ length b → Stepped (letter_of (part_at s i)) q b r after a → v ≡ number_for (outcome a)
      → Reached s n t b₀ after (set ns i v) r (i + 1)
  unfolding pass
  reached_next after r a v below room size h v_is =
      let o = letter_of (part_at s i) in
      let long = letter_long (part_at s i) in
      let enough : record_length * q.worked + record_length ≤ length b = omega (arith, z.few, z.buffer_length) in
      let place : i < length ns = omega (arith, z.numbers_length) in
      record {
        within = omega arith;
        few = omega (arith, z.few, step_most q.left q.going q.worked o, h.worked_is);
        buffer_length = size ∙ z.buffer_length;
        numbers_length = length-set ns i v ∙ z.numbers_length;
        bytes_stay = bytes_behind o long q i b after ns r a v h v_is enough place b₀ z.bytes_stay;
        same =
            ap (pass (letters s (i + 1) (n - (i + 1)))) (sym (next_state o long q i b after ns r a v h v_is enough place))
            ∙ ap (λ (os : List (Outcome Letter)). pass os (state q b ns i)) (sym (letters_next s i n below))
            ∙ z.same;
      }

  -- ---- behind the last glyph

  module _ (over : n ≤ i) (all : n ≡ count s) where
    pub reached_end : state q b ns i ≡ ran s t
    unfolding pass
    reached_end =
        ap (λ (os : List (Outcome Letter)). pass os (state q b ns i)) (sym (letters_done s i n over))
        ∙ z.same
        ∙ ap (λ (m : ℕ). pass (letters s 0 m) (start t)) all

    pub reached_buffer : record_length * n ≤ length b₀ → b ≡ front_put (ran s t).records b₀
    reached_buffer room =
        front_kept (record_length * q.worked) b b₀ (omega (arith, z.few, z.within, z.buffer_length)) z.bytes_stay
        ∙ ap (λ (m : State). front_put m.records b₀) reached_end

    pub reached_numbers : (l : List ℕ) → ns ++ drop n l ≡ front_put (ran s t).numbers l
    reached_numbers l =
        let whole : take i ns ≡ ns = take_all i ns (omega (arith, z.numbers_length)) in
        let all_numbers : ns ≡ (ran s t).numbers = sym whole ∙ ap (λ (m : State). m.numbers) reached_end in
        ap (λ (k : ℕ). ns ++ drop k l) (sym z.numbers_length) ∙ ap (λ (m : List ℕ). front_put m l) all_numbers
