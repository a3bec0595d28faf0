-- The row of checks of `run_of`, one law for each end it can come to.
--
--   run_refused       : a sheet's own refusal, 1 or 6
--   run_no_room, run_no_place, run_no_room_for : 8 for the buffer, 8 for the list, 8 for either
--   run_too_much      : 17 for the allowance
--   run_given         : else the run
--   run_is            : a run that is not refused is this, of a sheet that keeps the rules
--   run_told          : the answer, the buffer and the list, by what the run comes to
use mathlib.Core.Path.{◌≡◌, sym, ap}
use mathlib.Core.Logic.{◌⊎◌, inl, inr}
use mathlib.Core.List.{List}
use Prim.Native.Nat.{ℕ, ◌*◌, ◌^◌, ◌≤◌, ◌<◌}
use borrow.Author.Tests.{lt-ltb, le-ltb, lt-leb, le-leb}
use lib.Dec.{leb, ltb}
use lib.ListN.{length}
use Rattle.answers.specs.Outcome.{Outcome, given, refused, refuse_if}
use Rattle.answers.proofs.OutcomeLaws.{not_refused, both_given, given_same}
use Rattle.record_writer.specs.Layout.{record_length}
use Rattle.directory.specs.Directory.{count_of}
use Rattle.run_steps.specs.Steps.{State}
use Rattle.sheet_run.specs.Running.{ran, run_of, answer_of, buffer_by, numbers_by, buffer_after, numbers_after}

module _ (s : List ℕ) (t : ℕ) (b ns : List ℕ) where
  pub run_refused : (k : ℕ) → count_of s ≡ refused k → run_of s t b ns ≡ refused k
  unfolding run_of
  run_refused k h = rw h

  module _ (n : ℕ) (counts : count_of s ≡ given n) where
    pub run_no_room : length b < record_length * n → run_of s t b ns ≡ refused 8
    unfolding run_of
    run_no_room h = rw (counts, lt-ltb (length b) (record_length * n) h)

    module _ (room : record_length * n ≤ length b) where
      pub run_no_place : length ns < n → run_of s t b ns ≡ refused 8
      unfolding run_of
      run_no_place h = rw (counts, le-ltb (length b) (record_length * n) room, lt-ltb (length ns) n h)

      module _ (places : n ≤ length ns) where
        pub run_too_much : 2 ^ 60 ≤ t → run_of s t b ns ≡ refused 17
        unfolding run_of
        run_too_much h = rw (counts, le-ltb (length b) (record_length * n) room, le-ltb (length ns) n places, le-leb (2 ^ 60) t h)

        pub run_given : t < 2 ^ 60 → run_of s t b ns ≡ given (ran s t)
        unfolding run_of
        run_given h = rw (counts, le-ltb (length b) (record_length * n) room, le-ltb (length ns) n places, lt-leb (2 ^ 60) t h)

    -- as the code tests it
    pub run_no_room_for : (length b < record_length * n) ⊎ ((record_length * n ≤ length b) × (length ns < n)) → run_of s t b ns ≡ refused 8
    run_no_room_for (inl h) = run_no_room h
    run_no_room_for (inr h) = run_no_place h.0 h.1

  pub run_is : (r : State) → run_of s t b ns ≡ given r → (n : ℕ) × ((count_of s ≡ given n) × (r ≡ ran s t))
  unfolding run_of
  run_is r h =
      let counts = both_given (count_of s) _ r h in
      let n = counts.0 in
      let in_limit = refuse_if (leb (2 ^ 60) t) 17 (given (ran s t)) in
      let room = not_refused (ltb (length b) (record_length * n)) 8 {rest = refuse_if (ltb (length ns) n) 8 in_limit} counts.1.1 in
      let places = not_refused (ltb (length ns) n) 8 {rest = in_limit} room.1 in
      (n, (counts.1.0, sym (given_same (not_refused (leb (2 ^ 60) t) 17 places.1).1)))

  pub run_told : (o : Outcome State) → run_of s t b ns ≡ o
      → (answer_of o ≡ answer_of (run_of s t b ns)) × ((buffer_by o b ≡ buffer_after s t b ns) × (numbers_by o ns ≡ numbers_after s t b ns))
  run_told o e = (sym (ap answer_of e), (sym (ap (λ (r : Outcome State). buffer_by r b) e), sym (ap (λ (r : Outcome State). numbers_by r ns) e)))
