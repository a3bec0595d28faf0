-- The row of checks of `estimate_of`, one law for each end it can come to.
--
--   estimate_refused  : a sheet's own refusal, 1 or 6
--   estimate_no_points, estimate_no_refusals, estimate_no_room : 8 for the first list, 8 for the second, 8 for either
--   estimate_given    : else the estimate
--   estimate_is       : an estimate that is not refused is this, of a sheet that keeps the rules
--   estimate_told     : the answer and the lists, by what the estimate comes to
use mathlib.Core.Path.{◌≡◌, sym, ap}
use mathlib.Core.Logic.{◌⊎◌, inl, inr}
use mathlib.Core.List.{List}
use Prim.Native.Nat.{ℕ, ◌≤◌, ◌<◌}
use borrow.Author.Tests.{lt-ltb, le-ltb}
use lib.Dec.{ltb}
use lib.ListN.{length}
use Rattle.answers.specs.Outcome.{Outcome, given, refused, refuse_if}
use Rattle.answers.proofs.OutcomeLaws.{not_refused, both_given, given_same}
use Rattle.directory.specs.Directory.{count_of}
use Rattle.sheet_estimate.specs.Estimating.{Estimate, estimated, estimate_of, answer_of, points_by, refusals_by, points_after, refusals_after}

module _ (s ps rs : List ℕ) where
  pub estimate_refused : (k : ℕ) → count_of s ≡ refused k → estimate_of s ps rs ≡ refused k
  unfolding estimate_of
  estimate_refused k h = rw h

  module _ (n : ℕ) (counts : count_of s ≡ given n) where
    pub estimate_no_points : length ps < n → estimate_of s ps rs ≡ refused 8
    unfolding estimate_of
    estimate_no_points h = rw (counts, lt-ltb (length ps) n h)

    module _ (room : n ≤ length ps) where
      pub estimate_no_refusals : length rs < n → estimate_of s ps rs ≡ refused 8
      unfolding estimate_of
      estimate_no_refusals h = rw (counts, le-ltb (length ps) n room, lt-ltb (length rs) n h)

      pub estimate_given : n ≤ length rs → estimate_of s ps rs ≡ given (estimated s n)
      unfolding estimate_of
      estimate_given h = rw (counts, le-ltb (length ps) n room, le-ltb (length rs) n h)

    -- as the code tests it
    pub estimate_no_room : (length ps < n) ⊎ ((n ≤ length ps) × (length rs < n)) → estimate_of s ps rs ≡ refused 8
    estimate_no_room (inl h) = estimate_no_points h
    estimate_no_room (inr h) = estimate_no_refusals h.0 h.1

  pub estimate_is : (e : Estimate) → estimate_of s ps rs ≡ given e
      → (n : ℕ) × ((count_of s ≡ given n) × (e ≡ estimated s n))
  unfolding estimate_of
  estimate_is e h =
      let counts = both_given (count_of s) _ e h in
      let n = counts.0 in
      let points = not_refused (ltb (length ps) n) 8 {rest = refuse_if (ltb (length rs) n) 8 (given (estimated s n))} counts.1.1 in
      let refusals = not_refused (ltb (length rs) n) 8 {rest = given (estimated s n)} points.1 in
      (n, (counts.1.0, sym (given_same refusals.1)))

  pub estimate_told : (o : Outcome Estimate) → estimate_of s ps rs ≡ o
      → (answer_of o ≡ answer_of (estimate_of s ps rs)) × ((points_by o ps ≡ points_after s ps rs) × (refusals_by o rs ≡ refusals_after s ps rs))
  estimate_told o e = (sym (ap answer_of e), (sym (ap (λ (r : Outcome Estimate). points_by r ps) e), sym (ap (λ (r : Outcome Estimate). refusals_by r rs) e)))
