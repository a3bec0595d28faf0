-- The row of checks of `count_of`, one law for each end it can come to, and what is known where the count is given.
--
--   too_long           : over 65,535 bytes gives 1
--   cut_short          : else, shorter than the directory gives 6
--   pairs_broken       : else, pairs that break the rule give 6
--   count_given        : else the count is given
--   row_of_checks      : these four, for `search`
--   Counted s n        == the sheet s keeps every rule and has n glyphs
--   count_known        : where the count n is given, this is so
use mathlib.Core.Path.{◌≡◌, sym}
use mathlib.Core.Bool.{Bool, true, false, not}
use mathlib.Core.List.{List}
use Prim.Native.Nat.{ℕ, ◌≤◌, ◌<◌}
use borrow.Author.Tests.{lt-ltb, le-ltb, ltb-false, not-false}
use lib.Dec.{ltb}
use lib.ListN.{length}
use Rattle.answers.specs.Outcome.{given, refused, refuse_if}
use Rattle.answers.proofs.OutcomeLaws.{not_refused, given_same}
use Rattle.directory.specs.Directory.{count, directory_end, pairs, follow, count_of}

module _ (s : List ℕ) where
  pub too_long : 65535 < length s → refused 1 ≡ count_of s
  unfolding count_of
  too_long h = simp (lt-ltb 65535 (length s) h)

  pub cut_short : length s ≤ 65535 → length s < directory_end s → refused 6 ≡ count_of s
  unfolding count_of
  cut_short h d = simp (le-ltb 65535 (length s) h, lt-ltb (length s) (directory_end s) d)

  -- the rule of the pairs
  abbrev rule_is : Bool
  rule_is = follow (directory_end s) (length s) (pairs s 0 (count s))

  pub pairs_broken : length s ≤ 65535 → directory_end s ≤ length s → rule_is ≡ false → refused 6 ≡ count_of s
  unfolding count_of
  pairs_broken h d f = simp (le-ltb 65535 (length s) h, le-ltb (length s) (directory_end s) d, f)

  pub count_given : length s ≤ 65535 → directory_end s ≤ length s → rule_is ≡ true → given (count s) ≡ count_of s
  unfolding count_of
  count_given h d f = simp (le-ltb 65535 (length s) h, le-ltb (length s) (directory_end s) d, f)

pub ruleset row_of_checks = (too_long, cut_short, pairs_broken, count_given)

pub record Counted (s : List ℕ) (n : ℕ) : Type 0 where
  pub all : n ≡ count s
  pub short : length s ≤ 65535
  pub whole : directory_end s ≤ length s
  pub rule : follow (directory_end s) (length s) (pairs s 0 (count s)) ≡ true

pub count_known : (s : List ℕ) (n : ℕ) → count_of s ≡ given n → Counted s n
unfolding count_of
count_known s n h =
    let by_pairs = refuse_if (not (rule_is s)) 6 (given (count s)) in
    let one = not_refused (ltb 65535 (length s)) 1 {rest = refuse_if (ltb (length s) (directory_end s)) 6 by_pairs} h in
    let six = not_refused (ltb (length s) (directory_end s)) 6 {rest = by_pairs} one.1 in
    let kept = not_refused (not (rule_is s)) 6 six.1 in
    record {
      all = sym (given_same kept.1);
      short = ltb-false 65535 (length s) one.0;
      whole = ltb-false (length s) (directory_end s) six.0;
      rule = not-false (rule_is s) kept.0;
    }
