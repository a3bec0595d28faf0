-- The sums of an estimate stay small.
--
--   most           == the most tests of a glyph, those of 4,096 points
--   square_most, cube_most : n² and n³ for at most 4,096 points
--   tests_few      : a glyph takes at most `most` tests
--   bytes_few      : and at most a record's bytes
use mathlib.Core.Path.{◌≡◌, refl}
use mathlib.Core.List.{List}
use Prim.Native.Nat.{ℕ, ◌*◌, ◌≤◌}
use native.Mathlib.Nat.{mul-le-mul}
use native.Mathlib.Omega.{arith}
use Rattle.answers.specs.Outcome.{Outcome, given, refused}
use Rattle.description.specs.Description.{load_of, room}
use Rattle.description.proofs.AcceptedTexts.{accepted_few}
use Rattle.record_writer.specs.Layout.{record_length}
use Rattle.sheet_estimate.specs.Estimating.{most_tests, bytes_for, tests_for}

abbrev pub most : ℕ
most = 11453249536

module _ (n : ℕ) (few : n ≤ 4096) where
  pub square_most : n * n ≤ 16777216
  square_most = mul-le-mul few few

  pub cube_most : n * n * n ≤ 68719476736
  cube_most = mul-le-mul square_most few

  most_few : most_tests n ≤ most
  most_few = omega (arith, cube_most)

pub tests_few : (text : List ℕ) → tests_for (load_of text room) ≤ most
tests_few text = by_load (load_of text room) refl
  where
    by_load : (o : Outcome ℕ) → load_of text room ≡ o → tests_for o ≤ most
    by_load (given n) e = most_few n (accepted_few text room n e)
    by_load (refused k) e = omega arith

pub bytes_few : (o : Outcome ℕ) → bytes_for o ≤ record_length
bytes_few (given n) = omega arith
bytes_few (refused k) = omega arith
