-- What a call hands back: a value, or the number of the refusal due first (01, "What a refused call hands back"; from 11 on, 02).
--
--   Outcome A          == given a, or refused n with the papers' number n
--   number_of r         == the number of the refusal r
--   outcome r           == what a call's answer r says: its value, or the number of its refusal
--   outcome_by f r      == the same, with f of the value
--   refuse_if b n rest  == refused n where the test b holds, else rest: a row of these is a row of checks in their order
--   and_then o f        == f of the value that o gives, or o's refusal: one call after another
use Rattle.std.specs.Prelude.{ℕ, Bool, true, false, Result, Ok, Err}
use Rattle.answers.specs.declared.Refusal.{Refusal}
use Rattle.answers.specs.declared.Refusal.TheVariants.{TooLong, BadLine, OutsideBox, TooMany, NoPoint, BadSheet, BadRecord, NoRoom}
use Rattle.answers.specs.declared.Refusal.TheVariants.{OddLength, NoGlyph, NotWhole, NotInList, NoDisk, BadTolerance, PointsDoNotFit, NotAllowed, TooMuch}

pub data Outcome (A : Type 0) : Type 0 where
  given : A → Outcome A
  refused : ℕ → Outcome A

abbrev pub number_of : Refusal → ℕ
number_of TooLong = 1
number_of BadLine = 2
number_of OutsideBox = 3
number_of TooMany = 4
number_of NoPoint = 5
number_of BadSheet = 6
number_of BadRecord = 7
number_of NoRoom = 8
number_of OddLength = 9
number_of NoGlyph = 10
number_of NotWhole = 11
number_of NotInList = 12
number_of NoDisk = 13
number_of BadTolerance = 14
number_of PointsDoNotFit = 15
number_of NotAllowed = 16
number_of TooMuch = 17

abbrev pub outcome_by : {A B : Type 0} → (A → B) → Result A Refusal → Outcome B
outcome_by f (Ok a) = given (f a)
outcome_by f (Err r) = refused (number_of r)

abbrev pub outcome : {A : Type 0} → Result A Refusal → Outcome A
outcome r = outcome_by (λ a. a) r

abbrev pub refuse_if : {A : Type 0} → Bool → ℕ → Outcome A → Outcome A
refuse_if true n rest = refused n
refuse_if false n rest = rest

abbrev pub and_then : {A B : Type 0} → Outcome A → (A → Outcome B) → Outcome B
and_then (given a) f = f a
and_then (refused n) f = refused n
