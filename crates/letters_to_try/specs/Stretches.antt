-- The widest stretches of the letters and of other lists (02, item 11). Shown in proofs/Stretches.antt.
--
--   stretch p q w       == the stretch from p to q, w the square of its length
--   Measuring           == a list, and its stretch or the refusal
--   stretched           == pairs as far apart, with nothing in common, with the same first point and with the same second one; the em box from corner to
--                          corner; what is refused
--   AllAnswer cs        == each of the lists cs is answered so
--   Have cs ss          == the letters cs have the stretches ss
use Rattle.std.specs.Prelude.{◌≡◌, List, [], ◌∷◌, ℕ, ℤ, pos}
use Rattle.answers.specs.Outcome.{Outcome, given, refused}
use Rattle.geometry.specs.declared.Point.{Point}
use Rattle.geometry.specs.Points.{flat}
use Rattle.stretches.specs.declared.Stretch.{Stretch}
use Rattle.widest_stretch.specs.Stretching.{stretch_of}
use Rattle.letters_to_try.specs.Letters.{Letter, at, below}

abbrev pub stretch : Point → Point → ℕ → Stretch
stretch p q w = record { a = p; b = q; w = w }

pub record Measuring : Type 0 where
  pub list : List ℤ
  pub answer : Outcome Stretch

abbrev pub stretched : List Measuring
stretched =
    -- "among equals take the least pair": the diagonals of a square, whichever comes first
    record { list = flat (at 10 0 ∷ at 0 10 ∷ at 10 10 ∷ at 0 0 ∷ []); answer = given (stretch (at 0 0) (at 10 10) 200) }
    -- "compared corner by corner": two as far from the same first point, and two from the same second one
    ∷ record { list = flat (at 4 3 ∷ at 0 0 ∷ at 5 0 ∷ []); answer = given (stretch (at 0 0) (at 4 3) 25) }
    ∷ record { list = flat (at 1 0 ∷ at 5 3 ∷ at 0 3 ∷ []); answer = given (stretch (at 0 3) (at 5 3) 25) }
    -- "each written in rising order": the same x, and then by y; and not the order of the list
    ∷ record { list = flat (at 3 9 ∷ below 3 4 ∷ []); answer = given (stretch (below 3 4) (at 3 9) 196) }
    -- farthest along x is not farthest
    ∷ record { list = flat (at 0 0 ∷ at 9 0 ∷ at 8 8 ∷ []); answer = given (stretch (at 0 0) (at 8 8) 128) }
    -- the em box from corner to corner
    ∷ record {
      list = flat (at 2048 1536 ∷ at 0 1536 ∷ below 2048 511 ∷ below 0 511 ∷ []);
      answer = given (stretch (below 0 511) (at 2048 1536) 8388608);
    }
    -- "Refusals are the engine's": 9, 5 and 3
    ∷ record { list = pos 1 ∷ pos 2 ∷ pos 3 ∷ []; answer = refused 9 }
    ∷ record { list = []; answer = refused 5 }
    ∷ record { list = flat (at 5 5 ∷ at 2049 0 ∷ []); answer = refused 3 }
    ∷ []

abbrev pub AllAnswer : List Measuring → Type 0
AllAnswer [] = Unit {0}
AllAnswer (c ∷ cs) = (stretch_of c.list ≡ c.answer) × AllAnswer cs

abbrev pub Have : List Letter → List Stretch → Type 0
Have [] [] = Unit {0}
Have [] (s ∷ ss) = ⊥
Have (c ∷ cs) [] = ⊥
Have (c ∷ cs) (s ∷ ss) = (stretch_of (flat c.list) ≡ given s) × Have cs ss

-- the letters A to K
abbrev pub letter_stretches : List Stretch
letter_stretches =
    stretch (at 0 0) (at 0 0) 0
    ∷ stretch (at 0 0) (at 3 0) 9
    ∷ stretch (at 0 0) (at 4 0) 16
    ∷ stretch (at 0 0) (at 10 10) 200
    ∷ stretch (at 0 8) (at 6 0) 100
    ∷ stretch (at 0 0) (at 4 0) 16
    ∷ stretch (at 0 0) (at 10 0) 100
    ∷ stretch (at 7 7) (at 7 7) 0
    ∷ stretch (at 0 0) (at 2 2) 8
    ∷ stretch (at 0 0) (at 4 0) 16
    ∷ stretch (below 0 249) (at 1000 750) 2000000
    ∷ []
