-- Lists with chosen points (02, item 6). Shown in proofs/ChosenPoints.antt.
--
--   Choice         == a list, the chosen points, and the disk or the refusal
--   Answers c      == the call answers so
--   choices        == rows, three points, a lone one; disks near and far; what is refused, and with what first
--   AllAnswer cs   == each of the choices cs is answered so
use Rattle.std.specs.Prelude.{◌≡◌, List, [], ◌∷◌, pos, negsuc}
use Rattle.answers.specs.Outcome.{Outcome, given, refused}
use Rattle.geometry.specs.declared.Point.{Point}
use Rattle.geometry.specs.Plane.{Disk}
use Rattle.geometry.specs.Points.{flat}
use Rattle.chosen_points.specs.declared.Chosen.{Chosen}
use Rattle.chosen_points.specs.declared.Chosen.TheVariants.{One, Two}
use Rattle.chosen_points.specs.Chosen.{through_of}
use Rattle.letters_to_try.specs.Letters.{at, below, disk}

pub record Choice : Type 0 where
  pub list : List Point
  pub chosen : Chosen
  pub answer : Outcome Disk

abbrev pub Answers : Choice → Type 0
Answers c = through_of (flat c.list) c.chosen ≡ c.answer

-- letter J of document 01
abbrev row : List Point
row = at 0 0 ∷ at 2 0 ∷ at 4 0 ∷ []

abbrev three : List Point
three = at 0 0 ∷ at 10 0 ∷ at 5 1 ∷ []

abbrev low : Disk
low = record { x = pos 5; y = negsuc 11; e = 1; s = 169 }

abbrev pub choices : List Choice
choices =
    -- the ends of a row are opposite; its middle is on no boundary, alone or with an end
    record { list = row; chosen = Two (at 0 0) (at 4 0); answer = given (disk 2 0 1 4) }
    ∷ record { list = row; chosen = One (at 4 0); answer = given (disk 2 0 1 4) }
    ∷ record { list = row; chosen = One (at 2 0); answer = refused 13 }
    ∷ record { list = row; chosen = Two (at 0 0) (at 2 0); answer = refused 13 }
    -- the circle through all three, its centre below them; "Choosing one corner twice counts as choosing it once."
    ∷ record { list = three; chosen = One (at 5 1); answer = given low }
    ∷ record { list = three; chosen = Two (at 5 1) (at 5 1); answer = given low }
    ∷ record { list = three; chosen = Two (at 0 0) (at 10 0); answer = given (disk 5 0 1 25) }
    -- "The centre may be outside the em box and S/E² above its limit": at (500, −124,999 1/2), and S/E² above 15,000,000,000
    ∷ record {
      list = at 0 0 ∷ at 1000 0 ∷ at 500 1 ∷ [];
      chosen = One (at 500 1);
      answer = given (record { x = pos 1000; y = negsuc 249_998; e = 2; s = 62_500_500_001 });
    }
    -- S above 2⁶⁴, and E near its limit
    ∷ record {
      list = below 0 511 ∷ below 2048 508 ∷ at 1 1536 ∷ [];
      chosen = One (at 1 1536);
      answer = given (disk 8_577_370_109 4_290_778_103 8_388_602 147_286_249_292_406_046_810);
    }
    -- a lone point; two corners of a square
    ∷ record { list = at 7 7 ∷ []; chosen = One (at 7 7); answer = given (disk 7 7 1 0) }
    ∷ record { list = at 0 0 ∷ at 2 0 ∷ at 2 2 ∷ at 0 2 ∷ []; chosen = Two (at 0 0) (at 2 0); answer = given (disk 1 1 1 2) }
    -- "12 if a chosen corner, even one outside the em box, isn't in it", before 13; the engine's own before 12
    ∷ record { list = row; chosen = Two (at 2 0) (at 7 7); answer = refused 12 }
    ∷ record { list = row; chosen = One (at 0 1537); answer = refused 12 }
    ∷ record { list = at 0 1537 ∷ []; chosen = One (at 7 7); answer = refused 3 }
    ∷ record { list = []; chosen = One (at 7 7); answer = refused 5 }
    ∷ []

abbrev pub AllAnswer : List Choice → Type 0
AllAnswer [] = Unit {0}
AllAnswer (c ∷ cs) = Answers c × AllAnswer cs
