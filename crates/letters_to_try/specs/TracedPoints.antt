-- Lists of traced points (02, item 7). Shown in proofs/TracedPoints.antt.
--
--   Trace          == a list by threes, x, y and t, and the disk or the refusal
--   Answers c      == the call answers so
--   traces         == disks with and without tolerances; what is refused, and with what first
--   AllAnswer cs   == each of the lists cs is answered so
use Rattle.std.specs.Prelude.{◌≡◌, List, [], ◌∷◌, ℤ, pos, negsuc}
use Rattle.answers.specs.Outcome.{Outcome, given, refused}
use Rattle.geometry.specs.Plane.{Disk}
use Rattle.traced_points.specs.Traced.{traced_of}
use Rattle.letters_to_try.specs.Letters.{disk}

pub record Trace : Type 0 where
  pub list : List ℤ
  pub answer : Outcome Disk

abbrev pub Answers : Trace → Type 0
Answers c = traced_of c.list ≡ c.answer

abbrev pub traces : List Trace
traces =
    -- one square: its corners are at √2·t from the middle
    record { list = pos 100 ∷ pos 50 ∷ pos 3 ∷ []; answer = given (disk 100 50 1 18) }
    -- two squares: the corners away from each other
    ∷ record { list = pos 100 ∷ pos 50 ∷ pos 3 ∷ pos 110 ∷ pos 50 ∷ pos 3 ∷ []; answer = given (disk 105 50 1 73) }
    -- "with a t of its own": of letter F's points the first is known exactly
    ∷ record { list = pos 0 ∷ pos 0 ∷ pos 0 ∷ pos 4 ∷ pos 0 ∷ pos 1 ∷ pos 2 ∷ pos 3 ∷ pos 2 ∷ []; answer = given (disk 5 4 2 61) }
    -- a square that decides alone
    ∷ record { list = pos 100 ∷ pos 50 ∷ pos 50 ∷ pos 110 ∷ pos 60 ∷ pos 1 ∷ []; answer = given (disk 100 50 1 5000) }
    -- squares that touch the em box's edges
    ∷ record { list = pos 50 ∷ negsuc 461 ∷ pos 50 ∷ pos 1998 ∷ pos 1486 ∷ pos 50 ∷ []; answer = given (disk 1024 512 1 2_097_152) }
    -- "With every t zero the disk is the plain one.": letter F
    ∷ record { list = pos 0 ∷ pos 0 ∷ pos 0 ∷ pos 4 ∷ pos 0 ∷ pos 0 ∷ pos 2 ∷ pos 3 ∷ pos 0 ∷ []; answer = given (disk 12 5 6 169) }
    -- "The list goes by threes, x, y, t, any other length being 9", before the numbers are looked at; no traced point is 5
    ∷ record { list = pos 100 ∷ pos 50 ∷ []; answer = refused 9 }
    ∷ record { list = pos 100 ∷ pos 50 ∷ pos 51 ∷ pos 100 ∷ []; answer = refused 9 }
    ∷ record { list = []; answer = refused 5 }
    -- "14 for a t outside 0 to 50"
    ∷ record { list = pos 100 ∷ pos 50 ∷ pos 51 ∷ []; answer = refused 14 }
    ∷ record { list = pos 100 ∷ pos 50 ∷ negsuc 0 ∷ []; answer = refused 14 }
    -- "a square that leaves the em box is 3": to each side by one unit
    ∷ record { list = pos 49 ∷ pos 50 ∷ pos 50 ∷ []; answer = refused 3 }
    ∷ record { list = pos 1999 ∷ pos 50 ∷ pos 50 ∷ []; answer = refused 3 }
    ∷ record { list = pos 100 ∷ negsuc 462 ∷ pos 50 ∷ []; answer = refused 3 }
    ∷ record { list = pos 100 ∷ pos 1487 ∷ pos 50 ∷ []; answer = refused 3 }
    -- "14 .. before 3 for the same corner"; "then the first faulty corner decides"
    ∷ record { list = pos 0 ∷ pos 50 ∷ pos 51 ∷ []; answer = refused 14 }
    ∷ record { list = pos 0 ∷ pos 50 ∷ pos 1 ∷ pos 100 ∷ pos 50 ∷ pos 51 ∷ []; answer = refused 3 }
    ∷ record { list = pos 100 ∷ pos 50 ∷ pos 51 ∷ pos 0 ∷ pos 50 ∷ pos 1 ∷ []; answer = refused 14 }
    ∷ []

abbrev pub AllAnswer : List Trace → Type 0
AllAnswer [] = Unit {0}
AllAnswer (c ∷ cs) = Answers c × AllAnswer cs
