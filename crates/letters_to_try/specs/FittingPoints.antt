-- Disks with points that belong to them and with points that do not (02, item 9). Shown in proofs/FittingPoints.antt.
--
--   Check           == a disk, points, and what the checks of reader, writer, whole radius and preview answer for them
--   checks          == other sets that fix a letter's disk; sets with a spare point; two of three; points off the boundary by the least amount; single points;
--                      what is refused as 7 first
--   AllChecked cs   == each is answered so
--
-- That the letters themselves pass is part of `Holds` (Letters.antt), since their whole radius is given.
use Rattle.std.specs.Prelude.{◌≡◌, List, [], ◌∷◌, pos, negsuc}
use Rattle.answers.specs.Outcome.{Outcome, given, refused}
use Rattle.geometry.specs.declared.Point.{Point}
use Rattle.geometry.specs.Plane.{Disk}
use Rattle.disk_checks.specs.Checks.{check_of}
use Rattle.letters_to_try.specs.Letters.{at, below, disk}

pub record Check : Type 0 where
  pub numbers : Disk
  pub points : List Point
  pub answer : Outcome (Unit {0})

abbrev pub passes : Disk → List Point → Check
passes d ps = record { numbers = d; points = ps; answer = given tt }

abbrev pub unfit : Disk → List Point → Check
unfit d ps = record { numbers = d; points = ps; answer = refused 15 }

abbrev pub faulty : Disk → List Point → Check
faulty d ps = record { numbers = d; points = ps; answer = refused 7 }

abbrev pub checks : List Check
checks =
    -- letter D by its other two points; a circle by an acute triangle, though it has opposite points
    passes (disk 5 5 1 50) (at 0 10 ∷ at 10 0 ∷ [])
    ∷ passes (disk 5 5 1 25) (at 0 5 ∷ at 8 1 ∷ at 8 9 ∷ [])
    -- a spare point: letter E with its right angle, letter G with the point inside, letter J with its middle
    ∷ unfit (disk 3 4 1 25) (at 0 0 ∷ at 0 8 ∷ at 6 0 ∷ [])
    ∷ unfit (disk 5 0 1 25) (at 0 0 ∷ at 5 1 ∷ at 10 0 ∷ [])
    ∷ unfit (disk 2 0 1 4) (at 0 0 ∷ at 2 0 ∷ at 4 0 ∷ [])
    -- the circle through letter G, an obtuse triangle: it is too large
    ∷ unfit (record { x = pos 5; y = negsuc 11; e = 1; s = 169 }) (at 0 0 ∷ at 5 1 ∷ at 10 0 ∷ [])
    -- letter F by two of its three points, and by one
    ∷ unfit (disk 12 5 6 169) (at 2 3 ∷ at 4 0 ∷ [])
    ∷ unfit (disk 12 5 6 169) (at 0 0 ∷ at 4 0 ∷ [])
    ∷ unfit (disk 12 5 6 169) (at 0 0 ∷ at 2 3 ∷ [])
    ∷ unfit (disk 12 5 6 169) (at 2 3 ∷ [])
    -- letter F with a number of the disk, or a point, off by one
    ∷ unfit (disk 12 5 6 168) (at 0 0 ∷ at 2 3 ∷ at 4 0 ∷ [])
    ∷ unfit (disk 12 5 6 170) (at 0 0 ∷ at 2 3 ∷ at 4 0 ∷ [])
    ∷ unfit (disk 13 5 6 169) (at 0 0 ∷ at 2 3 ∷ at 4 0 ∷ [])
    ∷ unfit (disk 12 5 7 169) (at 0 0 ∷ at 2 3 ∷ at 4 0 ∷ [])
    ∷ unfit (disk 12 5 6 169) (at 0 0 ∷ at 1 3 ∷ at 4 0 ∷ [])
    -- opposite points, and another circle about their centre
    ∷ unfit (disk 2 0 1 5) (at 0 0 ∷ at 4 0 ∷ [])
    ∷ unfit (disk 2 0 1 4) (at 1 0 ∷ at 3 0 ∷ [])
    -- S above 2⁶⁴: as it is, and cut to 64 bits
    ∷ passes (disk 8_577_370_109 4_290_778_103 8_388_602 147_286_249_292_406_046_810) (below 0 511 ∷ at 1 1536 ∷ below 2048 508 ∷ [])
    ∷ unfit (disk 8_577_370_109 4_290_778_103 8_388_602 18_159_040_776_439_185_498) (below 0 511 ∷ at 1 1536 ∷ below 2048 508 ∷ [])
    -- a single point, with a circle around it, one through it, and the point beside it
    ∷ unfit (disk 7 7 1 1) (at 7 7 ∷ [])
    ∷ unfit (disk 8 7 1 1) (at 7 7 ∷ [])
    ∷ unfit (disk 7 8 1 0) (at 7 7 ∷ [])
    -- 7 first: a common divisor, falling points, a point twice, no point, a point outside the em box
    ∷ faulty (disk 12 6 6 169) (at 0 0 ∷ at 4 0 ∷ [])
    ∷ faulty (disk 2 0 1 4) (at 4 0 ∷ at 0 0 ∷ [])
    ∷ faulty (disk 7 7 1 0) (at 7 7 ∷ at 7 7 ∷ [])
    ∷ faulty (disk 7 7 1 0) []
    ∷ faulty (disk 12 5 6 169) (at 0 0 ∷ at 4 0 ∷ at 2049 0 ∷ [])
    ∷ []

abbrev pub AllChecked : List Check → Type 0
AllChecked [] = Unit {0}
AllChecked (c ∷ cs) = (check_of c.numbers c.points ≡ c.answer) × AllChecked cs
