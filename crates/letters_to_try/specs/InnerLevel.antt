-- The procedure with two points fixed, on lists with a disk through both, with one far outside the em box, and with none (02, item 5). Shown in
-- proofs/InnerLevel.antt.
--
--   Case          == two points, a list, and the disk and the list left; the tests are one a point
--   Ends c        == the procedure on the list, with the two points fixed, ends so
--   cases         == lists with a disk that holds them and has both points on its boundary, then lists without one
--   AllEnd cs     == each of the cases cs ends so
use Rattle.std.specs.Prelude.{◌≡◌, List, [], ◌∷◌, pos, negsuc, length}
use Rattle.geometry.specs.declared.Point.{Point}
use Rattle.geometry.specs.Plane.{Disk}
use Rattle.disks.specs.Procedure as procedure
use Rattle.disks.specs.Procedure.{mtf}
use Rattle.letters_to_try.specs.Letters.{at, below, disk}

pub record Case : Type 0 where
  pub a : Point
  pub b : Point
  pub list : List Point
  pub ends_on : Disk
  pub left : List Point

abbrev pub Ends : Case → Type 0
Ends c = mtf (c.a ∷ c.b ∷ []) c.list ≡ record { cover = procedure.disk c.ends_on; tests = length c.list; left = c.left }

abbrev pub cases : List Case
cases =
    -- no point: the disk whose diameter the two are
    record { a = at 0 0; b = at 4 0; list = []; ends_on = disk 2 0 1 4; left = [] }
    -- on its boundary and inside it: nothing moves
    ∷ record { a = at 0 0; b = at 4 0; list = at 2 2 ∷ at 1 0 ∷ []; ends_on = disk 2 0 1 4; left = at 2 2 ∷ at 1 0 ∷ [] }
    -- outside it: the circle, and the point in front
    ∷ record { a = at 0 0; b = at 4 0; list = at 2 1 ∷ at 2 3 ∷ []; ends_on = disk 12 5 6 169; left = at 2 3 ∷ at 2 1 ∷ [] }
    -- the centre at (1/2, 499,500 1/2)
    ∷ record { a = at 0 0; b = at 1 0; list = at 1000 1 ∷ []; ends_on = disk 1 999_001 2 998_002_998_002; left = at 1000 1 ∷ [] }
    -- no disk: each point needs the centre on its own side of the two
    ∷ record {
      a = at 0 0;
      b = at 10 0;
      list = at 5 6 ∷ below 5 5 ∷ [];
      ends_on = record { x = pos 60; y = negsuc 10; e = 12; s = 3721 };
      left = below 5 5 ∷ at 5 6 ∷ [];
    }
    -- no disk, and no circle: the first point is in a row with the two, E is 0, and every point is held
    ∷ record { a = at 0 0; b = at 4 0; list = at 8 0 ∷ at 2 9 ∷ []; ends_on = disk 0 1 0 1; left = at 8 0 ∷ at 2 9 ∷ [] }
    ∷ []

abbrev pub AllEnd : List Case → Type 0
AllEnd [] = Unit {0}
AllEnd (c ∷ cs) = Ends c × AllEnd cs
