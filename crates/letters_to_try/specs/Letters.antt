-- The letters of document 01 that are marked (m), A to K, as one list, with R by document 02, item 3. proofs/Letters.antt shows that each holds.
--
--   Letter        == what the papers give for a letter: its list, X Y E S, the rim set, R, and the tests and the list left where they give them
--   Holds c       == the engine answers so for the list, leaves the list so, and the whole radius is R
--   letters       == A to K
--   AllHold cs    == each of the letters cs holds
use Rattle.std.specs.Prelude.{◌≡◌, List, [], ◌∷◌, ℕ, pos, negsuc}
use Rattle.std.proofs.Math.Option.{Option, none, some}
use Rattle.answers.specs.Outcome.{given}
use Rattle.geometry.specs.declared.Point.{Point}
use Rattle.geometry.specs.Plane.{Disk}
use Rattle.geometry.specs.Points.{points, flat}
use Rattle.disks.specs.Procedure.{tests_of}
use Rattle.engine.specs.Engine.{enclose_of, list_after}
use Rattle.radius.specs.Radius.{radius_of}

pub record Letter : Type 0 where
  pub list : List Point
  pub disk : Disk
  pub support : List Point
  pub radius : ℕ
  pub tests : Option ℕ
  pub left : Option (List Point)

-- what is given, or where nothing is, what it is compared with
abbrev pub or : {A : Type 0} → Option A → A → A
or (some a) b = a
or none b = b

pub record Holds (c : Letter) : Type 0 where
  pub answer :
      enclose_of (flat c.list)
      ≡ given (record { disk = c.disk; support = c.support; tests = or c.tests (tests_of c.list) })
  pub order : points (list_after (flat c.list)) ≡ or c.left (points (list_after (flat c.list)))
  pub whole : radius_of c.disk c.support ≡ given c.radius

abbrev pub at : ℕ → ℕ → Point
at x y = record { x = pos x; y = pos y }

-- (x, −(y + 1))
abbrev pub below : ℕ → ℕ → Point
below x y = record { x = pos x; y = negsuc y }

abbrev pub disk : ℕ → ℕ → ℕ → ℕ → Disk
disk x y e s = record { x = pos x; y = pos y; e = e; s = s }

abbrev pub letters : List Letter
letters =
    -- A
    record {
      list = at 0 0 ∷ [];
      disk = disk 0 0 1 0;
      support = at 0 0 ∷ [];
      radius = 1;
      tests = none;
      left = none;
    }
    -- B
    ∷ record {
      list = at 0 0 ∷ at 3 0 ∷ [];
      disk = disk 3 0 2 9;
      support = at 0 0 ∷ at 3 0 ∷ [];
      radius = 2;
      tests = none;
      left = none;
    }
    -- C
    ∷ record {
      list = at 0 0 ∷ at 4 0 ∷ [];
      disk = disk 2 0 1 4;
      support = at 0 0 ∷ at 4 0 ∷ [];
      radius = 3;
      tests = some 3;
      left = some (at 4 0 ∷ at 0 0 ∷ []);
    }
    -- D
    ∷ record {
      list = at 0 0 ∷ at 10 0 ∷ at 0 10 ∷ at 10 10 ∷ [];
      disk = disk 5 5 1 50;
      support = at 0 0 ∷ at 10 10 ∷ [];
      radius = 8;
      tests = none;
      left = none;
    }
    -- E
    ∷ record {
      list = at 0 0 ∷ at 6 0 ∷ at 0 8 ∷ [];
      disk = disk 3 4 1 25;
      support = at 0 8 ∷ at 6 0 ∷ [];
      radius = 6;
      tests = none;
      left = none;
    }
    -- F
    ∷ record {
      list = at 0 0 ∷ at 4 0 ∷ at 2 3 ∷ [];
      disk = disk 12 5 6 169;
      support = at 0 0 ∷ at 2 3 ∷ at 4 0 ∷ [];
      radius = 3;
      tests = some 7;
      left = none;
    }
    -- G
    ∷ record {
      list = at 0 0 ∷ at 10 0 ∷ at 5 1 ∷ [];
      disk = disk 5 0 1 25;
      support = at 0 0 ∷ at 10 0 ∷ [];
      radius = 6;
      tests = none;
      left = none;
    }
    -- H
    ∷ record {
      list = at 7 7 ∷ at 7 7 ∷ at 7 7 ∷ [];
      disk = disk 7 7 1 0;
      support = at 7 7 ∷ [];
      radius = 1;
      tests = none;
      left = none;
    }
    -- I
    ∷ record {
      list = at 0 0 ∷ at 1 1 ∷ at 2 2 ∷ [];
      disk = disk 1 1 1 2;
      support = at 0 0 ∷ at 2 2 ∷ [];
      radius = 2;
      tests = none;
      left = none;
    }
    -- J
    ∷ record {
      list = at 0 0 ∷ at 2 0 ∷ at 4 0 ∷ [];
      disk = disk 2 0 1 4;
      support = at 0 0 ∷ at 4 0 ∷ [];
      radius = 3;
      tests = some 7;
      left = some (at 4 0 ∷ at 0 0 ∷ at 2 0 ∷ []);
    }
    -- K
    ∷ record {
      list = below 0 249 ∷ below 1000 249 ∷ at 0 750 ∷ at 1000 750 ∷ [];
      disk = disk 500 250 1 500000;
      support = below 0 249 ∷ at 1000 750 ∷ [];
      radius = 708;
      tests = none;
      left = none;
    }
    ∷ []

abbrev pub AllHold : List Letter → Type 0
AllHold [] = Unit {0}
AllHold (c ∷ cs) = Holds c × AllHold cs
