-- Lists reduced to the corners of their convex hulls (02, item 8). Shown in proofs/HullPoints.antt.
--
--   Reduction      == a list, the number kept or the refusal, and the list as the call leaves it
--   Answers c      == the call answers so, and leaves the list so
--   reductions     == single points, rows in several directions, a triangle, a square with points on its sides and within; what is refused
--   AllAnswer cs   == each of the lists cs is answered so
--   Keep cs ns     == of the letters cs as many points are kept as ns has for each
use Rattle.std.specs.Prelude.{◌≡◌, List, [], ◌∷◌, ℕ, ℤ, pos, negsuc}
use Rattle.answers.specs.Outcome.{Outcome, given, refused}
use Rattle.geometry.specs.Points.{flat}
use Rattle.hull_points.specs.Reducing.{reduce_of, list_after}
use Rattle.letters_to_try.specs.Letters.{Letter}

pub record Reduction : Type 0 where
  pub list : List ℤ
  pub answer : Outcome ℕ
  pub left : List ℤ

abbrev pub Answers : Reduction → Type 0
Answers c = (reduce_of c.list ≡ c.answer) × (list_after c.list ≡ c.left)

abbrev pub reductions : List Reduction
reductions =
    -- "a lone corner itself", however often it is there
    record { list = pos 3 ∷ pos 4 ∷ []; answer = given 1; left = pos 3 ∷ pos 4 ∷ [] }
    ∷ record {
      list = pos 3 ∷ pos 4 ∷ pos 3 ∷ pos 4 ∷ pos 3 ∷ pos 4 ∷ [];
      answer = given 1;
      left = pos 3 ∷ pos 4 ∷ pos 0 ∷ pos 0 ∷ pos 0 ∷ pos 0 ∷ [];
    }
    -- "A row keeps its two ends", the least by x then y first: along x, along y, and falling
    ∷ record {
      list = pos 4 ∷ pos 0 ∷ pos 0 ∷ pos 0 ∷ pos 2 ∷ pos 0 ∷ [];
      answer = given 2;
      left = pos 0 ∷ pos 0 ∷ pos 4 ∷ pos 0 ∷ pos 0 ∷ pos 0 ∷ [];
    }
    ∷ record {
      list = pos 3 ∷ pos 5 ∷ pos 3 ∷ negsuc 0 ∷ pos 3 ∷ pos 2 ∷ [];
      answer = given 2;
      left = pos 3 ∷ negsuc 0 ∷ pos 3 ∷ pos 5 ∷ pos 0 ∷ pos 0 ∷ [];
    }
    ∷ record {
      list = pos 2 ∷ pos 0 ∷ pos 1 ∷ pos 1 ∷ pos 0 ∷ pos 2 ∷ [];
      answer = given 2;
      left = pos 0 ∷ pos 2 ∷ pos 2 ∷ pos 0 ∷ pos 0 ∷ pos 0 ∷ [];
    }
    -- "counterclockwise from the least corner by x then y": a triangle that came clockwise, and one with two points of the least x
    ∷ record {
      list = pos 4 ∷ pos 0 ∷ pos 0 ∷ pos 0 ∷ pos 2 ∷ pos 3 ∷ [];
      answer = given 3;
      left = pos 0 ∷ pos 0 ∷ pos 4 ∷ pos 0 ∷ pos 2 ∷ pos 3 ∷ [];
    }
    ∷ record {
      list = pos 0 ∷ pos 3 ∷ pos 0 ∷ pos 0 ∷ pos 2 ∷ pos 1 ∷ [];
      answer = given 3;
      left = pos 0 ∷ pos 0 ∷ pos 2 ∷ pos 1 ∷ pos 0 ∷ pos 3 ∷ [];
    }
    -- "no three in a row": a square with the middles of its sides and its own
    ∷ record {
      list =
          pos 1 ∷ pos 1 ∷ pos 0 ∷ pos 1 ∷ pos 1 ∷ pos 2 ∷ pos 2 ∷ pos 1 ∷ pos 1 ∷ pos 0
          ∷ pos 0 ∷ pos 2 ∷ pos 2 ∷ pos 2 ∷ pos 2 ∷ pos 0 ∷ pos 0 ∷ pos 0 ∷ [];
      answer = given 4;
      left =
          pos 0 ∷ pos 0 ∷ pos 2 ∷ pos 0 ∷ pos 2 ∷ pos 2 ∷ pos 0 ∷ pos 2 ∷ pos 0 ∷ pos 0
          ∷ pos 0 ∷ pos 0 ∷ pos 0 ∷ pos 0 ∷ pos 0 ∷ pos 0 ∷ pos 0 ∷ pos 0 ∷ [];
    }
    -- "Refusals are the engine's.": 9, 5 and 3, and nothing is changed
    ∷ record { list = pos 1 ∷ pos 2 ∷ pos 3 ∷ []; answer = refused 9; left = pos 1 ∷ pos 2 ∷ pos 3 ∷ [] }
    ∷ record { list = []; answer = refused 5; left = [] }
    ∷ record { list = pos 5 ∷ pos 5 ∷ pos 2049 ∷ pos 0 ∷ []; answer = refused 3; left = pos 5 ∷ pos 5 ∷ pos 2049 ∷ pos 0 ∷ [] }
    ∷ []

abbrev pub AllAnswer : List Reduction → Type 0
AllAnswer [] = Unit {0}
AllAnswer (c ∷ cs) = Answers c × AllAnswer cs

abbrev pub Keep : List Letter → List ℕ → Type 0
Keep [] [] = Unit {0}
Keep [] (n ∷ ns) = ⊥
Keep (c ∷ cs) [] = ⊥
Keep (c ∷ cs) (n ∷ ns) = (reduce_of (flat c.list) ≡ given n) × Keep cs ns

-- the letters A to K
abbrev pub kept_numbers : List ℕ
kept_numbers = 1 ∷ 2 ∷ 2 ∷ 4 ∷ 3 ∷ 3 ∷ 3 ∷ 1 ∷ 2 ∷ 2 ∷ 4 ∷ []
