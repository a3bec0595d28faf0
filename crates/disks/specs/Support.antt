-- The first support set of a list (01, "Disk and rim": the first rim set).
--
--   choose k Q        == the sets of k points of Q, each in Q's order, in lexical order
--   candidates Q      == the sets of one point of Q, then of two, then of three
--   supports P T      == T's own smallest disk is that of P (01: T is a rim set of P)
--   first_support P    == of the sets of one, then two, then three different points of P, each in rising order, the first that supports P;
--                        by its property in FirstSupport.antt
use Rattle.std.specs.Prelude.{Bool, true, false, ◌&&◌, List, [], ◌∷◌, ◌++◌, ℕ, zero, suc, eqb}
use Rattle.integers.specs.Order.{eq_z}
use Rattle.geometry.specs.declared.Point.{Point}
use Rattle.geometry.specs.Plane.{Disk}
use Rattle.point_lists.specs.Rising.{sorted}
use Rattle.disks.specs.Procedure.{disk_of}

-- p in front of each set
unfoldable pub fronted : Point → List (List Point) → List (List Point)
fronted p [] = []
fronted p (T ∷ cs) = (p ∷ T) ∷ fronted p cs

unfoldable pub choose : ℕ → List Point → List (List Point)
choose zero Q = [] ∷ []
choose (suc k) [] = []
choose (suc k) (p ∷ Q) = fronted p (choose k Q) ++ choose (suc k) Q

abbrev pub candidates : List Point → List (List Point)
candidates Q = choose 1 Q ++ (choose 2 Q ++ choose 3 Q)

unfoldable pub same_disk : Disk → Disk → Bool
same_disk c d = eq_z c.x d.x && (eq_z c.y d.y && (eqb c.e d.e && eqb c.s d.s))

unfoldable pub supports : List Point → List Point → Bool
supports P T = same_disk (disk_of T) (disk_of P)

-- the first of the sets that passes the test; [] where none does
unfoldable pub first_of : (List Point → Bool) → List (List Point) → List Point
first_of f [] = []
first_of f (T ∷ cs) = pick (f T) (first_of f cs)
  where
    pick : Bool → List Point → List Point
    pick true l = T
    pick false l = l

unfoldable pub first_support : List Point → List Point
first_support P = first_of (supports P) (candidates (sorted P))
