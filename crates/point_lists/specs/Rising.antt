-- Lists of points in rising order (01, "Disk and rim": x, then y).
--
--   Rising S    == each point of S comes before all later ones
--   rising S    == the test of it: each point comes before the next (proofs/Rising.antt: the test holds where and only where Rising S)
--   insert p S  == p in its place in the rising list S
--   sorted P    == the different points of P in rising order
use Rattle.std.specs.Prelude.{Bool, true, false, ◌&&◌, List, [], ◌∷◌, T}
use Rattle.geometry.specs.declared.Point.{Point}
use Rattle.geometry.specs.Order.{before}
use Rattle.point_lists.specs.Sets.{In}

abbrev pub Rising : List Point → Type 0
Rising [] = Unit {0}
Rising (p ∷ l) = ((q : Point) → In q l → T (before p q)) × Rising l

unfoldable pub rising : List Point → Bool
rising [] = true
rising (p ∷ []) = true
rising (p ∷ q ∷ ps) = before p q && rising (q ∷ ps)

-- one that is there already is not put in again
unfoldable pub insert : Point → List Point → List Point
insert p [] = p ∷ []
insert p (q ∷ l) = place (before p q) (before q p) (insert p l)
  where
    place : Bool → Bool → List Point → List Point
    place true b m = p ∷ q ∷ l
    place false true m = q ∷ m
    place false false m = q ∷ l

unfoldable pub sorted : List Point → List Point
sorted [] = []
sorted (p ∷ P) = insert p (sorted P)
