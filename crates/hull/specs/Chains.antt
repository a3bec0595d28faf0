-- The convex hull, computed (02, item 8): two chains over the sorted points (Andrew's monotone chain).
--
--   push p l     == p put in front of the chain l, without the points of l that then make no strict left turn
--   chain Q      == the points of Q pushed one by one, the last of Q first
--   inner l      == l without its first and its last point
--   around Q     == the hull of the rising list Q: the chain of Q, from its least to its greatest point along the lower side, and that of
--                   Q reversed, back along the upper side, without the two ends
--   hull_of P     == the corners of the convex hull of P, counterclockwise from the least by x then y; by its property in Hull.antt
use Rattle.std.specs.Prelude.{Bool, true, false, List, [], ◌∷◌, ◌++◌, reverse, pos}
use Rattle.std.specs.Int.Signed.{lt_z}
use Rattle.geometry.specs.declared.Point.{Point}
use Rattle.point_lists.specs.Rising.{sorted}
use Rattle.hull.specs.Hull.{cross}

unfoldable pub push : Point → List Point → List Point
push p [] = p ∷ []
push p (b ∷ []) = p ∷ b ∷ []
push p (b ∷ c ∷ l) = keep (lt_z (pos 0) (cross p b c)) (push p (c ∷ l))
  where
    keep : Bool → List Point → List Point
    keep true m = p ∷ b ∷ c ∷ l
    keep false m = m

unfoldable pub chain : List Point → List Point
chain [] = []
chain (p ∷ Q) = push p (chain Q)

unfoldable pub but_last : List Point → List Point
but_last [] = []
but_last (p ∷ []) = []
but_last (p ∷ q ∷ l) = p ∷ but_last (q ∷ l)

unfoldable pub inner : List Point → List Point
inner [] = []
inner (p ∷ l) = but_last l

unfoldable pub around : List Point → List Point
around Q = chain Q ++ inner (chain (reverse Q))

unfoldable pub hull_of : List Point → List Point
hull_of P = around (sorted P)
