-- Chains over fewer points: those that cannot be corners are left out before they are pushed.
--
--   is_needed a p l  == p is on the right of the way from a to the point that the chain l starts with; any p, where there is none
--   skimmed a Q     == the points of Q, but for each that is not needed: that lies on the way from a to the first point that was kept of those behind
--                      it, or on the left of this way
--   skim_chain Q     == the chain of Q, so found: of its first point, and of the others skimmed
use Rattle.std.specs.Prelude.{Bool, true, false, List, [], ◌∷◌, pos}
use Rattle.std.specs.Int.Signed.{lt_z}
use Rattle.geometry.specs.declared.Point.{Point}
use Rattle.hull.specs.Hull.{cross}
use Rattle.hull.specs.Chains.{chain}

unfoldable pub is_needed : Point → Point → List Point → Bool
is_needed a p [] = true
is_needed a p (t ∷ l) = lt_z (pos 0) (cross a p t)

unfoldable pub skimmed : Point → List Point → List Point
skimmed a [] = []
skimmed a (p ∷ Q) = keep (is_needed a p (chain (skimmed a Q))) (skimmed a Q)
  where
    keep : Bool → List Point → List Point
    keep true S = p ∷ S
    keep false S = S

unfoldable pub skim_chain : List Point → List Point
skim_chain [] = []
skim_chain (a ∷ Q) = chain (a ∷ skimmed a Q)
