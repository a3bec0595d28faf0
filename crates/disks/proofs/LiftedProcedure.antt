-- The procedure of specs/ over lifted disks, where a test is one sign. Bridge.antt says that the two agree. It counts nothing.
--
--   boundary_form R       == the lifted disk with R on its boundary, for R of none to three points
--   lifted_outside F p    == the test: value F p is positive
--   LiftedState          == what a run gives: the disk, and the list as it is left
--   run_with k R P        == the procedure on P with R fixed and room for k more
--   lifted_run R P        == the same with room for 3 − |R|; `lifted_mtf P` from no point fixed
use Prim.Native.Nat.{ℕ, zero, suc, ◌-◌}
use mathlib.Core.Bool.{Bool, true, false}
use mathlib.Core.List.{List, [], ◌∷◌, ◌++◌}
use lib.IntN.{pos}
use lib.ListN.{length}
use lib.Signed.{lt_z}
use Rattle.geometry.specs.declared.Point.{Point}
use Rattle.disks.proofs.Lifted.{Lifted, value, no_disk}
use Rattle.disks.proofs.Base.{point_form, pair_form}
use Rattle.disks.proofs.Triple.{triple_form}

-- a set has three points at most: the last clause is never reached
unfoldable pub boundary_form : List Point → Lifted
boundary_form [] = no_disk
boundary_form (a ∷ []) = point_form a
boundary_form (a ∷ b ∷ []) = pair_form a b
boundary_form (a ∷ b ∷ c ∷ []) = triple_form a b c
boundary_form (a ∷ b ∷ c ∷ d ∷ R) = no_disk

unfoldable pub lifted_outside : Lifted → Point → Bool
lifted_outside F p = lt_z (pos 0) (value F p)

pub record LiftedState : Type 0 where
  pub disk : Lifted
  pub left : List Point

-- p is the last of the list, s is what the list without p gave, and `again` what the list without p, as it now stands, gives with p fixed
unfoldable pub lifted_tested : Bool → LiftedState → Point → LiftedState → LiftedState
lifted_tested true s p again = record { disk = again.disk; left = p ∷ again.left }
lifted_tested false s p again = record { disk = s.disk; left = s.left ++ (p ∷ []) }

-- a `let`, so that antt computes it only where the point is outside
unfoldable pub turn_at : (List Point → List Point → LiftedState) → List Point → LiftedState → Point → LiftedState
turn_at inner R s p =
    let again = inner (p ∷ R) s.left in
    lifted_tested (lifted_outside s.disk p) s p again

-- the points one by one, the last of the list last
unfoldable pub one_by_one : (LiftedState → Point → LiftedState) → LiftedState → List Point → LiftedState
one_by_one f s [] = s
one_by_one f s (p ∷ ps) = one_by_one f (f s p) ps

abbrev pub lifted_start : List Point → List Point → LiftedState
lifted_start R P = record { disk = boundary_form R; left = P }

-- the first argument is the room that is left in the set: at 0 the set has three
unfoldable pub run_with : ℕ → List Point → List Point → LiftedState
run_with zero R P = lifted_start R P
run_with (suc k) R P = one_by_one (turn_at (run_with k) R) (lifted_start R []) P

abbrev pub lifted_run : List Point → List Point → LiftedState
lifted_run R P = run_with (3 - length R) R P

abbrev pub lifted_mtf : List Point → LiftedState
lifted_mtf P = run_with 3 [] P
