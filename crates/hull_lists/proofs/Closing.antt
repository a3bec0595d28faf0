-- A list of points closed by one more.
--
--   closed_kept, closed_more : the two cases of `closed`
--   enclosed_is              : `enclosed` of two lists by their first points
use mathlib.Core.Path.{◌≡◌, refl, ap}
use mathlib.Core.Logic.{◌≢◌}
use mathlib.Core.Bool.{Bool, true, false}
use mathlib.Core.List.{List, [], ◌∷◌, ◌++◌}
use lib.Dec.{T}
use Rattle.integers.specs.Order.{eq_z}
use Rattle.geometry.specs.declared.Point.{Point}
use Rattle.integers.proofs.Order.{eq_z_eq, eq_eq_z}
use Rattle.integers.proofs.Tests.{test_true}
use Rattle.hull.specs.Chains.{inner}
use Rattle.hull.specs.Skimmed.{skim_chain}
use Rattle.hull_lists.specs.Enclosed.{closed, enclosed}

module _ (e p : Point) where
  equal : e.y ≡ p.y → eq_z e.y p.y ≡ true
  equal h = test_true (eq_z e.y p.y) (eq_eq_z e.y p.y h)

  unequal : e.y ≢ p.y → eq_z e.y p.y ≡ false
  unequal h = go (eq_z e.y p.y) (eq_z_eq e.y p.y)
    where
      go : (b : Bool) → (T b → e.y ≡ p.y) → b ≡ false
      go true f = absurd (h (f tt))
      go false f = refl

  pub closed_kept : (Q : List Point) → e.y ≡ p.y → closed (Q ++ (e ∷ [])) p ≡ Q ++ (e ∷ [])
  unfolding closed
  closed_kept [] h = rw (equal h)
  closed_kept (q ∷ []) h = ap {B = List Point} (λ Q. q ∷ Q) (closed_kept [] h)
  closed_kept (q ∷ r ∷ Q) h = ap {B = List Point} (λ Q. q ∷ Q) (closed_kept (r ∷ Q) h)

  pub closed_more : (Q : List Point) → e.y ≢ p.y → closed (Q ++ (e ∷ [])) p ≡ (Q ++ (e ∷ [])) ++ (p ∷ [])
  unfolding closed
  closed_more [] h = rw (unequal h)
  closed_more (q ∷ []) h = ap {B = List Point} (λ Q. q ∷ Q) (closed_more [] h)
  closed_more (q ∷ r ∷ Q) h = ap {B = List Point} (λ Q. q ∷ Q) (closed_more (r ∷ Q) h)

pub enclosed_is : (a z : Point) (A B C D : List Point) → A ≡ a ∷ C → B ≡ z ∷ D → enclosed A B ≡ skim_chain (closed A z) ++ inner (skim_chain (closed B a))
unfolding enclosed
enclosed_is a z A B C D e f = rw (e, f)
