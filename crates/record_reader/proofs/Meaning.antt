-- The points of a record: made three, and meant by three.
--
--   meant-one, meant-two, meant-three : of rising points made three, the points themselves are meant
--   made_meant      : the points that three stand for, made three, are the three
--   meant_first     : they are the first of the three, as many as there are
--   before_differ   : a point that comes before another is not the same
use mathlib.Core.Path.{◌≡◌, refl, ap, ap₂, ◌∙◌}
use mathlib.Core.Bool.{Bool, true, false}
use mathlib.Core.List.{[], ◌∷◌}
use lib.ListN.{length, take}
use Rattle.integers.proofs.Tests.{true_test}
use Rattle.geometry.specs.declared.Point.{Point}
use Rattle.geometry.specs.Order.{before}
use Rattle.record_writer.specs.Bytes.{made_three}
use Rattle.point_lists.specs.Sets.{same}
use Rattle.point_lists.proofs.Order.{before_not_equal}
use Rattle.point_lists.proofs.SamePoint.{same_eq, same_refl, differ}
use Rattle.record_reader.specs.Reading.{meant}

-- points that rise differ
pub before_differ : (p q : Point) → before p q ≡ true → same p q ≡ false
before_differ p q h = differ p q (before_not_equal p q (true_test h))

pub meant-one : (a : Point) → meant a a a ≡ a ∷ []
unfolding meant
meant-one a = rw (same_refl a)

pub meant-two : (a b : Point) → before a b ≡ true → meant a b b ≡ a ∷ b ∷ []
unfolding meant
meant-two a b h = rw (same_refl b, before_differ a b h)

pub meant-three : (a b c : Point) → before b c ≡ true → meant a b c ≡ a ∷ b ∷ c ∷ []
unfolding meant
meant-three a b c h = rw (before_differ b c h)

pub made_meant : (a b c : Point) → made_three (meant a b c) ≡ a ∷ b ∷ c ∷ []
unfolding meant
made_meant a b c = go (same b c) (same a b) refl refl
  where
    go : (u v : Bool) → same b c ≡ u → same a b ≡ v → made_three (meant a b c) ≡ a ∷ b ∷ c ∷ []
    go false v e f = rw e
    go true false e f = rw (e, f) (ap (λ (q : Point). a ∷ b ∷ q ∷ []) (same_eq b c e))
    go true true e f = rw (e, f) (ap₂ (λ (p q : Point). a ∷ p ∷ q ∷ []) (same_eq a b f) (same_eq a b f ∙ same_eq b c e))

pub meant_first : (a b c : Point) → meant a b c ≡ take (length (meant a b c)) (a ∷ b ∷ c ∷ [])
unfolding meant
meant_first a b c = go (same b c) (same a b) refl refl
  where
    go : (u v : Bool) → same b c ≡ u → same a b ≡ v → meant a b c ≡ take (length (meant a b c)) (a ∷ b ∷ c ∷ [])
    go false v e f = rw e
    go true false e f = rw (e, f)
    go true true e f = rw (e, f)
