-- The lists of specs/HullPoints.antt, by computing.
--
--   reductions_answer : each is answered so, and left so
--   letters_keep      : so many points of the letters A to K are kept
use mathlib.Core.Path.{refl}
use Rattle.geometry.specs.EmBox.{in_box, all_in_box}
use Rattle.geometry.specs.Points.{points, flat}
use Rattle.geometry.specs.Order.{before}
use Rattle.point_lists.specs.Rising.{insert, sorted}
use Rattle.engine.specs.Engine.{enclose_of}
use Rattle.hull.specs.Chains.{push, chain, but_last, inner, around, hull_of}
use Rattle.joined_chains.specs.Laid.{laid}
use Rattle.letters_to_try.specs.Letters.{letters}
use Rattle.letters_to_try.specs.HullPoints.{reductions, AllAnswer, Keep, kept_numbers}
use Rattle.letters_to_try.proofs.Letters.{◌&◌}

pub reductions_answer : AllAnswer reductions
unfolding in_box all_in_box points flat before insert sorted enclose_of push chain but_last inner around hull_of laid
reductions_answer =
    (refl, refl) & (refl, refl) & (refl, refl) & (refl, refl) & (refl, refl) & (refl, refl) & (refl, refl) & (refl, refl) & (refl, refl) & (refl, refl)
    & (refl, refl) & tt

pub letters_keep : Keep letters kept_numbers
unfolding in_box all_in_box points flat before insert sorted enclose_of push chain but_last inner around hull_of
letters_keep = refl & refl & refl & refl & refl & refl & refl & refl & refl & refl & refl & tt
