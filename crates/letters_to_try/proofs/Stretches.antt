-- The lists of specs/Stretches.antt, by computing.
--
--   stretched_answer : each is answered so
--   letters_have     : these are the widest stretches of the letters A to K
use mathlib.Core.Path.{refl}
use Rattle.geometry.specs.EmBox.{in_box, all_in_box}
use Rattle.geometry.specs.Points.{points, flat}
use Rattle.geometry.specs.Order.{before}
use Rattle.point_lists.specs.Sets.{same}
use Rattle.engine.specs.Engine.{enclose_of}
use Rattle.stretches.specs.Widest.{ordered, ahead, better, better_of, best_from, best_of, widest_of}
use Rattle.letters_to_try.specs.Letters.{letters}
use Rattle.letters_to_try.specs.Stretches.{stretched, AllAnswer, Have, letter_stretches}
use Rattle.letters_to_try.proofs.Letters.{◌&◌}

pub stretched_answer : AllAnswer stretched
unfolding in_box all_in_box points flat before same enclose_of ordered ahead better better_of best_from best_of widest_of
stretched_answer = refl & refl & refl & refl & refl & refl & refl & refl & refl & tt

pub letters_have : Have letters letter_stretches
unfolding in_box all_in_box points flat before same enclose_of ordered ahead better better_of best_from best_of widest_of
letters_have = refl & refl & refl & refl & refl & refl & refl & refl & refl & refl & refl & tt
