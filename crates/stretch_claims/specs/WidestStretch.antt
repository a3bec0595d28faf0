-- Document 02, item 11: the widest stretch of a letter, over the definition that the contract of `widest_stretch` of the crate of this name cites. Which
-- refusal is due, and in which order, is claimed with the other calls' (claims/specs/Demand1.antt, by `engine_row`). That "the list is left as it was" is
-- said by the list's type, `&[i16]`. Shown in proofs/WidestStretch.antt.
--
--   WidestStretch   == all that item 11 says
--
-- `Widest P s` (stretches/specs/Widest.antt): s are two points of P in rising order and their squared distance W; no two points of P are farther apart; and
-- of the pairs that are as far apart, each in rising order, s is the least, compared point by point.
use Rattle.std.specs.Prelude.{◌≡◌, ◌↔◌, List, ℕ, ◌*◌, ◌≤◌, ℤ, pos, ◌+ℤ◌, ◌-ℤ◌, ◌*ℤ◌}
use Rattle.answers.specs.Outcome.{given, refused}
use Rattle.geometry.specs.declared.Point.{Point}
use Rattle.geometry.specs.Points.{points}
use Rattle.point_lists.specs.Sets.{In}
use Rattle.engine.specs.Engine.{Enclosure, enclose_of}
use Rattle.stretches.specs.declared.Stretch.{Stretch}
use Rattle.stretches.specs.Widest.{apart, Widest}
use Rattle.widest_stretch.specs.Stretching.{stretch_of}
use Rattle.rules.specs.Row.{AllKept}
use Rattle.rules.specs.Rules.{engine_row}

pub record WidestStretch : Type 0 where
  -- "the two corners farthest apart. Give them and the squared distance W; among equals take the least pair, each written in rising order and compared corner
  -- by corner.": this stretch is given, and no other, to every list that breaks no rule
  pub widest : (l : List ℤ) (s : Stretch) → (stretch_of l ≡ given s) ↔ (AllKept (engine_row l) × Widest (points l) s)
  -- "the squared distance"
  pub squared :
      (p q : Point) → pos (apart p q) ≡ (q.x -ℤ p.x) *ℤ (q.x -ℤ p.x) +ℤ (q.y -ℤ p.y) *ℤ (q.y -ℤ p.y)
  -- "A single corner gives itself twice and W 0.", be it repeated or not
  pub single :
      (l : List ℤ) (p : Point) → AllKept (engine_row l) → ((q : Point) → In q (points l) → q ≡ p)
      → stretch_of l ≡ given (record { a = p; b = p; w = 0 })
  -- "For the same list, W × E² is at most 4S and at least 3S (Jung's bound).": E and S of the engine's answer
  pub at_most :
      (l : List ℤ) (s : Stretch) (e : Enclosure) → stretch_of l ≡ given s → enclose_of l ≡ given e
      → s.w * (e.disk.e * e.disk.e) ≤ 4 * e.disk.s
  pub at_least :
      (l : List ℤ) (s : Stretch) (e : Enclosure) → stretch_of l ≡ given s → enclose_of l ≡ given e
      → 3 * e.disk.s ≤ s.w * (e.disk.e * e.disk.e)
  -- "Refusals are the engine's"
  pub refusals : (l : List ℤ) (n : ℕ) → (stretch_of l ≡ refused n) ↔ (enclose_of l ≡ refused n)
  -- no stretch is wider than the em box from corner to corner
  pub limit : (l : List ℤ) (s : Stretch) → stretch_of l ≡ given s → s.w ≤ 8388608
