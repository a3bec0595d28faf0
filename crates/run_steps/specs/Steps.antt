-- A sheet run under one allowance of tests (02, item 12): one pass over its glyphs with a state.
--
--   State            == what is left of the allowance; whether no glyph needed more yet; how many were worked; their records, one behind another; and
--                       a number for each glyph so far, 0 or its refusal
--   start t          == the state before the first glyph, with the allowance t
--   step o s         == the state s behind one more glyph, which came to o on its own: its letter, or its description's refusal
--   pass os s        == the state s behind the glyphs os, one after another
use Rattle.std.specs.Prelude.{Bool, true, false, ◌&&◌, List, [], ◌∷◌, ◌++◌, ℕ, ◌+◌, ◌-◌, leb}
use Rattle.answers.specs.Outcome.{Outcome, given, refused}
use Rattle.letter.specs.Letter.{Letter}

pub record State : Type 0 where
  pub left : ℕ
  pub going : Bool
  pub worked : ℕ
  pub records : List ℕ
  pub numbers : List ℕ

abbrev pub start : ℕ → State
start t = record { left = t; going = true; worked = 0; records = []; numbers = [] }

-- "A glyph is worked if its count is no more than what is left, which then falls by it. From the first glyph that needs more, every glyph with an
-- acceptable description gets 16, even a cheap one."
unfoldable pub tried : Bool → Letter → State → State
tried true g s = record {
  left = s.left - g.tests;
  going = true;
  worked = s.worked + 1;
  records = s.records ++ g.bytes;
  numbers = s.numbers ++ (0 ∷ []);
}
tried false g s = record { left = s.left; going = false; worked = s.worked; records = s.records; numbers = s.numbers ++ (16 ∷ []) }

-- "A faulty description keeps its own refusal anywhere and costs nothing."
unfoldable pub step : Outcome Letter → State → State
step (given g) s = tried (s.going && leb g.tests s.left) g s
step (refused n) s = record { left = s.left; going = s.going; worked = s.worked; records = s.records; numbers = s.numbers ++ (n ∷ []) }

unfoldable pub pass : List (Outcome Letter) → State → State
pass [] s = s
pass (o ∷ os) s = pass os (step o s)
