-- The lines of a text, judged one by one.
--
--   read_first            : the lines of some bytes are the first of them and those behind it
--   next_shorter          : fewer bytes are behind a line
--   judge_outside, judge_many, judge_fault : the verdict where the first line decides
--   Judging               == n points stand on the lines before the rest, they are kept at the front of the list, and the lines of
--                            the rest decide
--   judging_blank, judging_point : behind a blank line, and a point on
--   judging_over, judging_kept : at the end of the text
use Prim.Native.Nat.{ℕ, suc, ◌+◌, ◌*◌, ◌≤◌, ◌<◌}
use mathlib.Core.Path.{◌≡◌, refl, sym, ◌∙◌, ap, ap₂}
use mathlib.Core.Bool.{Bool, true, false}
use mathlib.Core.List.{List, [], ◌∷◌, ◌++◌, append_assoc, append-nil}
use native.Mathlib.Numerals.{add-one}
use native.Mathlib.Omega.{arith}
use lib.Dec.{eqb}
use lib.IntN.{ℤ}
use lib.ListN.{length, take, length-drop}
use borrow.Author.Tests.{le-leb, lt-leb}
use Rattle.answers.specs.Outcome.{given, refused, refuse_if}
use Rattle.geometry.specs.declared.Point.{Point}
use Rattle.geometry.specs.EmBox.{in_em_box}
use Rattle.geometry.specs.Points.{flat}
use Rattle.point_lists.specs.Put.{put_at}
use Rattle.point_lists.proofs.Put.{length-put, take_put}
use Rattle.lines.specs.Line.{pieces, Line, blank, point, fault, line_of}
use Rattle.description.specs.Description.{lines_read, points_on, named, by_line}
use Rattle.numerals.specs.Places.{is_feed, from}
use Rattle.lines.specs.LineAt.{first_line, after_line}
use Rattle.lines.proofs.Words.{lines_first}

-- ---- the first line

from_shorter_step : (t : Bool) (stop : ℕ → Bool) (b : ℕ) (bs : List ℕ) → stop b ≡ t → length (from stop bs) ≤ length bs
    → length (from stop (b ∷ bs)) ≤ suc (length bs)
unfolding from
from_shorter_step true stop b bs h ih = rw h (omega arith)
from_shorter_step false stop b bs h ih = rw h (omega arith)

from_shorter : (stop : ℕ → Bool) (bs : List ℕ) → length (from stop bs) ≤ length bs
unfolding from
from_shorter stop [] = omega arith
from_shorter stop (b ∷ bs) = from_shorter_step (stop b) stop b bs refl (from_shorter stop bs)

module _ (rest : List ℕ) (some_left : 1 ≤ length rest) where
  pub read_first : lines_read rest ≡ line_of (first_line rest) ∷ lines_read (after_line rest)
  read_first = go rest some_left
    where
      go : (bs : List ℕ) → 1 ≤ length bs → lines_read bs ≡ line_of (first_line bs) ∷ lines_read (after_line bs)
      go [] h = absurd (none h)
        where
          none : 1 ≤ 0 → ⊥
          none k = omega arith
      go (b ∷ bs) h = rw (lines_first b bs)

  pub next_shorter : (next : List ℕ) → next ≡ after_line rest → length next < length rest
  next_shorter next e =
      omega (arith, ap length e, length-drop 1 (from is_feed rest), from_shorter is_feed rest, some_left)

  -- ---- where it decides

  module _ (n : ℕ) where
    pub judge_fault : line_of (first_line rest) ≡ fault → by_line n (lines_read rest) ≡ refused 2
    unfolding by_line
    judge_fault h = rw (read_first, h)

    pub judge_outside : (p : Point) → line_of (first_line rest) ≡ point p → in_em_box p ≡ false → by_line n (lines_read rest) ≡ refused 3
    unfolding by_line
    judge_outside p h k = rw (read_first, h, k)

    pub judge_many : (p : Point) → line_of (first_line rest) ≡ point p → in_em_box p ≡ true → 4096 ≤ n → by_line n (lines_read rest) ≡ refused 4
    unfolding by_line
    judge_many p h k l = rw (read_first, h, k, le-leb 4096 n l)

-- ---- line after line

pub record Judging (text : List ℕ) (found₀ found : List ℤ) (rest : List ℕ) (n : ℕ) : Type 0 where
  pub few : n ≤ 4096
  pub room : length found ≡ length found₀
  pub verdict : by_line n (lines_read rest) ≡ by_line 0 (lines_read text)
  pub kept : take (2 * n) found ++ flat (named rest) ≡ flat (named text)

-- a point that is kept
verdict_on : (n : ℕ) (p : Point) (ls : List Line) → in_em_box p ≡ true → n < 4096 → by_line n (point p ∷ ls) ≡ by_line (n + 1) ls
unfolding by_line
verdict_on n p ls k l = rw (k, lt-leb 4096 n l, add-one)

nothing_read : (rest : List ℕ) → length rest ≡ 0 → lines_read rest ≡ []
unfolding pieces
nothing_read [] h = refl
nothing_read (b ∷ bs) h = absurd (clash (length bs) h)
  where
    clash : (n : ℕ) → suc n ≡ 0 → ⊥
    clash n k = omega arith

module _ (text : List ℕ) (found₀ found : List ℤ) (rest : List ℕ) (n : ℕ) (j : Judging text found₀ found rest n) where
  pub judging_over : length rest ≡ 0 → by_line 0 (lines_read text) ≡ refuse_if (eqb n 0) 5 (given n)
  unfolding by_line
  judging_over h = sym j.verdict ∙ ap (by_line n) (nothing_read rest h)

  pub judging_kept : length rest ≡ 0 → take (2 * n) found ≡ flat (named text)
  unfolding points_on flat
  judging_kept h =
      sym (append-nil (take (2 * n) found)) ∙ ap (λ (ls : List Line). take (2 * n) found ++ flat (points_on ls)) (sym (nothing_read rest h)) ∙ j.kept

  module _ (some_left : 1 ≤ length rest) (next : List ℕ) (behind : next ≡ after_line rest) where
    lines_on : (l : Line) → line_of (first_line rest) ≡ l → lines_read rest ≡ l ∷ lines_read next
    lines_on l h = read_first rest some_left ∙ ap₂ (λ (a : Line) (ls : List Line). a ∷ ls) h (ap lines_read (sym behind))

    pub judging_blank : line_of (first_line rest) ≡ blank → Judging text found₀ found next n
    unfolding by_line points_on
    judging_blank h = record {
      few = j.few;
      room = j.room;
      verdict = sym (ap (by_line n) (lines_on blank h)) ∙ j.verdict;
      kept = sym (ap (λ (ls : List Line). take (2 * n) found ++ flat (points_on ls)) (lines_on blank h)) ∙ j.kept;
    }

    pub judging_point : (p : Point) → line_of (first_line rest) ≡ point p → in_em_box p ≡ true → n < 4096 → 8192 ≤ length found₀
        → Judging text found₀ (put_at found n p) next (n + 1)
    unfolding by_line points_on flat
    judging_point p h inside below room = record {
      few = omega (arith, below);
      room = length-put found n p ∙ j.room;
      verdict = sym (verdict_on n p (lines_read next) inside below) ∙ sym (ap (by_line n) (lines_on (point p) h)) ∙ j.verdict;
      kept =
          ap (λ (l : List ℤ). l ++ flat (named next)) (take_put found n p (omega (arith, j.room, below, room)))
          ∙ append_assoc (take (2 * n) found) (p.x ∷ p.y ∷ []) (flat (named next))
          ∙ sym (ap (λ (ls : List Line). take (2 * n) found ++ flat (points_on ls)) (lines_on (point p) h))
          ∙ j.kept;
    }
