-- Accepted descriptions: those that the loader, lent at least 8,192 numbers, does not refuse (01, "Description, sheet, record").
--
--   room_long                 : `room` has 8,192 numbers
--   load_same                 : the answer does not depend on the list lent, where it has 8,192 numbers or more
--   accepted_room, accepted_short : the list has them, and the description at most 65,535 bytes
--   accepted_count            : the answer is the number of points named
--   accepted_some, accepted_few : they are 1 to 4,096
--   accepted_in_box           : each of them is in the em box
--   accepted_front            : they stand at the front of the list
use Prim.Native.Nat.{ℕ, suc, ◌+◌, ◌*◌, ◌≤◌, ◌<◌}
use mathlib.Core.Path.{◌≡◌, sym, ◌∙◌, ap, subst}
use mathlib.Core.Logic.{◌⊎◌, inl, inr}
use mathlib.Core.Bool.{true, not}
use mathlib.Core.List.Memᴰ
use mathlib.Core.List.{List, [], ◌∷◌, Memᴰ}
use native.Mathlib.Omega.{arith}
use borrow.Author.Tests.{le-ltb, ltb-false, leb-false, eqb-false, not-false}
use lib.Dec.{ltb, leb, eqb}
use lib.IntN.{ℤ, pos}
use lib.ListN.{length, take, drop, length-replicate}
use lib.Seq.{take_at}
use Rattle.answers.specs.Outcome.{Outcome, given, refuse_if}
use Rattle.geometry.specs.declared.Point.{Point}
use Rattle.geometry.specs.EmBox.{in_em_box}
use Rattle.geometry.specs.Points.{flat}
use Rattle.answers.proofs.OutcomeLaws.{not_given, given_same, not_refused}
use Rattle.geometry.proofs.PointLists.{length-flat}
use Rattle.lines.specs.Line.{Line, blank, point, fault}
use Rattle.description.specs.Description.{lines_read, points_on, named, by_line, load_of, room, list_after}
use Rattle.description.proofs.Loading.{load_judged, after_given}

-- ---- the lines

pub record Passed (n m : ℕ) (ls : List Line) : Type 0 where
  pub count : m ≡ n + length (points_on ls)
  pub some_point : 1 ≤ m
  pub few : m ≤ 4096
  pub in_box : (p : Point) → Memᴰ p (points_on ls) → in_em_box p ≡ true

module _ (n m : ℕ) (p : Point) (ls : List Line) (k : in_em_box p ≡ true) (r : Passed (suc n) m ls) where
  in_box_first : (q : Point) → (q ≡ p) ⊎ Memᴰ q (points_on ls) → in_em_box q ≡ true
  in_box_first q (inl e) = ap in_em_box e ∙ k
  in_box_first q (inr h) = r.in_box q h

  passed_point : Passed n m (point p ∷ ls)
  unfolding points_on
  passed_point = record { count = omega (arith, r.count); some_point = r.some_point; few = r.few; in_box = λ q h. in_box_first q (Memᴰ.cases_cons h) }

passed_lines : (ls : List Line) (n m : ℕ) → n ≤ 4096 → by_line n ls ≡ given m → Passed n m ls
unfolding by_line points_on
passed_lines [] n m l h =
    let end = not_refused (eqb n 0) 5 h in
    let same : n ≡ m = given_same end.1 in
    record { count = omega arith; some_point = omega (arith, eqb-false n 0 end.0); few = omega arith; in_box = λ p k. absurd (Memᴰ.not-nil k) }
passed_lines (blank ∷ ls) n m l h =
    let r = passed_lines ls n m l h in
    record { count = r.count; some_point = r.some_point; few = r.few; in_box = r.in_box }
passed_lines (fault ∷ ls) n m l h = absurd (not_given h)
passed_lines (point p ∷ ls) n m l h =
    let box = not_refused (not (in_em_box p)) 3 h in
    let room = not_refused (leb 4096 n) 4 box.1 in
    let below : n < 4096 = leb-false 4096 n room.0 in
    passed_point n m p ls (not-false (in_em_box p) box.0) (passed_lines ls (suc n) m (omega arith) room.1)

-- ---- the description

pub room_long : 8192 ≤ length room
room_long = subst (λ (n : ℕ). 8192 ≤ n) (sym (length-replicate 8192 (pos 0))) (omega arith)

pub load_same : (text : List ℕ) (list other : List ℤ) → 8192 ≤ length list → 8192 ≤ length other → load_of text list ≡ load_of text other
unfolding load_of
load_same text list other h k = rw (le-ltb (length list) 8192 h, le-ltb (length other) 8192 k)

module _ (text : List ℕ) (list : List ℤ) (n : ℕ) (accepted : load_of text list ≡ given n) where
  -- what is left behind the check of the list
  abbrev by_text : Outcome ℕ
  by_text = refuse_if (ltb 65535 (length text)) 1 (by_line 0 (lines_read text))

  pub accepted_room : 8192 ≤ length list
  unfolding load_of
  accepted_room = ltb-false (length list) 8192 (not_refused (ltb (length list) 8192) 8 {rest = by_text} accepted).0

  pub accepted_short : length text ≤ 65535
  unfolding load_of
  accepted_short =
      ltb-false 65535 (length text)
      (not_refused (ltb 65535 (length text)) 1 {rest = by_line 0 (lines_read text)} (not_refused (ltb (length list) 8192) 8 {rest = by_text} accepted).1).0

  all_passed : Passed 0 n (lines_read text)
  all_passed = passed_lines (lines_read text) 0 n (omega arith) (sym (load_judged text list accepted_room accepted_short) ∙ accepted)

  pub accepted_count : n ≡ length (named text)
  accepted_count = omega (arith, all_passed.count)

  pub accepted_some : 1 ≤ n
  accepted_some = all_passed.some_point

  pub accepted_few : n ≤ 4096
  accepted_few = all_passed.few

  pub accepted_in_box : (p : Point) → Memᴰ p (named text) → in_em_box p ≡ true
  accepted_in_box = all_passed.in_box

  front_length : length (flat (named text)) ≡ 2 * n
  front_length = length-flat (named text) ∙ ap (λ (k : ℕ). 2 * k) (sym accepted_count)

  pub accepted_front : take (2 * n) (list_after text list) ≡ flat (named text)
  accepted_front =
      ap (take (2 * n)) (after_given text list n accepted) ∙ take_at (flat (named text)) (drop (length (flat (named text))) list) (2 * n) front_length
