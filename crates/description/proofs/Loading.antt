-- The loader's answer, check by check, and what the list holds then.
--
--   load_no_room, load_long, load_judged : the checks 8 and 1, and where neither is due
--   after_refused, after_no_room, after_given : the list as it was, or with the points at its front
--   front_pasted                         : points copied over the front
use Prim.Native.Nat.{ℕ, ◌≤◌, ◌<◌}
use mathlib.Core.Path.{◌≡◌, sym, ◌∙◌, ap, ap₂}
use mathlib.Core.List.{List, ◌++◌}
use native.Mathlib.Nat.{zero-add}
use lib.IntN.{ℤ}
use lib.ListN.{length, take, drop}
use lib.Seq.{paste, length-take-le}
use borrow.Author.Tests.{lt-ltb, le-ltb}
use Rattle.answers.specs.Outcome.{given, refused}
use Rattle.geometry.specs.declared.Point.{Point}
use Rattle.geometry.specs.Points.{flat}
use Rattle.description.specs.Description.{lines_read, named, by_line, load_of, list_after}

module _ (text : List ℕ) (list : List ℤ) where
  pub load_no_room : length list < 8192 → load_of text list ≡ refused 8
  unfolding load_of
  load_no_room h = rw (lt-ltb (length list) 8192 h)

  pub load_long : 8192 ≤ length list → 65535 < length text → load_of text list ≡ refused 1
  unfolding load_of
  load_long h k = rw (le-ltb (length list) 8192 h, lt-ltb 65535 (length text) k)

  pub load_judged : 8192 ≤ length list → length text ≤ 65535 → load_of text list ≡ by_line 0 (lines_read text)
  unfolding load_of
  load_judged h k = rw (le-ltb (length list) 8192 h, le-ltb 65535 (length text) k)

  pub after_refused : (k : ℕ) → load_of text list ≡ refused k → list_after text list ≡ list
  unfolding list_after
  after_refused k h = rw h

  pub after_no_room : length list < 8192 → list ≡ list_after text list
  after_no_room h = sym (after_refused 8 (load_no_room h))

  pub after_given : (n : ℕ) → load_of text list ≡ given n → list_after text list ≡ flat (named text) ++ drop (length (flat (named text))) list
  unfolding list_after
  after_given n h = rw h

pub front_pasted : (list found : List ℤ) (ps : List Point) (n : ℕ) → n ≤ length found → take n found ≡ flat ps
    → paste list 0 found n ≡ flat ps ++ drop (length (flat ps)) list
front_pasted list found ps n h e =
    ap₂ (λ (front : List ℤ) (k : ℕ). front ++ drop k list) e (zero-add n ∙ sym (length-take-le n found h) ∙ ap length e)
