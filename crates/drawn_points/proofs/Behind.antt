-- The call's answer and the list that it leaves, check by check.
--
--   taken_short                              : the check 8
--   taken_refused, taken_full, taken_given   : behind it, by the verdict on the point and the number of points
--   refused_after, given_after               : answer and list, by `taken_of`
--   append_refused                           : a refused call leaves the list
--   taken_place                              : a point that is taken is the one that p names
--   front_behind                             : the first n + 1 points afterwards
--   has_room                                 : n below 4,096 leaves room for one more point
--   put_behind_lem                               : the point written into the list stands behind the first n points, and the rest stays
use mathlib.Core.Path.{◌≡◌, refl, sym, ap, ap₂, ◌∙◌}
use mathlib.Core.Bool.{Bool, true, false, not}
use mathlib.Core.List.{List, [], ◌∷◌, ◌++◌, append_assoc}
use Prim.Native.Nat.{ℕ, suc, ◌+◌, ◌*◌, ◌≤◌, ◌<◌}
use native.Mathlib.Numerals.{add-one}
use native.Mathlib.Omega.{arith}
use borrow.Author.Tests.{lt-ltb, le-ltb, le-leb, lt-leb, ltb-false, leb-false}
use lib.Dec.{leb, ltb}
use lib.IntN.{ℤ}
use lib.ListN.{length, take, drop, take-append-drop}
use Rattle.answers.specs.Outcome.{Outcome, given, refused, refuse_if, and_then}
use Rattle.answers.proofs.OutcomeLaws.{not_given, not_refused}
use Rattle.geometry.specs.declared.Point.{Point}
use Rattle.geometry.specs.EmBox.{in_em_box}
use Rattle.point_lists.specs.Put.{put_at}
use Rattle.point_lists.proofs.Put.{take_put, drop-put}
use Rattle.drawn_points.specs.declared.DrawnPoint.{DrawnPoint}
use Rattle.drawn_points.specs.Appending.{place_of, taken_of, append_of, list_after, put_behind}
use Rattle.drawn_points.specs.Judging.{judged}

module _ (p : DrawnPoint) (list : List ℤ) (n : ℕ) where
  pub taken_short : length list < 8192 → taken_of p list n ≡ refused 8
  unfolding taken_of
  taken_short h = rw (lt-ltb (length list) 8192 h)

  -- the check 4, behind the verdict
  abbrev counted : Outcome Point → Outcome Point
  counted o = and_then o (λ c. refuse_if (leb 4096 n) 4 (given c))

  taken_judged : 8192 ≤ length list → taken_of p list n ≡ counted (judged p)
  unfolding taken_of
  taken_judged h = rw (le-ltb (length list) 8192 h) (go (place_of p))
    where
      check : (c : Point) (b : Bool) → refuse_if (not b) 3 (refuse_if (leb 4096 n) 4 (given c)) ≡ counted (refuse_if (not b) 3 (given c))
      check c true = refl
      check c false = refl

      go : (o : Outcome Point) → and_then o (λ c. refuse_if (not (in_em_box c)) 3 (refuse_if (leb 4096 n) 4 (given c)))
          ≡ counted (and_then o (λ c. refuse_if (not (in_em_box c)) 3 (given c)))
      go (given c) = check c (in_em_box c)
      go (refused k) = refl

  module _ (h : 8192 ≤ length list) where
    pub taken_refused : {k : ℕ} → judged p ≡ refused k → taken_of p list n ≡ refused k
    taken_refused e = taken_judged h ∙ ap counted e

    pub taken_full : (c : Point) → judged p ≡ given c → 4096 ≤ n → taken_of p list n ≡ refused 4
    taken_full c e m = taken_judged h ∙ ap counted e ∙ ap (λ (b : Bool). refuse_if b 4 (given c)) (le-leb 4096 n m)

    pub taken_given : (c : Point) → judged p ≡ given c → n < 4096 → taken_of p list n ≡ given c
    taken_given c e m = taken_judged h ∙ ap counted e ∙ ap (λ (b : Bool). refuse_if b 4 (given c)) (lt-leb 4096 n m)

  pub refused_after : {k : ℕ} → taken_of p list n ≡ refused k → (refused k ≡ append_of p list n) × (list ≡ list_after p list n)
  refused_after h = (ap (λ (o : Outcome Point). and_then o (λ c. given (suc n))) (sym h), ap (λ (o : Outcome Point). put_behind o list n) (sym h))

  pub given_after : (c : Point) → taken_of p list n ≡ given c
      → (given (suc n) ≡ append_of p list n) × (take (2 * n) list ++ c.x ∷ c.y ∷ drop (2 * suc n) list ≡ list_after p list n)
  given_after c h = (ap (λ (o : Outcome Point). and_then o (λ d. given (suc n))) (sym h), ap (λ (o : Outcome Point). put_behind o list n) (sym h))

  pub append_refused : {k : ℕ} → append_of p list n ≡ refused k → list_after p list n ≡ list
  append_refused h = go (taken_of p list n) h
    where
      go : (o : Outcome Point) {k : ℕ} → and_then o (λ c. given (suc n)) ≡ refused k → put_behind o list n ≡ list
      go (given c) h = absurd (not_given (sym h))
      go (refused m) h = refl

  pub taken_place : (c : Point) → taken_of p list n ≡ given c → (place_of p ≡ given c) × ((8192 ≤ length list) × (n < 4096))
  unfolding taken_of
  taken_place c h = let room = not_refused (ltb (length list) 8192) 8 h in go (ltb-false (length list) 8192 room.0) (place_of p) room.1
    where
      go : 8192 ≤ length list → (o : Outcome Point) → and_then o (λ d. refuse_if (not (in_em_box d)) 3 (refuse_if (leb 4096 n) 4 (given d))) ≡ given c
          → (o ≡ given c) × ((8192 ≤ length list) × (n < 4096))
      go long (refused k) e = absurd (not_given e)
      go long (given d) e =
          let few = not_refused (leb 4096 n) 4 (not_refused (not (in_em_box d)) 3 e).1 in
          (few.1, (long, leb-false 4096 n few.0))

pub has_room : {n k : ℕ} → 8192 ≤ k → n < 4096 → 2 * n + 2 ≤ k
has_room h l = omega arith

pub put_behind_lem : (l : List ℤ) (n : ℕ) (c : Point) → 2 * n + 2 ≤ length l → put_at l n c ≡ take (2 * n) l ++ c.x ∷ c.y ∷ drop (2 * suc n) l
put_behind_lem l n c h =
    sym (take-append-drop (2 * (n + 1)) (put_at l n c))
    ∙ ap₂ ◌++◌ (take_put l n c h) (drop-put l n c)
    ∙ append_assoc (take (2 * n) l) (c.x ∷ c.y ∷ []) (drop (2 * (n + 1)) l)
    ∙ ap (λ (k : ℕ). take (2 * n) l ++ c.x ∷ c.y ∷ drop (2 * k) l) (add-one n)

pub front_behind : (l : List ℤ) (n : ℕ) (c : Point) → 2 * n + 2 ≤ length l
    → take (2 * suc n) (take (2 * n) l ++ c.x ∷ c.y ∷ drop (2 * suc n) l) ≡ take (2 * n) l ++ (c.x ∷ c.y ∷ [])
front_behind l n c h = ap (take (2 * suc n)) (sym (put_behind_lem l n c h)) ∙ ap (λ (k : ℕ). take (2 * k) (put_at l n c)) (sym (add-one n)) ∙ take_put l n c h
