-- Document 02, item 2 holds (specs/DrawnPoints.antt).
--
--   answers_same : whole radius, preview and writer answer alike in two buffers that are both long enough, or both not
--   whole_same   : floats of one value stand for one number, or for none
--   taken_same   : two points of equal value are taken, or refused, alike
--   drawn-points : DrawnPoints
use mathlib.Core.Path.{◌≡◌, refl, sym, ap, ap₂, ◌∙◌}
use mathlib.Core.Logic.{◌↔◌, ◌⊎◌, inl, inr}
use mathlib.Core.Bool.{Bool, true, false, not}
use mathlib.Core.List.{List, [], ◌∷◌, ◌++◌}
use Prim.Native.Nat.{ℕ, suc, ◌*◌, ◌/◌, ◌%◌, ◌≤◌, ◌<◌}
use native.Mathlib.Nat.{lt_of_not-le, not-le_of_lt}
use native.Mathlib.Numerals.{add-one}
use borrow.Author.Tests.{ltb-true, ltb-false, lt-ltb, le-ltb, eqb-false}
use lib.Dec.{leb, ltb, eqb}
use lib.IntN.{ℤ, pos, ◌*ℤ◌}
use lib.ListN.{length, take, drop}
use lib.Ieee.{Float, nan, inf, fin, up, down}
use lib.Ieee.Fits.{down_pos}
use Rattle.answers.specs.Outcome.{Outcome, given, refused, refuse_if, and_then}
use Rattle.answers.proofs.OutcomeLaws.{not_given, refused_same, given_same, both_given}
use Rattle.integers.specs.Order.{signed}
use Rattle.integers.proofs.Order.{≡_cancel}
use Rattle.integers.proofs.Laws.{*_comm, *_assoc}
use Rattle.integers.proofs.Signs.{not_zero}
use Rattle.geometry.specs.declared.Point.{Point}
use Rattle.geometry.specs.Plane.{Disk}
use Rattle.geometry.specs.EmBox.{in_em_box}
use Rattle.geometry.specs.Points.{first_points}
use Rattle.point_lists.specs.Put.{put_at}
use Rattle.point_lists.proofs.Sets.{point_path}
use Rattle.point_lists.proofs.Put.{first_points-put}
use Rattle.engine.specs.Engine.{Enclosure, enclose_of}
use Rattle.whole_floats.specs.Whole.{StandsFor, whole_of}
use Rattle.whole_floats.proofs.WholeLaws.{whole_stands, stands_whole, whole-or-broken, given_broken}
use Rattle.drawn_points.specs.declared.DrawnPoint.{DrawnPoint}
use Rattle.drawn_points.specs.declared.DrawnPoint.TheVariants.{Whole, Drawn}
use Rattle.drawn_points.specs.Appending.{place_of, taken_of, append_of, list_after, put_behind}
use Rattle.drawn_points.proofs.Behind.{taken_place, has_room, put_behind_lem, front_behind}
use Rattle.disk_checks.specs.Checks.{check_of}
use Rattle.radius.specs.Radius.{radius_of}
use Rattle.preview.specs.declared.Preview.{Preview}
use Rattle.preview.specs.Preview.{preview_of}
use Rattle.record_writer.specs.Layout.{record_length}
use Rattle.record_writer.specs.Writing.{write_of, buffer_after}
use Rattle.rules.specs.Row.{AllKept}
use Rattle.rules.specs.Rules.{Names, append_row}
use Rattle.rules.proofs.Drawings.{paired, names_place, named-once}
use Rattle.rules.proofs.Calls as calls
use Rattle.claims.specs.Values.{bits}
use Rattle.claims.specs.Demand3.{Answers, answers_for}
use Rattle.requests.specs.DrawnPoints.{Broken, not_a_number, infinite, fraction, SameNumber, EqualValue, Led, led, DrawnPoints}
use Rattle.claims.proofs.Records.{filled}

-- ---- floats

broken_is : (v : Float) (k : ℕ) → whole_of v ≡ refused k → (k ≡ 11) × Broken v
unfolding whole_of
broken_is nan k h = (sym (refused_same h), not_a_number)
broken_is (inf s) k h = (sym (refused_same h), infinite)
broken_is (fin s m e) k h = go (eqb (m * up e % down e) 0) refl h
  where
    go : (b : Bool) → eqb (m * up e % down e) 0 ≡ b → refuse_if (not b) 11 (given (signed s (m * up e / down e))) ≡ refused k → (k ≡ 11) × Broken (fin s m e)
    go true t h = absurd (not_given (sym h))
    go false t h = (sym (refused_same h), fraction (eqb-false (m * up e % down e) 0 t))

is_broken : (v : Float) → Broken v → whole_of v ≡ refused 11
unfolding whole_of
is_broken nan not_a_number = refl
is_broken (inf s) infinite = refl
is_broken (fin s m e) (fraction h) = given_broken s m e h

zeros : (s : Bool) → whole_of (fin s 0 (pos 0)) ≡ given (pos 0)
unfolding whole_of
zeros true = refl
zeros false = refl

-- ---- lists and buffers that are both long enough, or both not

same_room : (k a b : ℕ) → (k ≤ a) ↔ (k ≤ b) → ltb a k ≡ ltb b k
same_room k a b r = go (ltb a k) refl
  where
    short : a < k → b < k
    short h = lt_of_not-le (λ (l : k ≤ b). not-le_of_lt h (r.1 l))

    go : (t : Bool) → ltb a k ≡ t → t ≡ ltb b k
    go true e = sym (lt-ltb b k (short (ltb-true a k e)))
    go false e = sym (le-ltb b k (r.0 (ltb-false a k e)))

-- what is made of a record's bytes, where the writer writes them
module _ {A : Type 0} (d : Disk) (ps : List Point) (f : List ℕ → A) where
  abbrev made : List ℕ → Outcome A
  made b = and_then (write_of d ps b) (λ done. given (f (take record_length (buffer_after d ps b))))

  made_same : (b c : List ℕ) → write_of d ps b ≡ write_of d ps c → made b ≡ made c
  made_same b c e = go (write_of d ps b) (write_of d ps c) refl refl e
    where
      go : (o q : Outcome (Unit {0})) → write_of d ps b ≡ o → write_of d ps c ≡ q → o ≡ q
          → and_then o (λ done. given (f (take record_length (buffer_after d ps b)))) ≡ and_then q (λ done. given (f (take record_length (buffer_after d ps c))))
      go (given u) (given v) h k e = ap (λ (bs : List ℕ). given (f bs)) (filled d ps b h ∙ sym (filled d ps c k))
      go (given u) (refused m) h k e = absurd (not_given (sym e))
      go (refused n) (given v) h k e = absurd (not_given e)
      go (refused n) (refused m) h k e = ap refused (refused_same e)

answers_same : (e : Enclosure) (b c : List ℕ) → (record_length ≤ length b) ↔ (record_length ≤ length c) → answers_for e b ≡ answers_for e c
answers_same e b c r =
    let d = e.disk in
    let ps = e.support in
    let room = ap (λ (t : Bool). refuse_if t 8 (check_of d ps)) (same_room record_length (length b) (length c) r) in
    ap (λ (k : ℕ → Preview → Outcome Answers). and_then (radius_of d ps) (λ r. and_then (preview_of d ps) (λ p. k r p)))
    (λ i r p. made_same d ps (λ bs. record { disk_given = d; support = ps; radius = r; shown = bits p; bytes = bs }) b c room i)

-- ---- two points of equal value

-- a float of the same value stands for the same number
stands_same : (v w : Float) (z : ℤ) → SameNumber v w → StandsFor v z → StandsFor w z
stands_same nan w z e h = absurd e
stands_same (inf s) w z e h = absurd e
stands_same (fin s m e) nan z g h = absurd g
stands_same (fin s m e) (inf t) z g h = absurd g
stands_same (fin s m e) (fin t n d) z g h =
    ≡_cancel (not_zero (down e) (down_pos e))
    (*_comm (pos (down e)) (signed t (n * up d))
    ∙ sym g
    ∙ ap (λ (x : ℤ). x *ℤ pos (down d)) (h ∙ *_comm z (pos (down e)))
    ∙ *_assoc (pos (down e)) z (pos (down d)))

same_sym : (v w : Float) → SameNumber v w → SameNumber w v
same_sym nan w e = absurd e
same_sym (inf s) w e = absurd e
same_sym (fin s m e) nan g = absurd g
same_sym (fin s m e) (inf t) g = absurd g
same_sym (fin s m e) (fin t n d) g = sym g

whole_same : (v w : Float) → SameNumber v w → whole_of v ≡ whole_of w
whole_same v w e = go (whole-or-broken v) (whole-or-broken w)
  where
    go : ((z : ℤ) × (whole_of v ≡ given z)) ⊎ (whole_of v ≡ refused 11) → ((z : ℤ) × (whole_of w ≡ given z)) ⊎ (whole_of w ≡ refused 11)
        → whole_of v ≡ whole_of w
    go (inl a) b = a.1 ∙ sym (stands_whole w a.0 (stands_same v w a.0 e (whole_stands v a.0 a.1)))
    go (inr a) (inl b) = stands_whole v b.0 (stands_same w v b.0 (same_sym v w e) (whole_stands w b.0 b.1)) ∙ sym b.1
    go (inr a) (inr b) = a ∙ sym b

place_same : (p q : DrawnPoint) → EqualValue p q → place_of p ≡ place_of q
place_same (Whole x y) (Whole u v) e = ap given (point_path e.0 e.1)
place_same (Whole x y) (Drawn u v) e = sym (names_place (Drawn u v) (record { x = x; y = y }) e)
place_same (Drawn x y) (Whole u v) e = names_place (Drawn x y) (record { x = u; y = v }) e
place_same (Drawn x y) (Drawn u v) e =
    ap₂ paired (whole_same x u e.0) (whole_same y v e.1)

module _ (p q : DrawnPoint) (equal : EqualValue p q) (n : ℕ) (l m : List ℤ) (long : (8192 ≤ length l) ↔ (8192 ≤ length m)) where
  taken_same : taken_of p l n ≡ taken_of q m n
  unfolding taken_of
  taken_same =
      ap₂ (λ (t : Bool) (o : Outcome Point). refuse_if t 8 (and_then o (λ c. refuse_if (not (in_em_box c)) 3 (refuse_if (leb 4096 n) 4 (given c)))))
      (same_room 8192 (length l) (length m) long) (place_same p q equal)

  -- the n + 1 points that the engine is given
  handed_same : take (2 * n) l ≡ take (2 * n) m → (d : Point) → taken_of p l n ≡ given d → taken_of q m n ≡ given d
      → take (2 * suc n) (list_after p l n) ≡ take (2 * suc n) (list_after q m n)
  handed_same e d h k =
      front p l h ∙ ap (λ (f : List ℤ). f ++ (d.x ∷ d.y ∷ [])) e ∙ sym (front q m k)
    where
      front : (r : DrawnPoint) (s : List ℤ) → taken_of r s n ≡ given d → take (2 * suc n) (list_after r s n) ≡ take (2 * n) s ++ (d.x ∷ d.y ∷ [])
      front r s t =
          let place = taken_place r s n d t in
          ap (λ (o : Outcome Point). take (2 * suc n) (put_behind o s n)) t ∙ front_behind s n d (has_room place.1.0 place.1.1)

  led_same : take (2 * n) l ≡ take (2 * n) m → (a b : List ℕ) → (record_length ≤ length a) ↔ (record_length ≤ length b) → led p l n a ≡ led q m n b
  unfolding led
  led_same e a b r = go (taken_of p l n) (taken_of q m n) refl refl taken_same
    where
      behind : List ℤ → List ℕ → Outcome Led
      behind list buf = and_then (enclose_of list) (λ e. and_then (answers_for e buf) (λ a. given (record { answers = a; tests = e.tests })))

      go : (o s : Outcome Point) → taken_of p l n ≡ o → taken_of q m n ≡ s → o ≡ s
          → and_then (and_then o (λ d. given (suc n))) (λ k. behind (take (2 * k) (list_after p l n)) a)
          ≡ and_then (and_then s (λ d. given (suc n))) (λ k. behind (take (2 * k) (list_after q m n)) b)
      go (given d) (given f) h k g =
          let list = handed_same e d h (k ∙ sym g) in
          ap (λ (s : List ℤ). behind s a) list
          ∙ (λ i. and_then (enclose_of (take (2 * suc n) (list_after q m n))) (λ w.
          and_then (answers_same w a b r i) (λ x. given (record { answers = x; tests = w.tests }))))
      go (given d) (refused k) h f g = absurd (not_given (sym g))
      go (refused j) (given d) h f g = absurd (not_given g)
      go (refused j) (refused k) h f g = ap refused (refused_same g)

-- ---- the answer and the list

module _ (p : DrawnPoint) (l : List ℤ) (n : ℕ) where
  number_is : {k : ℕ} → append_of p l n ≡ given k → (d : Point) × ((taken_of p l n ≡ given d) × (k ≡ suc n))
  number_is {k} h =
      let steps = both_given (taken_of p l n) _ k h in
      (steps.0, (steps.1.0, sym (given_same steps.1.1)))

  numbered : (k : ℕ) → AllKept (append_row p l n) × (k ≡ suc n) → append_of p l n ≡ given k
  numbered k w = let g = (calls.append p l n).taken.1 w.0 in g.1 ∙ ap given ((number_is g.1).1.1 ∙ sym w.1)

  put : AllKept (append_row p l n) → (c : Point) → Names p c
      → (list_after p l n ≡ take (2 * n) l ++ c.x ∷ c.y ∷ drop (2 * suc n) l) × (first_points (suc n) (list_after p l n) ≡ first_points n l ++ (c ∷ []))
  put kept c is =
      let taken = number_is ((calls.append p l n).taken.1 kept).1 in
      let d = taken.0 in
      let place = taken_place p l n d taken.1.0 in
      let space = has_room place.1.0 place.1.1 in
      let after : list_after p l n ≡ take (2 * n) l ++ c.x ∷ c.y ∷ drop (2 * suc n) l =
      ap (λ (o : Outcome Point). put_behind o l n) (taken.1.0 ∙ ap given (named-once p d c place.0 is)) in (
        after,
        ap (first_points (suc n)) (after ∙ sym (put_behind_lem l n c space))
            ∙ ap (λ (k : ℕ). first_points k (put_at l n c)) (sym (add-one n))
            ∙ first_points-put l n c space,
      )

-- ---- all of it

pub drawn-points : DrawnPoints
drawn-points = record {
  whole = λ v z. (whole_stands v z, stands_whole v z);
  broken = λ v k. (broken_is v k, λ h. is_broken v h.1 ∙ ap refused (sym h.0));
  zeros = zeros;
  number = λ p l n k. ((λ h. ((calls.append p l n).taken.0 (k, h), (number_is p l n h).1.1)), numbered p l n k);
  list = put;
  same = λ p q equal n l m e long a b r. led_same p q equal n l m long e a b r;
}
