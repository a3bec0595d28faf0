-- The whole way from a description's bytes to the meaning of its answers (specs/Whole.antt).
--
--   encloses      : loader, then engine, goes by the loader's row
--   Steps, steps  == the calls that gave the answers
--   whole_way, record_of, tests_mean : WholeWay, RecordOf, TestsMean
use mathlib.Core.Path.{◌≡◌, refl, sym, ap, ap₂, ◌∙◌, subst}
use mathlib.Core.Logic.{◌⊎◌, inl, inr}
use mathlib.Core.Bool.{Bool, true, false}
use mathlib.Core.List.{List, [], ◌∷◌, ◌++◌}
use Prim.Native.Nat.{ℕ, ◌≤◌, ◌<◌}
use native.Mathlib.Omega.{arith}
use borrow.Author.Tests.{ltb-true, ltb-false}
use lib.Dec.{ltb}
use lib.IntN.{ℤ}
use lib.ListN.{length, take, drop}
use Rattle.answers.specs.Outcome.{Outcome, given, refuse_if, and_then}
use Rattle.answers.proofs.OutcomeLaws.{not_refused, given_same, same_given, both_given}
use Rattle.integers.specs.Order.{◌≺◌}
use Rattle.geometry.specs.declared.Point.{Point}
use Rattle.geometry.specs.Plane.{Disk, holds}
use Rattle.geometry.specs.Points.{flat}
use Rattle.geometry.proofs.PointLists.{points_of_flat}
use Rattle.point_lists.proofs.Order.{ByCoordinates, by_x, by_y, by_coordinates, is_before}
use Rattle.disks.specs.Procedure.{disk_of}
use Rattle.disks.specs.Support.{first_support}
use Rattle.description.specs.Description.{load_of, named, room}
use Rattle.description.proofs.AcceptedTexts.{accepted_front}
use Rattle.engine.specs.Engine.{Enclosure, enclosure, enclose_of}
use Rattle.disk_checks.specs.Checks.{check_of}
use Rattle.radius.specs.Radius.{radius_of}
use Rattle.record_writer.specs.Layout.{record_length}
use Rattle.record_writer.specs.Bytes.{record_bytes}
use Rattle.record_writer.specs.Writing.{write_of}
use Rattle.record_writer.specs.Writing as writing
use Rattle.preview.specs.declared.Preview.{Preview}
use Rattle.preview.specs.Preview.{preview_of}
use Rattle.letter.specs.Letter.{enclosure_in, enclosure_of, Letter, letter, letter_of, letter_in, buffer_after}
use Rattle.letter.proofs.Whole.{enclosure_given, enclosure_refused, enclosure_checked, letter-named}
use Rattle.rules.specs.Row.{◌unless◌, GoesBy}
use Rattle.rules.specs.Rules.{loader_row}
use Rattle.rules.proofs.RowLaws.{row_end, row_step, row-through, row_then}
use Rattle.rules.proofs.Calls as calls
use Rattle.claims.specs.Values.{LeastRadius, PreviewIsRight, bits}
use Rattle.claims.specs.Demand2.{EngineIsRight}
use Rattle.claims.specs.Demand3.{AcceptedDescription, Answers, worked}
use Rattle.claims.specs.Whole.{AnswersMean, WholeWay, RecordOf, TestsMean}
use Rattle.claims.proofs.Records.{filled}
use Rattle.claims.proofs.Demand2.{engine_right}
use Rattle.claims.proofs.Demand3.{answers, worked_is}
use Rattle.claims.proofs.Values.{all_values}

-- ---- loader and engine

encloses : (t : List ℕ) (l : List ℤ) → GoesBy (loader_row t l) (enclosure_in t l)
encloses t l = row-through (load_of t l) (enclosure_in t l) (calls.loader t l) (λ n e. (enclosure (named t), enclosure_given t l n e)) (enclosure_refused t l)

loaded : (t : List ℕ) (l : List ℤ) (e : Enclosure) → enclosure_in t l ≡ given e → (n : ℕ) × (load_of t l ≡ given n)
unfolding enclosure_in
loaded t l e h = let one = both_given (load_of t l) _ e h in (one.0, one.1.0)

named_right : (t : List ℕ) (l : List ℤ) (e : Enclosure) → enclosure_in t l ≡ given e → EngineIsRight (named t) e
unfolding enclosure_in
named_right t l e h =
    let one = both_given (load_of t l) _ e h in
    let front = accepted_front t l one.0 one.1.0 in
    subst (λ (P : List Point). EngineIsRight P e) (points_of_flat (named t)) (engine_right (flat (named t)) e (sym (ap enclose_of front) ∙ one.1.1))

-- ---- the answers

pub record Steps (t : List ℕ) (l : List ℤ) (b : List ℕ) (a : Answers) : Type 0 where
  pub tests : ℕ
  pub preview : Preview
  pub found : enclosure_in t l ≡ given (record { disk = a.disk_given; support = a.support; tests = tests })
  pub reached : radius_of a.disk_given a.support ≡ given a.radius
  pub seen : preview_of a.disk_given a.support ≡ given preview
  pub shown_as : a.shown ≡ bits preview
  pub done : write_of a.disk_given a.support b ≡ given tt
  pub filled_with : a.bytes ≡ take record_length (writing.buffer_after a.disk_given a.support b)

pub steps : (t : List ℕ) (l : List ℤ) (b : List ℕ) (a : Answers) → worked t l b ≡ given a → Steps t l b a
unfolding worked
steps t l b a h =
    let one = both_given (enclosure_in t l) _ a h in
    let e = one.0 in
    let two = both_given (radius_of e.disk e.support) _ a one.1.1 in
    let three = both_given (preview_of e.disk e.support) _ a two.1.1 in
    let four = both_given (write_of e.disk e.support b) _ a three.1.1 in
    subst (Steps t l b) (given_same four.1.1) (record {
      tests = e.tests;
      preview = three.0;
      found = one.1.0;
      reached = two.1.0;
      seen = three.1.0;
      shown_as = refl;
      done = four.1.0;
      filled_with = refl;
    })

means : (t : List ℕ) (l : List ℤ) (b : List ℕ) (a : Answers) → worked t l b ≡ given a → AnswersMean t a
means t l b a h =
    let s = steps t l b a h in
    let d = a.disk_given in
    let ps = a.support in
    let right = named_right t l _ s.found in
    record {
      smallest = right.smallest;
      first_support_is = right.first_support_is;
      least = ((all_values.radius d ps a.radius).0 s.reached).2;
      preview = s.preview;
      preview_right = ((all_values.preview d ps s.preview).0 s.seen).2;
      preview_bits = s.shown_as;
      record_bytes_are = s.filled_with ∙ filled d ps b s.done;
    }

only : (t : List ℕ) (l : List ℤ) (b : List ℕ) (a c : Answers) → worked t l b ≡ given a → AnswersMean t c → c ≡ a
only t l b a c h m =
    let s = steps t l b a h in
    let d = a.disk_given in
    let ps = a.support in
    let right = named_right t l _ s.found in
    let disk : c.disk_given ≡ d = right.no_other_disk c.disk_given m.smallest in
    let support : c.support ≡ ps = right.no_other_support c.support m.first_support_is in
    let rules = (all_values.radius d ps a.radius).0 s.reached in
    let least = subst (λ (e : Disk). LeastRadius e c.radius) disk m.least in
    let radius : c.radius ≡ a.radius = same_given ((all_values.radius d ps c.radius).1 (rules.0, rules.1, least)) s.reached in
    let seen = subst (λ (e : Disk). PreviewIsRight e m.preview) disk m.preview_right in
    let preview : m.preview ≡ s.preview = same_given ((all_values.preview d ps m.preview).1 (rules.0, rules.1, seen)) s.seen in
    let shown : c.shown ≡ a.shown = m.preview_bits ∙ ap bits preview ∙ sym s.shown_as in
    let bytes : c.bytes ≡ a.bytes = m.record_bytes_are ∙ ap₂ record_bytes disk support ∙ sym (s.filled_with ∙ filled d ps b s.done) in
    λ i. record { disk_given = disk i; support = support i; radius = radius i; shown = shown i; bytes = bytes i }

-- ---- the buffer

short : (b : List ℕ) → length b < record_length → record_length ≤ length b → ⊥
short b h k = omega arith

last : {A : Type 0} (b : Bool) (v : Unit {0} → A) → and_then (refuse_if b 8 (given tt)) (λ done. given (v done)) ≡ refuse_if b 8 (given (v tt))
last true v = refl
last false v = refl

refusal : (t : List ℕ) (l : List ℤ) (b : List ℕ) → GoesBy (loader_row t l ++ (8 unless (record_length ≤ length b) ∷ [])) (worked t l b)
unfolding worked
refusal t l b = row_then (loader_row t l) (8 unless (record_length ≤ length b) ∷ []) _ (enclosure_in t l) (encloses t l) (λ e h.
    let fine : check_of e.disk e.support ≡ given tt = enclosure_checked t l e h in
    rw fine
    (subst (GoesBy (8 unless (record_length ≤ length b) ∷ [])) (sym (last (ltb (length b) record_length) _))
    (row_step (ltb (length b) record_length) 8 (λ h k. short b (ltb-true (length b) record_length h) k) (ltb-false (length b) record_length) (λ k. row_end _))))

pub whole_way : WholeWay
whole_way = record { refusal = refusal; means = means; only = only }

-- ---- volkhidar_record_of

letter_encloses : (t : List ℕ) → GoesBy (loader_row t room) (letter_of t)
unfolding letter_of
letter_encloses t = row-through (enclosure_of t) (letter_of t) (encloses t room) (λ e h. (letter e, ap then h)) (λ n h. ap then h)
  where
    then : Outcome Enclosure → Outcome Letter
    then o = and_then o (λ e. given (letter e))

letter_refusal : (t b : List ℕ) → GoesBy (8 unless (record_length ≤ length b) ∷ loader_row t room) (letter_in t b)
letter_refusal t b =
    row_step (ltb (length b) record_length) 8 (λ h k. short b (ltb-true (length b) record_length h) k) (ltb-false (length b) record_length)
    (λ enough. letter_encloses t)

-- the enclosure behind a letter is that of the points which the description names
record Behind (t b : List ℕ) (g : Letter) : Type 0 where
  count : ℕ
  loads : load_of t room ≡ given count
  enough : record_length ≤ length b
  is : g ≡ letter (enclosure (named t))

behind : (t b : List ℕ) (g : Letter) → letter_in t b ≡ given g → Behind t b g
unfolding letter_of
behind t b g h =
    let eight = not_refused (ltb (length b) record_length) 8 h in
    let one = both_given (enclosure_of t) _ g eight.1 in
    let loads = loaded t room one.0 one.1.0 in
    record {
      count = loads.0;
      loads = loads.1;
      enough = ltb-false (length b) record_length eight.0;
      is = letter-named t g eight.1;
    }

letter-bytes : (t b : List ℕ) (g : Letter) → letter_in t b ≡ given g → (l : List ℤ) → 8192 ≤ length l
    → (a : Answers) × ((worked t l b ≡ given a) × (buffer_after (letter_in t b) b ≡ a.bytes ++ drop record_length b))
letter-bytes t b g h l long =
    let k = behind t b g h in
    let accepted : AcceptedDescription t = record { list = room; count = k.count; loads = k.loads } in (
      answers (disk_of (named t)) (first_support (named t)),
      (
        worked_is accepted l b long k.enough,
        ap (λ (o : Outcome Letter). buffer_after o b) h ∙ ap (λ (f : Letter). f.bytes ++ drop record_length b) k.is,
      ),
    )

pub record_of : RecordOf
record_of = record {
  refusal = letter_refusal;
  keeps = λ t b n h. ap (λ (o : Outcome Letter). buffer_after o b) h;
  bytes = letter-bytes;
  tests = λ t b g h. ap (λ (f : Letter). f.tests) (behind t b g h).is;
}

-- ---- the tests

coordinates : (p q : Point) → ByCoordinates p q → (p.x ≺ q.x) ⊎ ((p.x ≡ q.x) × (p.y ≺ q.y))
coordinates p q (by_x h) = inl h
coordinates p q (by_y e h) = inr (e, h)

pub tests_mean : TestsMean
unfolding holds
tests_mean = record {
  held = λ d p. ((λ t. record { le = t }), (λ h. h.le));
  rising = λ p q. (
    λ t. coordinates p q (by_coordinates p q t),
    λ h. elim h [ inl x ↦ is_before (by_x x) | inr y ↦ is_before (by_y y.0 y.1) ],
  );
}
