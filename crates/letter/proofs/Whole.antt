-- What a description worked whole comes to.
--
--   enclosed-flat      : the engine, given the points of a list alone, refuses none of 1 to 4,096 points in the em box
--   enclosure_loaded   : loader, then engine, by what the loader gives
--   named-enclosed     : the engine, given the points that an accepted description names
--   enclosure_given, enclosure_refused : of these only the loader refuses
--   enclosure_any      : in any list that is long enough they give the same
--   enclosure_unloaded : the loader's refusal is theirs
--   enclosure_checked  : the writer takes what they give
--   letter-enclosed, letter_unenclosed : the letter is what they give, or their refusal
--   letter_loaded, letter_unloaded : and so by what the loader answers in a list that is long enough
--   letter-named       : a letter is that of the points which the description names
--   letter_long        : and its record has its length
--   letter_short       : a short buffer is refused first
--   letter_given, letter_refused : in one that is long enough the letter is theirs
--   letter_written     : the buffer as the writer leaves it
--   write_due          : and it has no refusal
use mathlib.Core.Path.{◌≡◌, refl, sym, ap, ◌∙◌, subst}
use mathlib.Core.Bool.{true}
use mathlib.Core.List.{List}
use Prim.Native.Nat.{ℕ, ◌*◌, ◌/◌, ◌%◌, ◌≤◌, ◌<◌}
use native.Mathlib.Omega.{arith}
use borrow.Author.Tests.{lt-ltb, le-ltb}
use lib.IntN.{ℤ}
use lib.ListN.{length, take}
use Rattle.answers.specs.Outcome.{Outcome, given, refused, and_then}
use Rattle.answers.proofs.OutcomeLaws.{not_given, given_same, same_given, both_given}
use Rattle.integers.proofs.Tests.{true_test}
use Rattle.geometry.specs.declared.Point.{Point}
use Rattle.geometry.specs.EmBox.{all_in_em_box}
use Rattle.geometry.specs.Points.{flat}
use Rattle.geometry.proofs.EmBox.{members_box}
use Rattle.geometry.proofs.PointLists.{length-flat, points_of_flat}
use Rattle.description.specs.Description.{named, load_of, room, list_after}
use Rattle.description.proofs.AcceptedTexts.{room_long, accepted_count, accepted_some, accepted_few, accepted_in_box, accepted_front, load_same}
use Rattle.engine.specs.Engine.{Enclosure, enclosure, enclose_of}
use Rattle.engine.proofs.Checks.{accepted}
use Rattle.disk_checks.specs.Checks.{check_of}
use Rattle.disk_checks.proofs.CheckLaws.{passed}
use Rattle.record_writer.specs.Layout.{record_length}
use Rattle.record_writer.specs.Writing as writing
use Rattle.record_writer.proofs.ByteLaws.{record_long}
use Rattle.letter.specs.Letter.{enclosure_in, enclosure_of, Letter, letter, letter_of, letter_in, buffer_after}
use Rattle.letter.proofs.ValidAnswer.{checked_enclosure}

-- ---- the engine, given a list of points

pub enclosed-flat : (P : List Point) → 1 ≤ length P → length P ≤ 4096 → all_in_em_box P ≡ true → enclose_of (flat P) ≡ given (enclosure P)
enclosed-flat P some most box =
    accepted (flat P) (λ h. odd (length P) (length (flat P)) (length-flat P) h) (λ h. none (length P) (length (flat P)) (length-flat P) some h)
    (half (length P) (length (flat P)) (length-flat P) most) (ap all_in_em_box (points_of_flat P) ∙ box)
    ∙ ap (λ (Q : List Point). given (enclosure Q)) (points_of_flat P)
  where
    odd : (n k : ℕ) → k ≡ 2 * n → k % 2 ≡ 1 → ⊥
    odd n k e h = omega arith

    none : (n k : ℕ) → k ≡ 2 * n → 1 ≤ n → k ≡ 0 → ⊥
    none n k e s h = omega arith

    half : (n k : ℕ) → k ≡ 2 * n → n ≤ 4096 → k / 2 ≤ 4096
    half n k e h = omega arith

-- ---- loader and engine

module _ (text : List ℕ) (list : List ℤ) where
  -- the engine, given the loader's points
  abbrev enclosed : ℕ → Outcome Enclosure
  enclosed n = enclose_of (take (2 * n) (list_after text list))

  pub enclosure_loaded : (n : ℕ) → load_of text list ≡ given n → enclosure_in text list ≡ enclose_of (take (2 * n) (list_after text list))
  unfolding enclosure_in
  enclosure_loaded n h = ap (λ (o : Outcome ℕ). and_then o enclosed) h

  pub enclosure_refused : (k : ℕ) → load_of text list ≡ refused k → enclosure_in text list ≡ refused k
  unfolding enclosure_in
  enclosure_refused k h = ap (λ (o : Outcome ℕ). and_then o enclosed) h

  pub named-enclosed : (n : ℕ) → load_of text list ≡ given n → enclose_of (flat (named text)) ≡ given (enclosure (named text))
  named-enclosed n loads =
      let count = accepted_count text list n loads in
      let some = subst (λ (k : ℕ). 1 ≤ k) count (accepted_some text list n loads) in
      let few = subst (λ (k : ℕ). k ≤ 4096) count (accepted_few text list n loads) in
      let boxed = members_box (named text) (λ p i. true_test (accepted_in_box text list n loads p i)) in
      enclosed-flat (named text) some few boxed

  pub enclosure_given : (n : ℕ) → load_of text list ≡ given n → enclosure_in text list ≡ given (enclosure (named text))
  enclosure_given n loads = enclosure_loaded n loads ∙ ap enclose_of (accepted_front text list n loads) ∙ named-enclosed n loads

  pub enclosure_checked : (e : Enclosure) → enclosure_in text list ≡ given e → check_of e.disk e.support ≡ given tt
  enclosure_checked e h = by_load (load_of text list) refl
    where
      by_load : (o : Outcome ℕ) → load_of text list ≡ o → check_of e.disk e.support ≡ given tt
      by_load (given n) loads = checked_enclosure (take (2 * n) (list_after text list)) e (sym (enclosure_loaded n loads) ∙ h)
      by_load (refused k) refuses = absurd (not_given (sym (enclosure_refused k refuses) ∙ h))

pub enclosure_any : (text : List ℕ) (list : List ℤ) → 8192 ≤ length list → enclosure_in text list ≡ enclosure_of text
enclosure_any text list long = by_load (load_of text list) refl
  where
    same : load_of text list ≡ load_of text room
    same = load_same text list room long room_long

    by_load : (o : Outcome ℕ) → load_of text list ≡ o → enclosure_in text list ≡ enclosure_of text
    by_load (given n) e = enclosure_given text list n e ∙ sym (enclosure_given text room n (sym same ∙ e))
    by_load (refused k) e = enclosure_refused text list k e ∙ sym (enclosure_refused text room k (sym same ∙ e))

pub enclosure_unloaded : (text : List ℕ) (list : List ℤ) (k : ℕ) → 8192 ≤ length list → load_of text list ≡ refused k → enclosure_of text ≡ refused k
enclosure_unloaded text list k long h = sym (enclosure_any text list long) ∙ enclosure_refused text list k h

-- ---- the letter, by what loader and engine give

module _ (text : List ℕ) where
  pub letter-enclosed : (e : Enclosure) → enclosure_of text ≡ given e → letter_of text ≡ given (letter e)
  unfolding letter_of
  letter-enclosed e h = rw h

  pub letter_unenclosed : (k : ℕ) → enclosure_of text ≡ refused k → letter_of text ≡ refused k
  unfolding letter_of
  letter_unenclosed k h = rw h

  module _ (list : List ℤ) (long : 8192 ≤ length list) where
    pub letter_loaded : (n : ℕ) → load_of text list ≡ given n → letter_of text ≡ given (letter (enclosure (named text)))
    letter_loaded n h = letter-enclosed (enclosure (named text)) (sym (enclosure_any text list long) ∙ enclosure_given text list n h)

    pub letter_unloaded : (k : ℕ) → load_of text list ≡ refused k → letter_of text ≡ refused k
    letter_unloaded k h = letter_unenclosed k (enclosure_unloaded text list k long h)

  pub letter-named : (g : Letter) → letter_of text ≡ given g → g ≡ letter (enclosure (named text))
  letter-named g h = by_load (load_of text room) refl
    where
      by_load : (o : Outcome ℕ) → load_of text room ≡ o → g ≡ letter (enclosure (named text))
      by_load (given n) e = same_given h (letter_loaded room room_long n e)
      by_load (refused k) e = absurd (not_given (sym (letter_unloaded room room_long k e) ∙ h))

  pub letter_long : (g : Letter) → letter_of text ≡ given g → length g.bytes ≡ record_length
  unfolding letter_of
  letter_long g h =
      let one = both_given (enclosure_of text) _ g h in
      let e = one.0 in
      ap (λ (f : Letter). length f.bytes) (sym (given_same one.1.1))
      ∙ record_long e.disk e.support (passed e.disk e.support (enclosure_checked text room e one.1.0)).0

module _ (text buf : List ℕ) where
  pub letter_short : length buf < record_length → letter_in text buf ≡ refused 8
  letter_short h = rw (lt-ltb (length buf) record_length h)

  module _ (enough : record_length ≤ length buf) where
    pub letter_given : (e : Enclosure) → enclosure_of text ≡ given e → letter_in text buf ≡ given (letter e)
    letter_given e h = rw (le-ltb (length buf) record_length enough) (letter-enclosed text e h)

    pub letter_refused : (k : ℕ) → enclosure_of text ≡ refused k → letter_in text buf ≡ refused k
    letter_refused k h = rw (le-ltb (length buf) record_length enough) (letter_unenclosed text k h)

    pub letter_written : (e : Enclosure) → enclosure_of text ≡ given e → writing.buffer_after e.disk e.support buf ≡ buffer_after (given (letter e)) buf
    letter_written e h = rw (le-ltb (length buf) record_length enough, enclosure_checked text _ e h)

    pub write_due : (e : Enclosure) → enclosure_of text ≡ given e → writing.write_of e.disk e.support buf ≡ given tt
    write_due e h = rw (le-ltb (length buf) record_length enough, enclosure_checked text _ e h)
