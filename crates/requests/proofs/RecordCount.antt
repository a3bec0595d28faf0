-- The count of points in the record (specs/RecordCount.antt).
--
--   counted_by, read_counted : what the reader accepts has its count
--   meant_by        : and the points that are meant are the first of the three, as many as it says
--   written_counted : and so has what the writer leaves
--   record_count    : RecordCount
use mathlib.Core.Path.{◌≡◌, sym, ap, ◌∙◌, subst}
use mathlib.Core.Logic.{◌⊎◌, inl, inr}
use mathlib.Core.List.{List, [], ◌∷◌}
use Prim.Native.Nat.{ℕ, ◌-◌}
use native.Mathlib.Omega.{arith}
use borrow.Author.Tests.{lt-ltb, ne_eqb}
use lib.ListN.{length, get_or, take}
use Rattle.answers.specs.Outcome.{Outcome, given}
use Rattle.geometry.specs.declared.Point.{Point}
use Rattle.geometry.specs.declared.Limits.{Limits}
use Rattle.geometry.specs.EmBox.{em, old_em}
use Rattle.geometry.specs.Plane.{Disk}
use Rattle.disk_checks.proofs.CheckLaws.{passed}
use Rattle.record_writer.specs.Layout.{first_at, second_at, third_at, count_at, length_by}
use Rattle.record_writer.specs.Bytes.{record_bytes}
use Rattle.record_writer.specs.Writing.{write_of, buffer_after}
use Rattle.record_reader.specs.Reading.{point_in, read_of}
use Rattle.record_reader.proofs.Meaning.{meant_first}
use Rattle.record_reader.proofs.RoundTrip.{read_written, read_miscounted, old_miscounted, count_byte, Accepted, accepted}
use Rattle.letter.specs.Letter.{Letter}
use Rattle.letter.specs.Letter as letter
use Rattle.letter.proofs.Whole.{letter_short}
use Rattle.rules.proofs.Recordables.{recordable_valid, checked_in, rules_checked}
use Rattle.requests.specs.RecordCount.{Counted, RecordCount}
use Rattle.record_writer.proofs.ByteLaws.{record_long}
use Rattle.claims.proofs.Records.{written, written_checked, filled}
use Rattle.claims.proofs.Whole.{steps}

counted_by : {w : ℕ} {l : Limits} {bs : List ℕ} {d : Disk} {ps : List Point} → Accepted w l bs d ps → Counted (length_by w) bs ps
counted_by {w} {l} {bs} {d} {ps} a =
    let r = (checked_in l d ps a.fine).0 in
    let end : length_by w - 1 ≡ count_at w = omega arith in
    record { long = a.long; last = ap (λ (k : ℕ). get_or bs k 0) end ∙ sym (count_byte w bs) ∙ a.count; some = r.some; most = r.most }

read_counted : (bs : List ℕ) (d : Disk) (ps : List Point) → read_of bs ≡ given (d, ps) → Counted 53 bs ps ⊎ Counted 45 bs ps
read_counted bs d ps h = elim (accepted bs d ps h) [ inl a ↦ inl (counted_by a) | inr a ↦ inr (counted_by a) ]

meant_by : {w : ℕ} {l : Limits} {bs : List ℕ} {d : Disk} {ps : List Point} → Accepted w l bs d ps
    → ps ≡ take (get_or bs (count_at w) 0) (point_in (first_at w) bs ∷ point_in (second_at w) bs ∷ point_in (third_at w) bs ∷ [])
meant_by {w} {l} {bs} a =
    let three = point_in (first_at w) bs ∷ point_in (second_at w) bs ∷ point_in (third_at w) bs ∷ [] in
    sym a.points
    ∙ meant_first (point_in (first_at w) bs) (point_in (second_at w) bs) (point_in (third_at w) bs)
    ∙ ap (λ (n : ℕ). take n three) (ap length a.points ∙ sym a.count ∙ count_byte w bs)

-- 53 is not 45
apart : {n : ℕ} → n ≡ 53 → n ≡ 45 → ⊥
apart h k = omega arith

written_counted : (d : Disk) (ps : List Point) (b : List ℕ) → write_of d ps b ≡ given tt → Counted 53 (take 53 (buffer_after d ps b)) ps
written_counted d ps b e =
    let v = (written_checked d ps b e).1 in
    let bs = record_bytes d ps in
    let long = record_long d ps (passed d ps v).0 in
    subst (λ (cs : List ℕ). Counted 53 cs ps) (sym (filled d ps b e))
    (elim (read_counted bs d ps (read_written d ps v)) [ inl c ↦ c | inr c ↦ absurd (apart long c.long) ])

pub record_count : RecordCount
record_count = record {
  writer = written_counted;
  reader = read_counted;
  meant = λ bs d ps h e. elim (accepted bs d ps h) [ inl a ↦ meant_by a | inr a ↦ absurd (apart e a.long) ];
  old_meant = λ bs d ps h e. elim (accepted bs d ps h) [ inl a ↦ absurd (apart a.long e) | inr a ↦ meant_by a ];
  disagrees = λ d ps r. read_miscounted d ps (recordable_valid em d ps r);
  old_disagrees = λ d ps r. old_miscounted d ps (recordable_valid old_em d ps r);
  other_length = λ bs h k. rw (ne_eqb (length bs) 45 k, ne_eqb (length bs) 53 h);
  room = λ d ps b r k. (λ e. (written_checked d ps b e).0, written d ps b (rules_checked d ps r k));
  no_room = λ d ps b h. let short = lt-ltb (length b) 53 h in (rw short, rw short);
  letter_no_room = λ t b h. let e = letter_short t b h in (e, ap (λ (o : Outcome Letter). letter.buffer_after o b) e);
  description = λ t l b a h.
      let s = steps t l b a h in
      subst (λ (bs : List ℕ). Counted 53 bs a.support) (sym s.filled_with) (written_counted a.disk_given a.support b s.done);
  worked_out = λ l bs w.
      subst (λ (cs : List ℕ). Counted 53 cs w.answer.support) (sym w.filled)
      (written_counted w.answer.disk w.answer.support w.buffer w.written);
}
