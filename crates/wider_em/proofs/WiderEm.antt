-- Document 02, item 10 holds (specs/WiderEm.antt).
--
--   wide_s       : an S below 2⁶⁴ in 16 bytes is eight zeros and its 8 bytes
--   widened_is   : so the 53-byte form of a record of 45 bytes has its bytes and eight zeros
--   wider_em     : WiderEm
use mathlib.Core.Path.{◌≡◌, refl, sym, ap, ap₂, ◌∙◌, subst}
use mathlib.Core.Logic.{◌↔◌, inl, inr}
use mathlib.Core.List.{List, [], ◌∷◌, ◌++◌, append_assoc}
use Prim.Native.Nat.{ℕ, ◌+◌, ◌*◌, ◌^◌, ◌≤◌, ◌<◌}
use native.Mathlib.Nat.{le_trans, le_refl, mul-le-mul, lt_of_le_of_lt, zero-mul, zero-add}
use native.Mathlib.Omega.{arith}
use lib.Dec.{lit≤}
use lib.IntN.{pos, ◌*ℤ◌}
use lib.ListN.{length, take, length-append}
use lib.Seq.{take_at, drop_at}
use Rattle.answers.specs.Outcome.{given, refused}
use Rattle.big_endian.specs.Fields.{bytes_of}
use Rattle.big_endian.proofs.ByteLists.{bytes_of-length}
use Rattle.big_endian.proofs.Parts.{bytes_of-parts}
use Rattle.geometry.specs.declared.Point.{Point}
use Rattle.geometry.specs.declared.Limits.{Limits}
use Rattle.geometry.specs.EmBox.{em, old_em, Inside, WithinLimits}
use Rattle.geometry.specs.Plane.{Disk}
use Rattle.geometry.specs.Points.{points}
use Rattle.geometry.proofs.EmBox.{in_all}
use Rattle.disk_checks.specs.Checks.{check_in}
use Rattle.disk_checks.proofs.CheckLaws.{passed_in, passed_wider}
use Rattle.validity.proofs.ValidLaws.{limits, valid-disk}
use Rattle.belonging.specs.Belonging.{Belong}
use Rattle.record_writer.specs.Layout.{s_width, old_s_width}
use Rattle.record_writer.specs.Bytes.{signed, points_bytes, made_three, count_bytes, record_by, record_bytes, old_record_bytes}
use Rattle.record_writer.specs.Writing.{write_of, buffer_after}
use Rattle.record_reader.specs.Reading.{read_of}
use Rattle.record_reader.proofs.RecordFields.{wide_old}
use Rattle.record_reader.proofs.RoundTrip as trip
use Rattle.letter.proofs.ValidAnswer.{old_enclosure}
use Rattle.rules.specs.Rules.{Bytes, RecordableIn, IsRecordOf, current, old, IsRecord}
use Rattle.rules.proofs.Recordables.{checked_in, rules_in}
use Rattle.rules.proofs.Calls as calls
use Rattle.claims.proofs.Records.{written, filled}
use Rattle.claims.proofs.Demand2.{demand_two}
use Rattle.requests.proofs.TracedPoints.{traced-points}
use Rattle.wider_em.specs.WiderEm.{InRange, widened, Layout, OldRecord, WiderEm}

-- ---- S

s_most : (d : Disk) → WithinLimits em d → d.s ≤ 2 ^ 67
s_most d k = le_trans k.s_most (le_trans (mul-le-mul (le_refl em.square) (mul-le-mul k.e_most k.e_most)) (lit≤ tt))

wide_s : (s : ℕ) → s < 2 ^ 64 → bytes_of 16 s ≡ bytes_of 8 0 ++ bytes_of 8 s
wide_s s h = ap (bytes_of 16) (sym (ap (λ (n : ℕ). n + s) (zero-mul (2 ^ 64)) ∙ zero-add s)) ∙ bytes_of-parts 8 8 0 s h

-- ---- the two layouts

layout : (w : ℕ) → Layout w (record_by w)
unfolding record_by
layout w d ps = refl

module _ (d : Disk) (ps : List Point) where
  abbrev front : List ℕ
  front = signed 8 d.x ++ signed 8 d.y ++ bytes_of 8 d.e

  abbrev behind : List ℕ
  behind = points_bytes (made_three ps) ++ count_bytes ps

  front_long : length front ≡ 24
  front_long = simp (length-append, bytes_of-length)

  zeros : bytes_of 8 0 ≡ 0 ∷ 0 ∷ 0 ∷ 0 ∷ 0 ∷ 0 ∷ 0 ∷ 0 ∷ []
  unfolding bytes_of
  zeros = refl

  -- S and what stands behind it, apart
  parted : (w : ℕ) → record_by w d ps ≡ front ++ (bytes_of w d.s ++ behind)
  parted w = layout w d ps ∙ simp append_assoc

  widened_is : d.s < 2 ^ 64 → widened (old_record_bytes d ps) ≡ record_bytes d ps
  widened_is h =
      let s = bytes_of 8 d.s in
      ap widened (parted old_s_width)
      ∙ ap₂ (λ (a b : List ℕ). a ++ (0 ∷ 0 ∷ 0 ∷ 0 ∷ 0 ∷ 0 ∷ 0 ∷ 0 ∷ []) ++ b) (take_at front (s ++ behind) 24 front_long)
      (drop_at front (s ++ behind) 24 front_long)
      ∙ ap (λ (z : List ℕ). front ++ z ++ (s ++ behind)) (sym zeros)
      ∙ append_assoc front (bytes_of 8 0) (s ++ behind)
      ∙ ap {B = List ℕ} (λ (z : List ℕ). front ++ z) (sym (append_assoc (bytes_of 8 0) s behind) ∙ ap (λ (z : List ℕ). z ++ behind) (sym (wide_s d.s h)))
      ∙ sym (parted s_width)

-- ---- limits, by their figures

within : (l : Limits) (d : Disk)
    → WithinLimits l d
    ↔ ((d.e ≤ l.scale) × (d.s ≤ l.square * (d.e * d.e))
    × InRange (l.left *ℤ pos d.e) d.x (l.right *ℤ pos d.e) × InRange (l.foot *ℤ pos d.e) d.y (l.top *ℤ pos d.e))
within l d = (
  λ k. (k.e_most, k.s_most, (k.x_low, k.x_high), (k.y_low, k.y_high)),
  λ k. record { e_most = k.0; s_most = k.1; x_low = k.2.0; x_high = k.2.1; y_low = k.3.0; y_high = k.3.1 },
)

inside : (l : Limits) (p : Point) → Inside l p ↔ (InRange l.left p.x l.right × InRange l.foot p.y l.top)
inside l p = (
  λ i. ((i.from_left, i.to_right), (i.from_foot, i.to_top)),
  λ k. record { from_left = k.0.0; to_right = k.0.1; from_foot = k.1.0; to_top = k.1.1 },
)

-- ---- records of 45 bytes

old_small : (d : Disk) (ps : List Point) → check_in old_em d ps ≡ given tt → d.s < 2 ^ 64
old_small d ps c =
    let k = limits old_em d (valid-disk old_em d ps (passed_in old_em d ps c).0) in
    lt_of_le_of_lt (le_trans k.s_small (mul-le-mul (le_refl old_em.square) (mul-le-mul k.e_small k.e_small))) (lit≤ tt)

not_fifteen : ◌≡◌ {A = ℕ} 7 15 → ⊥
not_fifteen e = omega arith

-- 45 is not 53
apart : {n : ℕ} → n ≡ 45 → n ≡ 53 → ⊥
apart h k = omega arith

module _ (bs : List ℕ) (bytes : Bytes bs) (long : length bs ≡ 45) where
  old_read : (d : Disk) (ps : List Point) → (read_of bs ≡ given (d, ps)) ↔ (RecordableIn old_em d ps × Belong d ps × (bs ≡ old_record_bytes d ps))
  old_read d ps = (
    λ h. let a = trip.old_again bs bytes long d ps h in let k = checked_in old_em d ps a.0 in (k.0, k.1, sym a.1),
    λ k. ap read_of k.2 ∙ trip.old_written d ps (rules_in old_em d ps k.0 k.1),
  )

  -- of this length a record is one by the old limits
  as_old : IsRecord bs → OldRecord bs
  as_old r = go r.is_record
    where
      go : IsRecordOf r.disk r.support bs → OldRecord bs
      go (current k e) = absurd (apart long (calls.form_long s_width em r.disk r.support bs k e))
      go (old k e) = record { disk = r.disk; support = r.support; recordable = k; bytes = e }

  abbrev is_record : OldRecord bs → IsRecord bs
  is_record r = record { disk = r.disk; support = r.support; is_record = old r.recordable r.bytes }

  old_seven : (read_of bs ≡ refused 7) ↔ (OldRecord bs → ⊥)
  old_seven =
      let row = (calls.reader bs bytes).refusal 7 in (
        λ h r. elim (row.0 h) [
          | inl b ↦ b.0 (inr long)
          | inr k ↦ elim k.1 [
            | inl b ↦ b.0 (is_record r)
            | inr m ↦ elim m.1 [ inl b ↦ not_fifteen b.1 | inr n ↦ n.1 ]
          ]
        ],
        λ none. row.1 (inr (inr long, inl ((λ r. none (as_old r)), refl))),
      )

  -- bytes are one record
  one : (r s : IsRecord bs) → Belong r.disk r.support → Belong s.disk s.support
  one r s b =
      let form = calls.old_form bs long in
      let here = calls.stands wide_old bs long form r in
      let there = calls.stands wide_old bs long form s in
      subst (λ (c : Disk). Belong c s.support) (sym here.disk ∙ there.disk)
      (subst (Belong r.disk) (sym here.points ∙ there.points) b)

  old_fifteen : (read_of bs ≡ refused 15) ↔ ((r : OldRecord bs) × (Belong r.disk r.support → ⊥))
  old_fifteen =
      let row = (calls.reader bs bytes).refusal 15 in (
        λ h. elim (row.0 h) [
          | inl b ↦ absurd (not_fifteen (sym b.1))
          | inr k ↦ elim k.1 [
            | inl b ↦ absurd (not_fifteen (sym b.1))
            | inr m ↦ elim m.1 [
              | inl b ↦ let r = as_old m.0 in (r, λ own. b.0 (λ s. one (is_record r) s own))
              | inr n ↦ absurd n.1
            ]
          ]
        ],
        λ (r, unfit). row.1 (inr (inr long, inr (is_record r, inl ((λ f. unfit (f (is_record r))), refl)))),
      )

old_again : (bs : List ℕ) → Bytes bs → length bs ≡ 45 → (d : Disk) (ps : List Point) → read_of bs ≡ given (d, ps) → (buf : List ℕ) → 53 ≤ length buf
    → (write_of d ps buf ≡ given tt) × (take 53 (buffer_after d ps buf) ≡ widened bs) × (read_of (widened bs) ≡ given (d, ps))
old_again bs bytes long d ps h buf room =
    let a = trip.old_again bs bytes long d ps h in
    let c = passed_wider d ps a.0 in
    let done = written d ps buf c room in
    let form : record_bytes d ps ≡ widened bs = sym (widened_is d ps (old_small d ps a.0)) ∙ ap widened a.1 in
    (done, filled d ps buf done ∙ form, sym (ap read_of form) ∙ trip.read_written d ps c)

pub wider_em : WiderEm
wider_em = record {
  box = inside em;
  limits = within em;
  engine = λ l e h. (demand_two.engine l e h).limits;
  traced = traced-points.limits;
  s_most = s_most;
  layout = layout s_width;
  old_layout = layout old_s_width;
  old_box = inside old_em;
  old_limits = within old_em;
  old_read = old_read;
  old_seven = old_seven;
  old_fifteen = old_fifteen;
  old_letters = λ l e h inside. trip.old_written e.disk e.support (old_enclosure l e h (in_all old_em (points l) inside));
  old_again = old_again;
}
