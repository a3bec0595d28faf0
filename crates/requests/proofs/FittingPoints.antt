-- Document 02, item 9 holds (specs/FittingPoints.antt).
--
--   left_out        : points that belong have another smallest disk where one of them is left out, or none is left
--   fails           : points that do not belong are refused as 15
--   taken, named    : what the checks pass, and so what is read, is the engine's answer for the named points alone
--   own_record      : the bytes that are read are the record worked out for these
--   fitting_points  : FittingPoints
use mathlib.Core.Path.{◌≡◌, refl, sym, ◌∙◌, ap, ap₂, subst}
use mathlib.Core.Logic.{◌⊎◌, inl, inr}
use mathlib.Core.List.{List, [], ◌∷◌, ◌++◌}
use Prim.Native.Nat.{ℕ}
use native.Mathlib.Nat.{le_of_eq}
use native.Mathlib.Omega.{arith}
use borrow.Author.Tests.{le-ltb}
use lib.IntN.{ℤ}
use lib.ListN.{length}
use Rattle.answers.specs.Outcome.{given, refused}
use Rattle.geometry.specs.declared.Point.{Point}
use Rattle.geometry.specs.EmBox.{em}
use Rattle.geometry.specs.Plane.{Disk}
use Rattle.geometry.specs.Points.{flat}
use Rattle.geometry.proofs.EmBox.{inside_all}
use Rattle.point_lists.proofs.Sets.{same_refl}
use Rattle.disks.specs.Smallest.{Smallest}
use Rattle.disks.specs.Procedure.{disk_of}
use Rattle.disks.proofs.OneWriting.{smallest_same}
use Rattle.disks.proofs.Welzl.{smallest}
use Rattle.engine.specs.Engine.{enclosure}
use Rattle.belonging.specs.Belonging.{Belong}
use Rattle.belonging.proofs.Meaning.{none_smallest}
use Rattle.belonging.proofs.Known.{tested_one, tested_two, tested_three}
use Rattle.belonging.proofs.Answers.{own_first, only_support, own_answer, own_support}
use Rattle.disk_checks.specs.Checks.{check_of}
use Rattle.record_writer.specs.Layout.{record_length}
use Rattle.record_writer.specs.Bytes.{record_bytes}
use Rattle.record_reader.specs.Reading.{read_of}
use Rattle.record_reader.proofs.RoundTrip.{read_held, read_checked, written_again}
use Rattle.letter.proofs.ValidAnswer.{checked_enclosure}
use Rattle.letter.proofs.Whole.{enclosed-flat}
use Rattle.rules.specs.Rules.{Bytes, Recordable}
use Rattle.rules.proofs.Recordables.{recordable_valid, belongs_belong, belong_belongs, checked_rules}
use Rattle.rules.proofs.Calls as calls
use Rattle.claims.specs.Demand3.{WorkedOut}
use Rattle.claims.proofs.Records.{written, filled}
use Rattle.claims.proofs.Demand2.{demand_two}
use Rattle.claims.proofs.Whole.{steps}
use Rattle.requests.specs.FittingPoints.{Unfit, Fixing, FittingPoints}

-- ---- a point left out

left_out : (d : Disk) (ps : List Point) → Belong d ps → (front : List Point) (p : Point) (back : List Point) → ps ≡ front ++ (p ∷ back)
    → ((c : Disk) × Smallest (front ++ back) c × (c ≡ d → ⊥)) ⊎ (front ++ back ≡ [])
left_out d ps b front p back e = go (front ++ back) (b.needed front p back e)
  where
    go : (qs : List Point) → (Smallest qs d → ⊥) → ((c : Disk) × Smallest qs c × (c ≡ d → ⊥)) ⊎ (qs ≡ [])
    go [] n = inr refl
    go (q ∷ qs) n = inl (disk_of (q ∷ qs), smallest q qs, λ same. n (subst (Smallest (q ∷ qs)) same (smallest q qs)))

-- ---- points that do not belong

fails : (d : Disk) (ps : List Point) → Recordable d ps → (Belong d ps → ⊥) → Unfit d ps
fails d ps r n =
    let c : check_of d ps ≡ refused 15 = ((calls.checks d ps).refusal 15).1 (inr (r, inl (n, refl))) in
    record {
      reader = read_held d ps (recordable_valid em d ps r) ∙ rw c;
      writer = λ b h. let long = le-ltb (length b) record_length h in (rw (long, c), rw (long, c));
      radius = rw c;
      preview = rw c;
    }

-- ---- records that are read

letter : (l : List ℤ) (bs : List ℕ) (w : WorkedOut l bs) → read_of bs ≡ given (w.answer.disk, w.answer.support)
letter l bs w = ap read_of w.filled ∙ demand_two.records.read_back w.answer.disk w.answer.support w.buffer w.written

-- what the checks pass: the engine's answer for the points alone is this disk and these points
taken : (d : Disk) (ps : List Point) → Recordable d ps → Belong d ps → Fixing d ps
taken d ps r b = record {
  smallest = b.own;
  first_support_is = own_first b r.rises r.some r.most;
  no_other_support = only_support b r.rises r.some r.most;
  answer = enclosure ps;
  accepted = enclosed-flat ps r.some (omega (arith, r.most)) (inside_all ps r.in_box);
  disk_is = own_answer b r.rises r.some r.most;
  support_is = own_support b r.rises r.some r.most;
}

named : (bs : List ℕ) (d : Disk) (ps : List Point) → read_of bs ≡ given (d, ps) → Fixing d ps
named bs d ps h = let (r, b) = checked_rules d ps (read_checked bs d ps h) in taken d ps r b

own_record : (bs : List ℕ) (d : Disk) (ps : List Point) → read_of bs ≡ given (d, ps) → Bytes bs → length bs ≡ record_length
    → (w : WorkedOut (flat ps) bs) × (w.answer.disk ≡ d) × (w.answer.support ≡ ps)
own_record bs d ps h bytes long =
    let f = named bs d ps h in
    let e = f.answer in
    let done = written e.disk e.support bs (checked_enclosure (flat ps) e f.accepted) (le_of_eq (sym long)) in
    let bytes_are = filled e.disk e.support bs done ∙ ap₂ record_bytes f.disk_is f.support_is ∙ (written_again bs bytes long d ps h).1 in
    (record { answer = e; accepted = f.accepted; buffer = bs; written = done; filled = sym bytes_are }, f.disk_is, f.support_is)

pub fitting_points : FittingPoints
fitting_points = record {
  tested = λ d ps. (belongs_belong d ps, belong_belongs d ps);
  another_or_none = left_out;
  none = λ d. none_smallest;
  one_disk = λ d c ps b k. smallest_same (same_refl ps) (same_refl []) b.own k.own;
  one = λ d a r. tested_one d a (recordable_valid em d (a ∷ []) r);
  two = λ d a b r. tested_two d a b (recordable_valid em d (a ∷ b ∷ []) r);
  three = λ d a b c r. tested_three d a b c (recordable_valid em d (a ∷ b ∷ c ∷ []) r);
  fails = fails;
  engine = λ l e h. (checked_rules e.disk e.support (checked_enclosure l e h)).1;
  letter = letter;
  description = λ t l b a h.
      let s = steps t l b a h in ap read_of s.filled_with ∙ demand_two.records.read_back a.disk_given a.support b s.done;
  records = λ bs bytes long d ps. (
    λ h. own_record bs d ps h bytes long,
    λ (w, same, points). letter (flat ps) bs w ∙ ap₂ (λ (c : Disk) (qs : List Point). given (c, qs)) same points,
  );
  taken = taken;
  named = named;
}
