-- Demand 3 holds (specs/Demand3.antt).
--
--   state_by_text     : the text's words lead to the function's state and to no other
--   procedure_welzls  : the engine's answer is the procedure's
--   answers d S       == what radius, preview and writer give for the disk d and the support set S
--   worked_is         : the calls on an accepted description, one after another, give the answers for the points that it names
--   equal_answers, equal_bytes : two records worked out are equal exactly where the disks and the first support sets are
--   demand_three      : Demand3
use mathlib.Core.Path.{◌≡◌, refl, sym, ap, ap₂, ◌∙◌, subst}
use mathlib.Core.Bool.{true}
use mathlib.Core.Logic.{◌↔◌}
use mathlib.Core.List.{List, [], ◌∷◌, Permᴰ}
use Prim.Native.Nat.{ℕ, ◌+◌, ◌*◌, ◌/◌, ◌≤◌}
use native.Mathlib.Omega.{arith}
use lib.IntN.{ℤ}
use lib.ListN.{length, take}
use Rattle.answers.specs.Outcome.{given}
use Rattle.geometry.specs.declared.Point.{Point}
use Rattle.geometry.specs.Plane.{Disk}
use Rattle.geometry.specs.Points.{points, flat}
use Rattle.geometry.proofs.PointLists.{points_of_flat}
use Rattle.point_lists.specs.Sets.{Same}
use Rattle.disks.specs.Smallest.{Smallest}
use Rattle.disks.specs.Procedure.{State, disk, mtf, disk_of, tests_of, order_of}
use Rattle.disks.specs.Runs.{Runs}
use Rattle.disks.specs.Support.{first_support}
use Rattle.disks.proofs.Welzl.{mtf-ends, disk_same, tests_most, order_permuted}
use Rattle.disks.proofs.ByText.{by_text}
use Rattle.disks.proofs.First.{first_support_same}
use Rattle.description.specs.Description.{load_of, named}
use Rattle.description.proofs.AcceptedTexts.{load_same, accepted_room}
use Rattle.engine.specs.Engine.{Enclosure, enclosure, enclose_of, list_after}
use Rattle.engine.proofs.Checks.{list_accepted}
use Rattle.engine.proofs.Accepted.{Accepted, accepted_list, has_point}
use Rattle.validity.specs.Valid.{valid}
use Rattle.disk_checks.specs.Checks.{check_of}
use Rattle.disk_checks.proofs.CheckLaws.{passed}
use Rattle.record_writer.specs.Layout.{record_length}
use Rattle.record_writer.specs.Bytes.{record_bytes}
use Rattle.radius.specs.Radius.{whole_radius, radius_of}
use Rattle.record_writer.specs.Writing.{write_of, buffer_after}
use Rattle.record_reader.proofs.RoundTrip.{record_injective}
use Rattle.preview.specs.Preview.{floats, preview_of}
use Rattle.letter.specs.Letter.{enclosure_in}
use Rattle.letter.proofs.ValidAnswer.{checked_enclosure}
use Rattle.letter.proofs.Whole.{enclosure_given, enclosure_checked}
use Rattle.claims.specs.Values.{bits}
use Rattle.claims.specs.Demand3.{ProcedureIsWelzls, AcceptedDescription, Answers, worked, WorkedOut, Demand3}
use Rattle.claims.proofs.Records.{written, in_front, filled}
use Rattle.claims.proofs.Demand2.{engine_right}

-- ---- the procedure

ends_on : (P : List Point) → (P ≡ [] → ⊥) → (mtf [] P).cover ≡ disk (disk_of P)
ends_on [] some = absurd (some refl)
ends_on (p ∷ P) some = mtf-ends p P

few : (P : List Point) → tests_of P ≤ (length P * length P * length P + 5 * length P) / 6
few P = omega (arith, tests_most P)

state_by_text : (P : List Point) (t : State) → mtf [] P ≡ t → (s : State) → Runs [] P s ↔ (s ≡ t)
state_by_text P t e s = (
  (λ r. by_text.complete [] P s (omega arith) tt r ∙ e),
  (λ h. subst (Runs [] P) (e ∙ sym h) (by_text.runs P)),
)

procedure_welzls : (l : List ℤ) (e : Enclosure) → enclose_of l ≡ given e → ProcedureIsWelzls l e
procedure_welzls l e h = subst (ProcedureIsWelzls l) (sym a.answer) (record {
  ends_on_disk = ends;
  smallest = subst (λ (k : Enclosure). Smallest (points l) k.disk) a.answer (engine_right l e h).smallest;
  tests_are = refl;
  order_is = order;
  by_text = state_by_text (points l) _ (λ i. record { cover = ends i; tests = tests_of (points l); left = left i });
  permuted = subst (λ (Q : List Point). Permᴰ Q (points l)) left (order_permuted (points l));
  tests_most = few (points l);
})
  where
    a : Accepted l e
    a = accepted_list l e h

    ends : (mtf [] (points l)).cover ≡ disk (disk_of (points l))
    ends = ends_on (points l) (has_point l a.even a.some)

    order : list_after l ≡ flat (order_of (points l))
    order = list_accepted l h

    left : order_of (points l) ≡ points (list_after l)
    left = sym (ap points order ∙ points_of_flat (order_of (points l)))

-- ---- records worked out

recorded : (l : List ℤ) (e : Enclosure) → enclose_of l ≡ given e → (b : List ℕ) → record_length ≤ length b
    → WorkedOut l (take record_length (buffer_after e.disk e.support b))
recorded l e h b k = record { answer = e; accepted = h; buffer = b; written = written e.disk e.support b (checked_enclosure l e h) k; filled = refl }

worked-bytes : {l : List ℤ} {bs : List ℕ} (w : WorkedOut l bs) → bs ≡ record_bytes w.answer.disk w.answer.support
worked-bytes w = w.filled ∙ filled w.answer.disk w.answer.support w.buffer w.written

valid-worked : {l : List ℤ} {bs : List ℕ} (w : WorkedOut l bs) → valid w.answer.disk w.answer.support ≡ true
valid-worked {l} w = (passed w.answer.disk w.answer.support (checked_enclosure l w.answer w.accepted)).0

module _ {l m : List ℤ} {bs cs : List ℕ} (w : WorkedOut l bs) (v : WorkedOut m cs) {d c : Disk} {S R : List Point}
    (d_is : d ≡ w.answer.disk) (c_is : c ≡ v.answer.disk) (S_is : S ≡ w.answer.support) (R_is : R ≡ v.answer.support) where
  equal_answers : bs ≡ cs → (d ≡ c) × (S ≡ R)
  equal_answers e =
      let same = record_injective w.answer.disk v.answer.disk w.answer.support v.answer.support
      (valid-worked w) (valid-worked v) (sym (worked-bytes w) ∙ e ∙ worked-bytes v) in
      (d_is ∙ same.0 ∙ sym c_is, S_is ∙ same.1 ∙ sym R_is)

  equal_bytes : (d ≡ c) × (S ≡ R) → bs ≡ cs
  equal_bytes e = worked-bytes w ∙ ap₂ record_bytes (sym d_is ∙ e.0 ∙ c_is) (sym S_is ∙ e.1 ∙ R_is) ∙ sym (worked-bytes v)

-- ---- descriptions

loaded : {t : List ℕ} (a : AcceptedDescription t) (l : List ℤ) → 8192 ≤ length l → load_of t l ≡ given a.count
loaded {t} a l h = load_same t l a.list h (accepted_room t a.list a.count a.loads) ∙ a.loads

abbrev pub answers : Disk → List Point → Answers
answers d S = record { disk_given = d; support = S; radius = whole_radius d; shown = bits (floats d (whole_radius d)); bytes = record_bytes d S }

module _ {t : List ℕ} (a : AcceptedDescription t) (l : List ℤ) (b : List ℕ) (long : 8192 ≤ length l) (room : record_length ≤ length b) where
  loads : load_of t l ≡ given a.count
  loads = loaded a l long

  encloses : enclosure_in t l ≡ given (enclosure (named t))
  encloses = enclosure_given t l a.count loads

  checked_named : check_of (disk_of (named t)) (first_support (named t)) ≡ given tt
  checked_named = enclosure_checked t l (enclosure (named t)) encloses

  writes : write_of (disk_of (named t)) (first_support (named t)) b ≡ given tt
  writes = written (disk_of (named t)) (first_support (named t)) b checked_named room

  reaches : radius_of (disk_of (named t)) (first_support (named t)) ≡ given (whole_radius (disk_of (named t)))
  reaches = rw checked_named

  shows : preview_of (disk_of (named t)) (first_support (named t)) ≡ given (floats (disk_of (named t)) (whole_radius (disk_of (named t))))
  shows = rw checked_named

  pub worked_is : worked t l b ≡ given (answers (disk_of (named t)) (first_support (named t)))
  unfolding worked
  worked_is = rw (encloses, reaches, shows, writes, in_front (disk_of (named t)) (first_support (named t)) b checked_named)

same_answers : (P Q : List Point) → Same P Q → answers (disk_of P) (first_support P) ≡ answers (disk_of Q) (first_support Q)
same_answers P Q s = ap₂ answers (disk_same P Q s) (first_support_same P Q s)

pub demand_three : Demand3
demand_three = record {
  procedure = procedure_welzls;
  descriptions = λ t u a e s l m h k b c i j. (
    answers (disk_of (named t)) (first_support (named t)),
    worked_is a l b h i,
    worked_is e m c k j ∙ ap given (sym (same_answers (named t) (named u) s)),
  );
  recorded = recorded;
  records = λ l m bs cs w v d c sd sc S R fs fr.
      let left = engine_right l w.answer w.accepted in
      let right = engine_right m v.answer v.accepted in
      let di = left.no_other_disk d sd in
      let ci = right.no_other_disk c sc in
      let si = left.no_other_support S fs in
      let ri = right.no_other_support R fr in
      (equal_answers w v di ci si ri, equal_bytes w v di ci si ri);
}
