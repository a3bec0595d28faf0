-- Each public call goes by its row of rules (specs/Rules.antt).
--
--   loader, sheet, run, engine, radius, preview, writer, reader, append, through, traced, hull, stretch : the calls
use mathlib.Core.Path.{◌≡◌, refl, sym, ap, ap₂, ◌∙◌, subst}
use mathlib.Core.Logic.{inl, inr}
use mathlib.Core.Bool.{Bool, true, false, not, true≢false}
use mathlib.Core.List.{List, [], ◌∷◌, ◌++◌}
use Prim.Native.Nat.{ℕ, suc, ◌*◌, ◌/◌, ◌%◌, ◌^◌, ◌≤◌, ◌<◌}
use native.Mathlib.Omega.{arith}
use borrow.Author.Tests.{ltb-true, ltb-false, leb-true, leb-false, eqb-true, eqb-false, eq-eqb, not-true, not-false}
use lib.Dec.{eqb, leb, ltb}
use lib.IntN.{ℤ, pos}
use lib.ListN.{length}
use lib.Signed.{le_z}
use Rattle.answers.specs.Outcome.{Outcome, given, refuse_if, and_then}
use Rattle.integers.proofs.Tests.{both, test_true, between-low, between-high}
use Rattle.geometry.specs.declared.Point.{Point}
use Rattle.geometry.specs.declared.Limits.{Limits}
use Rattle.geometry.specs.Plane.{Disk}
use Rattle.geometry.specs.EmBox.{em, old_em, Inside, in_em_box, all_in_em_box}
use Rattle.geometry.specs.Points.{points}
use Rattle.geometry.proofs.PointLists.{first_points_all, length-first_points}
use Rattle.description.specs.Description.{lines_read, load_of}
use Rattle.drawn_points.specs.declared.DrawnPoint.{DrawnPoint}
use Rattle.drawn_points.specs.Appending.{place_of, taken_of, append_of}
use Rattle.directory.specs.Directory.{count, directory_end, pair, pairs, follow, count_of}
use Rattle.directory.proofs.Rows.{count_known}
use Rattle.sheet.specs.Sheet.{glyph_of}
use Rattle.sheet_run.specs.Running.{ran, run_of}
use Rattle.sheet_estimate.specs.Estimating.{estimated, estimate_of}
use Rattle.engine.specs.Engine.{enclosure, enclose_of}
use Rattle.engine.proofs.Checks.{even_length}
use Rattle.point_lists.specs.Sets.{has, all_of}
use Rattle.disks.specs.Procedure.{mtf}
use Rattle.fitting.specs.Fitting.{fits, fitting_disk}
use Rattle.chosen_points.specs.declared.Chosen.{Chosen}
use Rattle.chosen_points.specs.Chosen.{chosen, fixed, through_of}
use Rattle.chosen_points.proofs.Fitting.{all_there, there_all, some_fits, fits_some}
use Rattle.tracings.specs.declared.TracedPoint.{TracedPoint}
use Rattle.tracings.specs.Squares as squares
use Rattle.tracings.specs.Squares.{corners}
use Rattle.square_corners.proofs.Threes.{length-traced}
use Rattle.traced_points.specs.Traced.{tolerated, fault, first_fault, traced_of}
use Rattle.hull.specs.Chains.{hull_of}
use Rattle.hull_points.specs.Reducing.{reduce_of}
use Rattle.hull_points.proofs.Answers.{refused_answer, given_answer}
use Rattle.stretches.specs.Widest.{widest_of}
use Rattle.widest_stretch.specs.Stretching.{stretch_of}
use Rattle.widest_stretch.proofs.Answers as stretching
use Rattle.validity.specs.Valid.{valid_in, valid}
use Rattle.validity.proofs.ValidLaws.{valid-points, counted}
use Rattle.belonging.specs.Belonging.{belongs, Belong}
use Rattle.disk_checks.specs.Checks.{check_in, check_of}
use Rattle.radius.specs.Radius.{whole_radius, radius_of}
use Rattle.record_writer.specs.Layout.{s_width, old_s_width, record_length, old_record_length, length_by}
use Rattle.record_writer.specs.Bytes.{record_by, record_bytes, old_record_bytes}
use Rattle.record_writer.proofs.ByteLaws.{record_by-length}
use Rattle.record_writer.specs.Writing.{write_of}
use Rattle.record_reader.specs.Reading.{disk_in, points_in, count_in, held_in, read_as, read_of}
use Rattle.record_reader.proofs.RoundTrip.{Read, read_fields_lem, rewritten}
use Rattle.record_reader.proofs.RecordFields.{Wide, wide-em, wide_old}
use Rattle.preview.specs.Preview.{floats, preview_of}
use Rattle.rules.specs.Row.{Rule, ◌unless◌, each_of, GoesBy}
use Rattle.rules.specs.Rules.{Bytes, RecordableIn, Recordable, IsRecordOf, current, old, IsRecord, Names}
use Rattle.rules.specs.Rules.{loader_row, directory_row, sheet_row, run_row, estimate_row, engine_row, writer_row, reader_row}
use Rattle.rules.specs.Rules.{disk_row, append_row, through_row, point_row, traced_row}
use Rattle.rules.proofs.RowLaws.{row_end, row_step, row_then, row-through, row_none, row_first}
use Rattle.geometry.proofs.EmBox.{inside, inside_test, all_inside, inside_all}
use Rattle.rules.proofs.Recordables.{valid_recordable, recordable_valid, belongs_belong, belong_belongs}
use Rattle.rules.proofs.Sheets.{in_order, ordered}
use Rattle.rules.proofs.Lines.{lines-judged}
use Rattle.rules.proofs.Drawings.{place_names, named-once, placed}

-- ---- a check, and what it says

above : {m n : ℕ} → m < n → n ≤ m → ⊥
above h k = omega arith

-- a test that holds, and does not
fails : {b : Bool} → not b ≡ true → b ≡ true → ⊥
fails {b} h k = true≢false (sym k ∙ not-true b h)

-- ---- the calls

pub loader : (t : List ℕ) (l : List ℤ) → GoesBy (loader_row t l) (load_of t l)
unfolding load_of
loader t l =
    row_step (ltb (length l) 8192) 8 (λ h. above (ltb-true (length l) 8192 h)) (ltb-false (length l) 8192) (λ room.
    row_step (ltb 65535 (length t)) 1 (λ h. above (ltb-true 65535 (length t) h)) (ltb-false 65535 (length t)) (λ short.
    lines-judged (lines_read t)))

directory : (s : List ℕ) → GoesBy (directory_row s) (count_of s)
unfolding count_of
directory s =
    let rule = follow (directory_end s) (length s) (pairs s 0 (count s)) in
    row_step (ltb 65535 (length s)) 1 (λ h. above (ltb-true 65535 (length s) h)) (ltb-false 65535 (length s)) (λ short.
    row_step (ltb (length s) (directory_end s)) 6 (λ h. above (ltb-true (length s) (directory_end s) h)) (ltb-false (length s) (directory_end s)) (λ whole.
    row_step (not rule) 6 (λ h o. fails h (ordered s o)) (λ h. in_order s (not-false rule h)) (λ order.
    row_end (count s))))

-- a call that goes on with the count of the glyphs
with_count : {A : Type 0} (s : List ℕ) (next : List Rule) (f : ℕ → Outcome A) → GoesBy next (f (count s))
    → GoesBy (directory_row s ++ next) (and_then (count_of s) f)
with_count s next f g =
    row_then (directory_row s) next f (count_of s) (directory s) (λ n e. subst (λ (m : ℕ). GoesBy next (f m)) (sym (count_known s n e).all) g)

pub sheet : (s : List ℕ) (k : ℕ) → GoesBy (sheet_row s k) (glyph_of s k)
unfolding glyph_of
sheet s k =
    with_count s _ (λ n. refuse_if (leb n k) 10 (given (pair s k)))
    (row_step (leb (count s) k) 10 (λ h l. above l (leb-true (count s) k h)) (leb-false (count s) k) (λ below.
    row_end (pair s k)))

pub run : (s : List ℕ) (t : ℕ) (b ns : List ℕ) → GoesBy (run_row s t b ns) (run_of s t b ns)
unfolding run_of
run s t b ns =
    let room : ℕ → ℕ = λ n. record_length * n in
    with_count s _ (λ n. refuse_if (ltb (length b) (room n)) 8 (refuse_if (ltb (length ns) n) 8 (refuse_if (leb (2 ^ 60) t) 17 (given (ran s t)))))
    (row_step (ltb (length b) (room (count s))) 8 (λ h. above (ltb-true (length b) (room (count s)) h)) (ltb-false (length b) (room (count s))) (λ enough.
    row_step (ltb (length ns) (count s)) 8 (λ h. above (ltb-true (length ns) (count s) h)) (ltb-false (length ns) (count s)) (λ places.
    row_step (leb (2 ^ 60) t) 17 (λ h l. above l (leb-true (2 ^ 60) t h)) (leb-false (2 ^ 60) t) (λ less.
    row_end (ran s t)))))

pub estimate : (s ps rs : List ℕ) → GoesBy (estimate_row s ps rs) (estimate_of s ps rs)
unfolding estimate_of
estimate s ps rs =
    with_count s _ (λ n. refuse_if (ltb (length ps) n) 8 (refuse_if (ltb (length rs) n) 8 (given (estimated s n))))
    (row_step (ltb (length ps) (count s)) 8 (λ h. above (ltb-true (length ps) (count s) h)) (ltb-false (length ps) (count s)) (λ points_room.
    row_step (ltb (length rs) (count s)) 8 (λ h. above (ltb-true (length rs) (count s) h)) (ltb-false (length rs) (count s)) (λ refusals_room.
    row_end (estimated s (count s)))))

-- as many numbers as twice the points
pub paired : (l : List ℤ) → length l % 2 ≡ 0 → length l ≡ 2 * length (points l)
paired l even =
    let half = length l / 2 in
    let twice : length l ≡ 2 * half = omega arith in
    twice ∙ ap (λ (n : ℕ). 2 * n) (sym (sym (ap length (first_points_all half l twice)) ∙ length-first_points half l (omega arith)))

pub engine : (l : List ℤ) → GoesBy (engine_row l) (enclose_of l)
unfolding enclose_of
engine l =
    row_step (eqb (length l % 2) 1) 9 (λ h e. odd (length l) (eqb-true (length l % 2) 1 h) e) (λ h. even_length l (eqb-false (length l % 2) 1 h)) (λ even.
    let pairs = paired l even in
    row_step (eqb (length l) 0) 5 (λ h k. none pairs (eqb-true (length l) 0 h) k) (λ h. some pairs (eqb-false (length l) 0 h)) (λ one.
    row_step (ltb 4096 (length l / 2)) 4 (λ h k. many pairs (ltb-true 4096 (length l / 2) h) k) (λ h. few pairs (ltb-false 4096 (length l / 2) h)) (λ most.
    row_step (not (all_in_em_box (points l))) 3 (λ h k. fails h (inside_all (points l) k)) (λ h. all_inside (points l) (not-false (all_in_em_box (points l)) h))
    (λ boxed.
    row_end (enclosure (points l))))))
  where
    odd : (n : ℕ) → n % 2 ≡ 1 → n % 2 ≡ 0 → ⊥
    odd n h k = omega arith

    none : {n m : ℕ} → n ≡ 2 * m → n ≡ 0 → 1 ≤ m → ⊥
    none e h k = omega arith

    some : {n m : ℕ} → n ≡ 2 * m → (n ≡ 0 → ⊥) → 1 ≤ m
    some e h = omega (arith, h)

    many : {n m : ℕ} → n ≡ 2 * m → 4096 < n / 2 → m ≤ 4096 → ⊥
    many e h k = omega arith

    few : {n m : ℕ} → n ≡ 2 * m → n / 2 ≤ 4096 → m ≤ 4096
    few e h = omega arith

-- the engine's checks alone
pub hull : (l : List ℤ) → GoesBy (engine_row l) (reduce_of l)
hull l =
    row-through (enclose_of l) (reduce_of l) (engine l) (λ e h. (length (hull_of (points l)), given_answer l h)) (λ k h. refused_answer l h)

pub stretch : (l : List ℤ) → GoesBy (engine_row l) (stretch_of l)
stretch l =
    row-through (enclose_of l) (stretch_of l) (engine l) (λ e h. (widest_of (points l), stretching.given_answer l h)) (λ k h. stretching.refused_answer l h)

-- the engine's checks, the chosen points in the list, and a disk that fits
pub through : (l : List ℤ) (c : Chosen) → GoesBy (through_row l c) (through_of l c)
unfolding through_of fitting_disk
through l c =
    let P = points l in
    let fit = fits (mtf (fixed c) P).cover P (fixed c) in
    row_then (engine_row l) _ _ (enclose_of l) (engine l) (λ e h.
    row_step (not (all_of (has P) (chosen c))) 12 (λ t k. fails t (all_there l c k)) (λ t. there_all l c (not-false (all_of (has P) (chosen c)) t)) (λ there.
    row_step (not fit) 13 (λ t k. fails t (some_fits l c k.0 k.1)) (λ t. fits_some l c (not-false fit t)) (λ some.
    row_end _)))

-- the rules of one traced point, of each, and of the list
point : (s : TracedPoint) → GoesBy (point_row s) (fault s)
unfolding fault
point s =
    row_step (not (tolerated s)) 14 (λ h k. fails h (both (test_true (le_z (pos 0) s.t) k.0.le) (test_true (le_z s.t (pos 50)) k.1.le)))
    (λ h. let in_range = not-false (tolerated s) h in (between-low (pos 0) s.t (pos 50) in_range, between-high (pos 0) s.t (pos 50) in_range)) (λ range.
    row_step (not (all_in_em_box (corners s))) 3 (λ h k. fails h (inside_all (corners s) k))
    (λ h. all_inside (corners s) (not-false (all_in_em_box (corners s)) h)) (λ boxed.
    row_end tt))

each : (ss : List TracedPoint) → GoesBy (each_of point_row ss ∷ []) (first_fault ss)
unfolding first_fault
each [] = row_none point_row tt
each (s ∷ ss) = row_first point_row s ss (row_then (point_row s) (each_of point_row ss ∷ []) (λ u. first_fault ss) (fault s) (point s) (λ u e. each ss))

pub traced : (l : List ℤ) → GoesBy (traced_row l) (traced_of l)
unfolding traced_of
traced l =
    row_step (not (eqb (length l % 3) 0)) 9 (λ h e. fails h (eq-eqb (length l % 3) 0 e)) (λ h. eqb-true (length l % 3) 0 (not-false _ h)) (λ threes.
    let n = length-traced l threes in
    row_step (eqb (length l) 0) 5 (λ h k. none n (eqb-true (length l) 0 h) k) (λ h. some n (eqb-false (length l) 0 h)) (λ one.
    row_step (ltb 1024 (length l / 3)) 4 (λ h k. many n (ltb-true 1024 (length l / 3) h) k) (λ h. few n (ltb-false 1024 (length l / 3) h)) (λ most.
    row_then (each_of point_row (squares.traced l) ∷ []) [] _ (first_fault (squares.traced l)) (each (squares.traced l)) (λ u e.
    row_end _))))
  where
    none : {n m : ℕ} → n ≡ 3 * m → n ≡ 0 → 1 ≤ m → ⊥
    none e h k = omega arith

    some : {n m : ℕ} → n ≡ 3 * m → (n ≡ 0 → ⊥) → 1 ≤ m
    some e h = omega (arith, h)

    many : {n m : ℕ} → n ≡ 3 * m → 1024 < n / 3 → m ≤ 1024 → ⊥
    many e h k = omega arith

    few : {n m : ℕ} → n ≡ 3 * m → n / 3 ≤ 1024 → m ≤ 1024
    few e h = omega arith

-- the checks of a disk and its points
pub checks : (d : Disk) (ps : List Point) → GoesBy (disk_row d ps) (check_of d ps)
checks d ps =
    row_step (not (valid d ps)) 7 (λ h r. fails h (recordable_valid em d ps r)) (λ h. valid_recordable em d ps (not-false (valid d ps) h)) (λ r.
    row_step (not (belongs d ps)) 15 (λ h b. fails h (belong_belongs d ps b)) (λ h. belongs_belong d ps (not-false (belongs d ps) h)) (λ b.
    row_end tt))

-- and then a value
then_value : {A : Type 0} {row : List Rule} (o : Outcome (Unit {0})) (a : A) → GoesBy row o → GoesBy row (and_then o (λ done. given a))
then_value {A} o a g = row-through o _ g (λ u e. (a, ap after e)) (λ n e. ap after e)
  where
    after : Outcome (Unit {0}) → Outcome A
    after p = and_then p (λ done. given a)

pub writer : (d : Disk) (ps : List Point) (b : List ℕ) → GoesBy (writer_row d ps b) (write_of d ps b)
writer d ps b =
    row_step (ltb (length b) record_length) 8 (λ h. above (ltb-true (length b) record_length h)) (ltb-false (length b) record_length)
    (λ room. checks d ps)

-- the reader's checks, of a record with an S of w bytes by the limits l
module _ {w : ℕ} {l : Limits} (fit : Wide w l) (bs : List ℕ) (long : length bs ≡ length_by w) where
  abbrev d : Disk
  d = disk_in w bs

  abbrev ps : List Point
  ps = points_in w bs

  abbrev agree : Bool
  agree = eqb (count_in w bs) (length ps)

  -- bytes of this length that are a record are one of this form
  abbrev Form : Type 0
  Form = (r : IsRecord bs) → RecordableIn l r.disk r.support × (bs ≡ record_by w r.disk r.support)

  -- and the other way round
  abbrev Formed : Type 0
  Formed = RecordableIn l d ps → bs ≡ record_by w d ps → IsRecordOf d ps bs

  module _ (form : Form) where
    -- in bytes that are a record stand its disk, its points and their count
    pub stands : (r : IsRecord bs) → Read w bs r.disk r.support (length r.support)
    stands r =
        let (k, e) = form r in
        subst (λ (cs : List ℕ). Read w cs r.disk r.support (length r.support)) (sym e)
        (read_fields_lem fit r.disk r.support (recordable_valid l r.disk r.support k))

    agreeing : IsRecord bs → agree ≡ true
    agreeing r = let s = stands r in eq-eqb (count_in w bs) (length ps) (s.count ∙ ap length (sym s.points))

    is_fine : IsRecord bs → valid_in l d ps ≡ true
    is_fine r = let s = stands r in ap₂ (valid_in l) s.disk s.points ∙ recordable_valid l r.disk r.support (form r).0

    is_record : Formed → Bytes bs → agree ≡ true → valid_in l d ps ≡ true → IsRecord bs
    is_record formed bytes same v = record {
      disk = d;
      support = ps;
      is_record = formed (valid_recordable l d ps v) (sym (rewritten bs bytes w long (eqb-true (count_in w bs) (length ps) same)));
    }

    -- the points that stand in the bytes belong to the disk that does
    abbrev Fitting : Type 0
    Fitting = (r : IsRecord bs) → Belong r.disk r.support

    fitting : belongs d ps ≡ true → Fitting
    fitting h r = let s = stands r in belongs_belong r.disk r.support (sym (ap₂ belongs s.disk s.points) ∙ h)

    -- the two checks of 7 behind the length are one rule
    behind : Formed → Bytes bs → (b : Bool) → agree ≡ b
        → GoesBy (7 unless IsRecord bs ∷ 15 unless Fitting ∷ []) (refuse_if (not b) 7 (held_in l d ps))
    behind formed bytes false e =
        row_step true 7 {rest = held_in l d ps} (λ h r. true≢false (sym (agreeing r) ∙ e)) (λ h. absurd (true≢false h))
        (λ r. absurd (true≢false (sym (agreeing r) ∙ e)))
    behind formed bytes true e =
        then_value (check_in l d ps) (d, ps)
        (row_step (not (valid_in l d ps)) 7 (λ h r. fails h (is_fine r)) (λ h. is_record formed bytes e (not-false (valid_in l d ps) h)) (λ r.
        row_step (not (belongs d ps)) 15 (λ h k. fails h (belong_belongs d ps (own k r))) (λ h. fitting (not-false (belongs d ps) h)) (λ b.
        row_end tt)))
      where
        own : Fitting → IsRecord bs → Belong d ps
        own k r = let s = stands r in subst (λ (c : Disk). Belong c ps) (sym s.disk) (subst (Belong r.disk) (sym s.points) (k r))

-- a record is as long as its form says
pub form_long : (w : ℕ) (l : Limits) (d : Disk) (ps : List Point) (bs : List ℕ) → RecordableIn l d ps → bs ≡ record_by w d ps → length bs ≡ length_by w
form_long w l d ps bs r e = ap length e ∙ record_by-length w d ps (counted l ps (valid-points l d ps (recordable_valid l d ps r)))

current_form : (bs : List ℕ) (long : length bs ≡ record_length) → Form wide-em bs long
current_form bs long r = go r.is_record
  where
    go : IsRecordOf r.disk r.support bs → Recordable r.disk r.support × (bs ≡ record_bytes r.disk r.support)
    go (current k e) = (k, e)
    go (old k e) = absurd (true≢false (sym (eq-eqb record_length old_record_length (sym long ∙ form_long old_s_width old_em r.disk r.support bs k e))))

pub old_form : (bs : List ℕ) (long : length bs ≡ old_record_length) → Form wide_old bs long
old_form bs long r = go r.is_record
  where
    go : IsRecordOf r.disk r.support bs → RecordableIn old_em r.disk r.support × (bs ≡ old_record_bytes r.disk r.support)
    go (old k e) = (k, e)
    go (current k e) = absurd (true≢false (sym (eq-eqb old_record_length record_length (sym long ∙ form_long s_width em r.disk r.support bs k e))))

pub reader : (bs : List ℕ) → Bytes bs → GoesBy (reader_row bs) (read_of bs)
reader bs bytes = by_length (eqb (length bs) old_record_length) refl
  where
    by_length : (b : Bool) → eqb (length bs) old_record_length ≡ b → GoesBy (reader_row bs) (read_as b bs)
    by_length true e =
        let long = eqb-true (length bs) old_record_length e in
        row_step (not (eqb (length bs) old_record_length)) 7 (λ h k. fails h e) (λ h. inr long) (λ k.
        behind wide_old bs long (old_form bs long) old bytes (agree wide_old bs long) refl)
    by_length false e =
        let other : length bs ≡ old_record_length → ⊥ = λ k. true≢false (sym (eq-eqb (length bs) old_record_length k) ∙ e) in
        row_step (not (eqb (length bs) record_length)) 7 (λ h k. elim k [ inl l ↦ fails h (eq-eqb (length bs) record_length l) | inr l ↦ other l ])
        (λ h. inl (eqb-true (length bs) record_length (not-false (eqb (length bs) record_length) h))) (λ k.
        elim k [
          | inl long ↦ behind wide-em bs long (current_form bs long) current bytes (agree wide-em bs long) refl
          | inr l ↦ absurd (other l)
        ])

pub radius : (d : Disk) (ps : List Point) → GoesBy (disk_row d ps) (radius_of d ps)
radius d ps = then_value (check_of d ps) (whole_radius d) (checks d ps)

pub preview : (d : Disk) (ps : List Point) → GoesBy (disk_row d ps) (preview_of d ps)
preview d ps = then_value (check_of d ps) (floats d (whole_radius d)) (checks d ps)

-- the checks of a point that p names: 3, then 4
boxed_and_few : (p : DrawnPoint) (n : ℕ) (c : Point) → place_of p ≡ given c
    → GoesBy (3 unless ((d : Point) → Names p d → Inside em d) ∷ 4 unless (n < 4096) ∷ []) (refuse_if (not (in_em_box c)) 3 (refuse_if (leb 4096 n) 4 (given c)))
boxed_and_few p n c e =
    row_step (not (in_em_box c)) 3 (λ h k. fails h (inside_test em c (k c (place_names p c e))))
    (λ h d m. subst (Inside em) (named-once p c d e m) (inside em c (not-false (in_em_box c) h))) (λ boxed.
    row_step (leb 4096 n) 4 (λ h l. above l (leb-true 4096 n h)) (leb-false 4096 n) (λ few.
    row_end c))

pub append : (p : DrawnPoint) (l : List ℤ) (n : ℕ) → GoesBy (append_row p l n) (append_of p l n)
unfolding taken_of
append p l n =
    row-through (taken_of p l n) (append_of p l n) taken
    (λ c e. (suc n, ap (λ (o : Outcome Point). and_then o (λ d. given (suc n))) e))
    (λ k e. ap (λ (o : Outcome Point). and_then o (λ d. given (suc n))) e)
  where
    taken : GoesBy (append_row p l n) (taken_of p l n)
    taken =
        row_step (ltb (length l) 8192) 8 (λ h. above (ltb-true (length l) 8192 h)) (ltb-false (length l) 8192) (λ room.
        row_then (11 unless ((c : Point) × Names p c) ∷ []) _ _ (place_of p) (placed p) (boxed_and_few p n))
