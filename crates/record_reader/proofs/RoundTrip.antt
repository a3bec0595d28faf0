-- Records read back (demand 2), and bytes with another count (02, item 4); of 53 bytes and of 45 (02, item 10).
--
--   Read, read_fields_lem : in the record of a valid disk and its points stand these, and their count; S has w bytes, and l are the limits
--   read_by_is           : a record with an S of w bytes is answered by the checks of these
--   read_held, old_held       : the record of a valid disk and its points, of 53 bytes and of 45, is answered by the checks of these
--   read_written, old_written : where they pass them, it is read as them
--   read_miscounted, old_miscounted : the bytes of a valid disk and its points with another count are refused
--   count_byte        : the count is the last byte
--   Accepted, accepted : what the reader accepts has a record's length, and in it stand the disk, the points and their count
--   read_checked      : what is read passes the checks by the limits of the em
--   rewritten         : bytes of a record's length with the right count are the record of what stands in them
--   record_form       : bytes that the reader accepts are the record of 53 bytes or of 45 of a disk and points that pass its checks
--   written_again, old_again : so they are by their length
--   record_injective  : valid disks and points with equal records are equal
use mathlib.Core.Path.{◌≡◌, refl, sym, ap, ap₂, ◌∙◌, subst}
use mathlib.Core.Logic.{◌⊎◌, inl, inr}
use mathlib.Core.Bool.{Bool, true, false, not, true≢false, ◌&&◌}
use mathlib.Core.List.{List, [], ◌∷◌, ◌++◌}
use Prim.Native.Nat.{ℕ, ◌*◌, ◌/◌, ◌%◌, ◌≤◌, ◌<◌}
use native.Mathlib.Nat.{zero-add}
use native.Mathlib.Omega.{arith}
use borrow.Author.Tests.{eq-eqb, ne_eqb, eqb-true, leb-true, not-false}
use lib.Dec.{eqb, leb}
use lib.ListN.{length, get_or, length-append}
use Rattle.answers.specs.Outcome.{given, refused, refuse_if}
use Rattle.answers.proofs.OutcomeLaws.{given_same, not_refused, both_given}
use Rattle.integers.proofs.Tests.{first, rest}
use Rattle.big_endian.specs.Fields.{bytes_of, get}
use Rattle.big_endian.proofs.ByteLists.{bytes_of-length}
use Rattle.geometry.specs.declared.Point.{Point}
use Rattle.geometry.specs.Plane.{Disk}
use Rattle.geometry.specs.declared.Limits.{Limits}
use Rattle.geometry.specs.EmBox.{em, old_em, in_box, all_in_box}
use Rattle.geometry.specs.Order.{before}
use Rattle.validity.specs.Valid.{one_to_three, valid_in, valid}
use Rattle.disk_checks.specs.Checks.{check_in, check_of}
use Rattle.disk_checks.proofs.CheckLaws.{passed_in, passed, passed_wider}
use Rattle.point_lists.specs.Rising.{rising}
use Rattle.record_writer.specs.Layout.{s_width, old_s_width, record_length, old_record_length, length_by, point_width, count_width}
use Rattle.record_writer.specs.Layout.{first_at, second_at, third_at, count_at}
use Rattle.record_writer.specs.Bytes.{disk_bytes, points_bytes, made_three, record_by, record_bytes, old_record_bytes}
use Rattle.record_reader.specs.Reading.{disk_in, point_in, meant, points_in, count_in, held_in, read_by, read_as, read_of}
use Rattle.validity.proofs.ValidLaws.{DiskBounds, limits, valid-disk, valid-points, counted, rises, boxed}
use Rattle.record_writer.proofs.ByteLaws.{not_four, points_bytes-length, made_three-length, record_by-length}
use Rattle.record_reader.proofs.RecordFields.{Wide, wide-em, wide_old, TwoBytes, small, ReadsAs, fields_read, fields_again}
use Rattle.record_reader.proofs.Meaning.{meant-one, meant-two, meant-three, made_meant}

-- ---- what the reader makes of a record's bytes, and of others with any count

-- the bytes of a disk and points with the count n
abbrev counting : ℕ → Disk → List Point → ℕ → List ℕ
counting w d ps n = disk_bytes w d ++ points_bytes (made_three ps) ++ bytes_of count_width n

pub record Read (w : ℕ) (bs : List ℕ) (d : Disk) (ps : List Point) (n : ℕ) : Type 0 where
  pub disk : disk_in w bs ≡ d
  pub points : points_in w bs ≡ ps
  pub count : count_in w bs ≡ n

points_read : {w : ℕ} {bs : List ℕ} {d : Disk} {a b c : Point} {n : ℕ} → ReadsAs w bs d a b c n → points_in w bs ≡ meant a b c
points_read r = λ i. meant (r.first i) (r.second i) (r.third i)

few : (ps : List Point) → one_to_three ps ≡ true → length ps < 256
few ps o = let most : length ps ≤ 3 = leb-true (length ps) 3 (rest (leb 1 (length ps)) (leb (length ps) 3) o) in omega arith

one_byte : (n : ℕ) → n < 256 → bytes_of count_width n ≡ n ∷ []
unfolding bytes_of
one_byte n h = ap (λ (k : ℕ). k ∷ []) (low n h)
  where
    low : (n : ℕ) → n < 256 → n / 1 % 256 ≡ n
    low n h = omega arith

-- two checks of one number: the second fails
second_fails : {A : Type 0} (b : Bool) (n : ℕ) → refuse_if {A = A} b n (refused n) ≡ refused n
second_fails true n = refl
second_fails false n = refl

-- two numbers that a check found equal
equal : (a b : ℕ) → not (eqb a b) ≡ false → a ≡ b
equal a b h = eqb-true a b (not-false (eqb a b) h)

module _ {w : ℕ} {l : Limits} (fit : Wide w l) where
  module _ (d : Disk) (k : DiskBounds l d) (n : ℕ) (byte : n < 256) where
    read_one : (a : Point) → TwoBytes a → Read w (counting w d (a ∷ []) n) d (a ∷ []) n
    read_one a s =
        let r = fields_read fit d k a a a s s s n byte in
        record { disk = r.disk; points = points_read r ∙ meant-one a; count = r.count }

    read_two : (a b : Point) → TwoBytes a → TwoBytes b → before a b ≡ true → Read w (counting w d (a ∷ b ∷ []) n) d (a ∷ b ∷ []) n
    read_two a b s t h =
        let r = fields_read fit d k a b b s t t n byte in
        record { disk = r.disk; points = points_read r ∙ meant-two a b h; count = r.count }

    read_three : (a b c : Point) → TwoBytes a → TwoBytes b → TwoBytes c → before b c ≡ true
        → Read w (counting w d (a ∷ b ∷ c ∷ []) n) d (a ∷ b ∷ c ∷ []) n
    read_three a b c s t u h =
        let r = fields_read fit d k a b c s t u n byte in
        record { disk = r.disk; points = points_read r ∙ meant-three a b c h; count = r.count }

    read_points : (ps : List Point) → one_to_three ps ≡ true → rising ps ≡ true → all_in_box l ps ≡ true → Read w (counting w d ps n) d ps n
    unfolding rising all_in_box
    read_points [] o r m = absurd (true≢false (sym o))
    read_points (a ∷ []) o r m = read_one a (small fit a (first (in_box l a) true m))
    read_points (a ∷ b ∷ []) o r m =
        let others = in_box l b && true in
        read_two a b (small fit a (first (in_box l a) others m)) (small fit b (first (in_box l b) true (rest (in_box l a) others m)))
        (first (before a b) true r)
    read_points (a ∷ b ∷ c ∷ []) o r m =
        let last = in_box l c && true in
        let others = in_box l b && last in
        let later = rest (in_box l a) others m in
        read_three a b c (small fit a (first (in_box l a) others m)) (small fit b (first (in_box l b) last later))
        (small fit c (first (in_box l c) true (rest (in_box l b) last later)))
        (first (before b c) true (rest (before a b) (before b c && true) r))
    read_points (a ∷ b ∷ c ∷ p ∷ ps) o r m = absurd (not_four a b c p ps o)

  module _ (d : Disk) (ps : List Point) (h : valid_in l d ps ≡ true) where
    some : one_to_three ps ≡ true
    some = counted l ps (valid-points l d ps h)

    read_counting : (n : ℕ) → n < 256 → Read w (counting w d ps n) d ps n
    read_counting n byte =
        let v = valid-points l d ps h in
        read_points d (limits l d (valid-disk l d ps h)) n byte ps some (rises l ps v) (boxed l ps v)

    pub read_fields_lem : Read w (record_by w d ps) d ps (length ps)
    unfolding record_by
    read_fields_lem = read_counting (length ps) (few ps some)

    miscounted : (n : ℕ) → n < 256 → (n ≡ length ps → ⊥) → read_by w l (counting w d ps n) ≡ refused 7
    miscounted n byte other =
        let bs = counting w d ps n in
        let r = read_counting n byte in
        let apart : count_in w bs ≡ length (points_in w bs) → ⊥ = λ e. other (sym r.count ∙ e ∙ ap length r.points) in
        rw (ne_eqb (count_in w bs) (length (points_in w bs)) apart) (second_fails (not (eqb (length bs) (length_by w))) 7)

    read_by_is : read_by w l (record_by w d ps) ≡ held_in l d ps
    read_by_is =
        let bs = record_by w d ps in
        let r = read_fields_lem in
        let agrees : count_in w bs ≡ length (points_in w bs) = r.count ∙ ap length (sym r.points) in
        rw (eq-eqb (length bs) (length_by w) (record_by-length w d ps some), eq-eqb (count_in w bs) (length (points_in w bs)) agrees)
        (ap₂ (held_in l) r.disk r.points)

-- ---- records of 53 bytes, and of 45

-- bytes that are not 45 are read as 53
not_old : (bs : List ℕ) → length bs ≡ record_length → eqb (length bs) old_record_length ≡ false
not_old bs e = ap (λ (n : ℕ). eqb n old_record_length) e

pub read_held : (d : Disk) (ps : List Point) → valid d ps ≡ true → read_of (record_bytes d ps) ≡ held_in em d ps
read_held d ps v = rw (not_old (record_bytes d ps) (record_by-length s_width d ps (some wide-em d ps v))) (read_by_is wide-em d ps v)

pub old_held : (d : Disk) (ps : List Point) → valid_in old_em d ps ≡ true → read_of (old_record_bytes d ps) ≡ held_in old_em d ps
old_held d ps v =
    rw (eq-eqb (length (old_record_bytes d ps)) old_record_length (record_by-length old_s_width d ps (some wide_old d ps v))) (read_by_is wide_old d ps v)

pub read_written : (d : Disk) (ps : List Point) → check_of d ps ≡ given tt → read_of (record_bytes d ps) ≡ given (d, ps)
read_written d ps h = read_held d ps (passed d ps h).0 ∙ rw h

pub old_written : (d : Disk) (ps : List Point) → check_in old_em d ps ≡ given tt → read_of (old_record_bytes d ps) ≡ given (d, ps)
old_written d ps h = old_held d ps (passed_in old_em d ps h).0 ∙ rw h

counting_length : (w : ℕ) (d : Disk) (ps : List Point) (n : ℕ) → one_to_three ps ≡ true → length (counting w d ps n) ≡ length_by w
counting_length w d ps n o =
    let three = points_bytes-length (made_three ps) ∙ ap (λ (k : ℕ). point_width * k) (made_three-length ps o) in
    simp (length-append, bytes_of-length, three)

pub read_miscounted : (d : Disk) (ps : List Point) → valid d ps ≡ true → (n : ℕ) → n < 256 → (n ≡ length ps → ⊥)
    → read_of (disk_bytes s_width d ++ points_bytes (made_three ps) ++ (n ∷ [])) ≡ refused 7
read_miscounted d ps v n byte other =
    ap (λ (last : List ℕ). read_of (disk_bytes s_width d ++ points_bytes (made_three ps) ++ last)) (sym (one_byte n byte))
    ∙ rw (not_old (counting s_width d ps n) (counting_length s_width d ps n (some wide-em d ps v))) (miscounted wide-em d ps v n byte other)

pub old_miscounted : (d : Disk) (ps : List Point) → valid_in old_em d ps ≡ true → (n : ℕ) → n < 256 → (n ≡ length ps → ⊥)
    → read_of (disk_bytes old_s_width d ++ points_bytes (made_three ps) ++ (n ∷ [])) ≡ refused 7
old_miscounted d ps v n byte other =
    let bs = counting old_s_width d ps n in
    ap (λ (last : List ℕ). read_of (disk_bytes old_s_width d ++ points_bytes (made_three ps) ++ last)) (sym (one_byte n byte))
    ∙ rw (eq-eqb (length bs) old_record_length (counting_length old_s_width d ps n (some wide_old d ps v))) (miscounted wide_old d ps v n byte other)

-- ---- bytes that the reader accepts

pub count_byte : (w : ℕ) (bs : List ℕ) → count_in w bs ≡ get_or bs (count_at w) 0
unfolding get
count_byte w bs = zero-add (get_or bs (count_at w) 0)

pub record Accepted (w : ℕ) (l : Limits) (bs : List ℕ) (d : Disk) (ps : List Point) : Type 0 where
  pub long : length bs ≡ length_by w
  pub disk : disk_in w bs ≡ d
  pub points : points_in w bs ≡ ps
  pub count : count_in w bs ≡ length ps
  pub fine : check_in l d ps ≡ given tt

accepted_by : (w : ℕ) (l : Limits) (bs : List ℕ) (d : Disk) (ps : List Point) → read_by w l bs ≡ given (d, ps) → Accepted w l bs d ps
accepted_by w l bs d ps h =
    let long = not_refused (not (eqb (length bs) (length_by w))) 7 h in
    let agree = not_refused (not (eqb (count_in w bs) (length (points_in w bs)))) 7 long.1 in
    let ok = both_given (check_in l (disk_in w bs) (points_in w bs)) _ (d, ps) agree.1 in
    let same = given_same ok.1.1 in
    let disk : disk_in w bs ≡ d = ap (λ (r : Disk × List Point). r.0) same in
    let points : points_in w bs ≡ ps = ap (λ (r : Disk × List Point). r.1) same in
    record {
      long = equal (length bs) (length_by w) long.0;
      disk = disk;
      points = points;
      count = equal (count_in w bs) (length (points_in w bs)) agree.0 ∙ ap length points;
      fine = sym (ap₂ (check_in l) disk points) ∙ ok.1.0;
    }

pub accepted : (bs : List ℕ) (d : Disk) (ps : List Point) → read_of bs ≡ given (d, ps)
    → Accepted s_width em bs d ps ⊎ Accepted old_s_width old_em bs d ps
accepted bs d ps h = go (eqb (length bs) old_record_length) h
  where
    go : (b : Bool) → read_as b bs ≡ given (d, ps) → Accepted s_width em bs d ps ⊎ Accepted old_s_width old_em bs d ps
    go true k = inr (accepted_by old_s_width old_em bs d ps k)
    go false k = inl (accepted_by s_width em bs d ps k)

pub read_checked : (bs : List ℕ) (d : Disk) (ps : List Point) → read_of bs ≡ given (d, ps) → check_of d ps ≡ given tt
read_checked bs d ps h = elim (accepted bs d ps h) [ inl a ↦ a.fine | inr a ↦ passed_wider d ps a.fine ]

-- the bytes that the reader is given are those of a lent slice, each below 256
module _ (bs : List ℕ) (bytes : (k : ℕ) → get_or bs k 0 < 256) where
  pub rewritten : (w : ℕ) → length bs ≡ length_by w → count_in w bs ≡ length (points_in w bs) → record_by w (disk_in w bs) (points_in w bs) ≡ bs
  unfolding record_by
  rewritten w e agrees =
      ap₂ (λ (qs : List Point) (n : ℕ). disk_bytes w (disk_in w bs) ++ points_bytes qs ++ bytes_of count_width n)
      (made_meant (point_in (first_at w) bs) (point_in (second_at w) bs) (point_in (third_at w) bs)) (sym agrees)
      ∙ fields_again bs bytes w e

  again_by : {w : ℕ} {l : Limits} {d : Disk} {ps : List Point} → Accepted w l bs d ps → record_by w d ps ≡ bs
  again_by {w} a = sym (ap₂ (record_by w) a.disk a.points) ∙ rewritten w a.long (a.count ∙ ap length (sym a.points))

  pub record_form : (d : Disk) (ps : List Point) → read_of bs ≡ given (d, ps)
      → ((check_of d ps ≡ given tt) × (record_bytes d ps ≡ bs)) ⊎ ((check_in old_em d ps ≡ given tt) × (old_record_bytes d ps ≡ bs))
  record_form d ps h = go (accepted bs d ps h)
    where
      go : Accepted s_width em bs d ps ⊎ Accepted old_s_width old_em bs d ps
          → ((check_of d ps ≡ given tt) × (record_bytes d ps ≡ bs)) ⊎ ((check_in old_em d ps ≡ given tt) × (old_record_bytes d ps ≡ bs))
      go (inl a) = inl (a.fine, again_by a)
      go (inr a) = inr (a.fine, again_by a)

  pub written_again : length bs ≡ record_length → (d : Disk) (ps : List Point) → read_of bs ≡ given (d, ps)
      → (check_of d ps ≡ given tt) × (record_bytes d ps ≡ bs)
  written_again e d ps h =
      let a = accepted_by s_width em bs d ps (subst (λ (b : Bool). read_as b bs ≡ given (d, ps)) (not_old bs e) h) in
      (a.fine, again_by a)

  pub old_again : length bs ≡ old_record_length → (d : Disk) (ps : List Point) → read_of bs ≡ given (d, ps)
      → (check_in old_em d ps ≡ given tt) × (old_record_bytes d ps ≡ bs)
  old_again e d ps h =
      let is_old = eq-eqb (length bs) old_record_length e in
      let a = accepted_by old_s_width old_em bs d ps (subst (λ (b : Bool). read_as b bs ≡ given (d, ps)) is_old h) in
      (a.fine, again_by a)

-- ---- equal records

pub record_injective : (d e : Disk) (ps qs : List Point) → valid d ps ≡ true → valid e qs ≡ true
    → record_bytes d ps ≡ record_bytes e qs → (d ≡ e) × (ps ≡ qs)
record_injective d e ps qs h k same =
    let r = read_fields_lem wide-em d ps h in
    let q = read_fields_lem wide-em e qs k in
    (sym r.disk ∙ ap (disk_in s_width) same ∙ q.disk, sym r.points ∙ ap (points_in s_width) same ∙ q.points)
