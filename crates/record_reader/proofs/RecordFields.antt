-- A record as its eleven fields, and the fields of any bytes of its length; w is how many bytes S has.
--
--   Wide w l               == numbers that keep to the limits l fit their fields
--   wide-em, wide_old      : 16 bytes for S are enough by the limits of the em, 8 by those of records of 45 bytes
--   TwoBytes p             == the point's numbers are ones of 2 bytes
--   small                  : those of a point in the box are
--   ReadsAs w bs d a b c n == in bs the disk d, the points a, b, c and the count n are read
--   fields_read            : they are, in their own bytes
--   fields_again           : what is read in any bytes of a record's length, written, is these bytes
use mathlib.Core.Path.{◌≡◌, refl, sym, ap, ◌∙◌, subst}
use mathlib.Core.Bool.{true}
use mathlib.Core.List.{List, [], ◌∷◌, ◌++◌, append_assoc, append-nil}
use Prim.Native.Nat.{ℕ, ◌+◌, ◌*◌, ◌^◌, ◌<◌}
use native.Mathlib.Nat.{zero-add, mul-le-mul, le_refl, le_trans, le_of_eq, lt_of_le_of_lt}
use native.Mathlib.Omega.{arith}
use lib.Dec.{T, ltb, lit≤}
use lib.IntN.{ℤ}
use lib.ListN.{length, get_or}
use lib.Seq.{take_all}
use lib.Signed.{mag}
use mir.Syntax.{w16, w64}
use Rattle.integers.proofs.Bounds.{v_abs, fits}
use Rattle.big_endian.specs.Fields.{bytes_of, get}
use Rattle.twos_complement.specs.Twos.{half, twos, back}
use Rattle.big_endian.proofs.ByteLists.{get_lt}
use Rattle.twos_complement.proofs.TwosLaws.{twos_lt, back-twos, twos_back}
use Rattle.geometry.specs.declared.Point.{Point}
use Rattle.geometry.specs.declared.Limits.{Limits}
use Rattle.geometry.specs.Plane.{Disk}
use Rattle.geometry.specs.EmBox.{em, old_em, in_box, largest}
use Rattle.geometry.proofs.EmBox.{point_size}
use Rattle.record_writer.specs.Layout.{length_by, point_width, coordinate_width, count_width, s_width, old_s_width, number_width}
use Rattle.record_writer.specs.Layout.{first_at, second_at, third_at, x_at, y_at}
use Rattle.record_writer.specs.Bytes.{disk_bytes, points_bytes}
use Rattle.record_reader.specs.Reading.{disk_in, point_in, count_in}
use Rattle.validity.proofs.ValidLaws.{DiskBounds}
use Rattle.big_endian.proofs.Joined.{Field, joined, total, Fit, joined_read, read_joined}

-- ---- a record as its fields

abbrev number : ℕ → Field
number n = record { width = number_width; number = n }

abbrev narrow : ℤ → Field
narrow z = record { width = coordinate_width; number = twos coordinate_width z }

abbrev single : ℕ → Field
single n = record { width = count_width; number = n }

abbrev fields : ℕ → Disk → Point → Point → Point → ℕ → List Field
fields w d a b c n =
    number (twos number_width d.x) ∷ number (twos number_width d.y) ∷ number d.e ∷ record { width = w; number = d.s }
    ∷ narrow a.x ∷ narrow a.y ∷ narrow b.x ∷ narrow b.y ∷ narrow c.x ∷ narrow c.y
    ∷ single n ∷ []

record_joined : (w : ℕ) (d : Disk) (a b c : Point) (n : ℕ)
    → disk_bytes w d ++ points_bytes (a ∷ b ∷ c ∷ []) ++ bytes_of count_width n ≡ joined (fields w d a b c n)
record_joined w d a b c n = simp (append_assoc, append-nil)

-- ---- each number is one of its width

pub record TwoBytes (p : Point) : Type 0 where
  pub x_small : mag p.x < half coordinate_width
  pub y_small : mag p.y < half coordinate_width

pub record Wide (w : ℕ) (l : Limits) : Type 0 where
  pub point_fits : T (ltb (largest l) (2 ^ 15))
  pub centre_fits : T (ltb (largest l * l.scale) (2 ^ 63))
  pub scale_fits : l.scale < 2 ^ 64
  pub square_fits : l.square * (l.scale * l.scale) < 2 ^ (8 * w)

pub wide-em : Wide s_width em
wide-em = record { point_fits = tt; centre_fits = tt; scale_fits = lit≤ tt; square_fits = lit≤ tt }

pub wide_old : Wide old_s_width old_em
wide_old = record { point_fits = tt; centre_fits = tt; scale_fits = lit≤ tt; square_fits = lit≤ tt }

module _ {w : ℕ} {l : Limits} (fit : Wide w l) where
  pub small : (p : Point) → in_box l p ≡ true → TwoBytes p
  small p h =
      let s = point_size l p h in
      record {
        x_small = (fits {w = w16} (v_abs {z = p.x} s.0) fit.point_fits).sfits;
        y_small = (fits {w = w16} (v_abs {z = p.y} s.1) fit.point_fits).sfits;
      }

  module _ (d : Disk) (k : DiskBounds l d) where
    x_mag : mag d.x < half number_width
    x_mag = (fits {w = w64} (v_abs {z = d.x} k.x_small) fit.centre_fits).sfits

    y_mag : mag d.y < half number_width
    y_mag = (fits {w = w64} (v_abs {z = d.y} k.y_small) fit.centre_fits).sfits

    fields_fit : (a b c : Point) → TwoBytes a → TwoBytes b → TwoBytes c → (n : ℕ) → n < 256 → Fit (fields w d a b c n)
    fields_fit a b c f g h n few =
        let e_fits : d.e < 2 ^ 64 = lt_of_le_of_lt k.e_small fit.scale_fits in
        let s_fits : d.s < 2 ^ (8 * w) =
        lt_of_le_of_lt (le_trans k.s_small (mul-le-mul (le_refl l.square) (mul-le-mul k.e_small k.e_small))) fit.square_fits in (
          twos_lt number_width d.x x_mag,
          (
            twos_lt number_width d.y y_mag,
            (
              e_fits,
              (
                s_fits,
                (
                  twos_lt coordinate_width a.x f.x_small,
                  (
                    twos_lt coordinate_width a.y f.y_small,
                    (
                      twos_lt coordinate_width b.x g.x_small,
                      (
                        twos_lt coordinate_width b.y g.y_small,
                        (twos_lt coordinate_width c.x h.x_small, (twos_lt coordinate_width c.y h.y_small, (few, tt))),
                      ),
                    ),
                  ),
                ),
              ),
            ),
          ),
        )

-- ---- what is read in the fields of a disk, three points and a count

pub record ReadsAs (w : ℕ) (bs : List ℕ) (d : Disk) (a b c : Point) (n : ℕ) : Type 0 where
  pub disk : disk_in w bs ≡ d
  pub first : point_in (first_at w) bs ≡ a
  pub second : point_in (second_at w) bs ≡ b
  pub third : point_in (third_at w) bs ≡ c
  pub count : count_in w bs ≡ n

-- places behind the first point, reached two bytes at a time
module _ (f : ℕ) where
  at_second : f + 2 + 2 ≡ f + point_width
  at_second = omega arith

  in_second : f + 2 + 2 + 2 ≡ f + point_width + 2
  in_second = omega arith

  at_third : f + 2 + 2 + 2 + 2 ≡ f + 2 * point_width
  at_third = omega arith

  in_third : f + 2 + 2 + 2 + 2 + 2 ≡ f + 2 * point_width + 2
  in_third = omega arith

  at_count : f + 2 + 2 + 2 + 2 + 2 + 2 ≡ f + 3 * point_width
  at_count = omega arith

moved : (k : ℕ) (xs : List ℕ) {a b v : ℕ} → a ≡ b → get k 0 a xs ≡ v → get k 0 b xs ≡ v
moved k xs {v = v} e h = subst (λ (i : ℕ). get k 0 i xs ≡ v) e h

point_read : (p : Point) (at : ℕ) (bs : List ℕ) → TwoBytes p → get coordinate_width 0 at bs ≡ twos coordinate_width p.x
    → get coordinate_width 0 (at + coordinate_width) bs ≡ twos coordinate_width p.y
    → point_in at bs ≡ p
point_read p at bs s x y = λ i. record {
  x = (ap (back coordinate_width) x ∙ back-twos coordinate_width p.x s.x_small) i;
  y = (ap (back coordinate_width) y ∙ back-twos coordinate_width p.y s.y_small) i;
}

pub fields_read : {w : ℕ} {l : Limits} (fit : Wide w l) (d : Disk) → DiskBounds l d
    → (a b c : Point) → TwoBytes a → TwoBytes b → TwoBytes c → (n : ℕ) → n < 256
    → ReadsAs w (disk_bytes w d ++ points_bytes (a ∷ b ∷ c ∷ []) ++ bytes_of count_width n) d a b c n
fields_read {w} fit d k a b c f g h n few =
    let bs = joined (fields w d a b c n) in
    let r = joined_read [] (fields w d a b c n) (fields_fit fit d k a b c f g h n few) in
    let q = r.1.1.1.1 in
    let f_at = first_at w in
    let at = q.1.1 in
    subst (λ (xs : List ℕ). ReadsAs w xs d a b c n) (sym (record_joined w d a b c n))
    (record {
      disk = λ i. record {
        x = (ap (back number_width) r.0 ∙ back-twos number_width d.x (x_mag fit d k)) i;
        y = (ap (back number_width) r.1.0 ∙ back-twos number_width d.y (y_mag fit d k)) i;
        e = r.1.1.0 i;
        s = r.1.1.1.0 i;
      };
      first = point_read a (first_at w) bs f q.0 q.1.0;
      second = point_read b (second_at w) bs g (moved coordinate_width bs (at_second f_at) at.0) (moved coordinate_width bs (in_second f_at) at.1.0);
      third =
          point_read c (third_at w) bs h (moved coordinate_width bs (at_third f_at) at.1.1.0) (moved coordinate_width bs (in_third f_at) at.1.1.1.0);
      count = moved count_width bs (at_count f_at) at.1.1.1.1.0;
    })

-- ---- the fields of any bytes of a record's length, joined again

module _ (bs : List ℕ) (bytes : (k : ℕ) → get_or bs k 0 < 256) where
  signed_again : (at : ℕ) → get number_width 0 at bs ≡ twos number_width (back number_width (get number_width 0 at bs))
  signed_again at = sym (twos_back number_width (get number_width 0 at bs) (get_lt bs bytes number_width at))

  coordinate_again : (at : ℕ) → get coordinate_width 0 at bs ≡ twos coordinate_width (back coordinate_width (get coordinate_width 0 at bs))
  coordinate_again at = sym (twos_back coordinate_width (get coordinate_width 0 at bs) (get_lt bs bytes coordinate_width at))

  pub fields_again : (w : ℕ) → length bs ≡ length_by w
      → disk_bytes w (disk_in w bs)
      ++ points_bytes (point_in (first_at w) bs ∷ point_in (second_at w) bs ∷ point_in (third_at w) bs ∷ [])
      ++ bytes_of count_width (count_in w bs)
      ≡ bs
  fields_again w e =
      let a = point_in (first_at w) bs in
      let b = point_in (second_at w) bs in
      let c = point_in (third_at w) bs in
      let fs = fields w (disk_in w bs) a b c (count_in w bs) in
      let f_at = first_at w in
      let size : total fs ≡ length_by w = omega arith in
      record_joined w (disk_in w bs) a b c (count_in w bs)
      ∙ read_joined bs bytes 0 fs (
        signed_again x_at,
        (
          signed_again y_at,
          (
            refl,
            (
              refl,
              (
                coordinate_again (first_at w),
                (
                  coordinate_again (first_at w + coordinate_width),
                  (
                    moved coordinate_width bs (sym (at_second f_at)) (coordinate_again (second_at w)),
                    (
                      moved coordinate_width bs (sym (in_second f_at)) (coordinate_again (second_at w + coordinate_width)),
                      (
                        moved coordinate_width bs (sym (at_third f_at)) (coordinate_again (third_at w)),
                        (
                          moved coordinate_width bs (sym (in_third f_at)) (coordinate_again (third_at w + coordinate_width)),
                          (moved count_width bs (sym (at_count f_at)) refl, tt),
                        ),
                      ),
                    ),
                  ),
                ),
              ),
            ),
          ),
        ),
      )
      (le_of_eq (zero-add (total fs) ∙ size ∙ sym e))
      ∙ take_all (total fs) bs (le_of_eq (e ∙ sym size))
