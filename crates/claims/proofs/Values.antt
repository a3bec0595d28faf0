-- What the calls give is what specs/Values.antt says.
--
--   glyph_part, part_glyph  : the bytes of glyph k are its part of the sheet
--   radius_least            : the whole radius is least
--   least_same              : and only one number is
--   right, right_same       : the preview is right, and no other is
--   bits_back               : its bits are those of its values
--   all_values              : Values
use mathlib.Core.Path.{◌≡◌, refl, sym, ap, ◌∙◌, subst}
use mathlib.Core.Logic.{◌↔◌, ◌⊎◌, inl, inr}
use mathlib.Core.Bool.{false}
use mathlib.Core.List.{List, [], ◌∷◌, ◌++◌}
use Prim.Native.Nat.{ℕ, ◌*◌, ◌≤◌}
use native.Mathlib.Nat.{le_antisymm, le_trans, le_of_eq, mul-le-mul_right}
use native.Mathlib.Omega.{arith}
use borrow.Author.Tests.{lt-ltb, ltb-true}
use lib.Dec.{T}
use lib.IntN.{ℤ, pos, nat_abs, ◌*ℤ◌}
use lib.ListN.{length, take, drop, take-append-drop}
use lib.Seq.{length-take-le, take_at, drop_at}
use lib.Signed.{le_z}
use lib.Ieee.{Float, binary64, of_int}
use lib.Ieee.Bits.{of_bits-to_bits}
use lib.Ieee.Fits.{div-fits, of_int-fits}
use lib.Ieee.Scale.{finite}
use Rattle.answers.specs.Outcome.{Outcome, given, refused, and_then}
use Rattle.answers.proofs.OutcomeLaws.{not_given, given_same, both_given}
use Rattle.integers.proofs.Abs.{abs_*}
use Rattle.integers.proofs.LeastLaws.{least_most}
use Rattle.integers.specs.Order.{◌≼◌}
use Rattle.integers.proofs.Tests.{both, test_true, between_most}
use Rattle.geometry.specs.declared.Point.{Point}
use Rattle.geometry.specs.Plane.{Disk}
use Rattle.geometry.specs.Points.{flat}
use Rattle.geometry.specs.EmBox.{em, old_em, largest}
use Rattle.geometry.proofs.EmBox.{left_size, right_size, foot_size, top_size}
use Rattle.geometry.proofs.PointLists.{length-flat}
use Rattle.description.specs.Description.{named, load_of, list_after}
use Rattle.description.proofs.Loading.{after_given}
use Rattle.description.proofs.AcceptedTexts.{accepted_count}
use Rattle.directory.specs.declared.Place.{Place}
use Rattle.sheet.specs.Sheet.{glyph_of, part_of}
use Rattle.sheet.proofs.Parts.{given_pair, given_within, given_part}
use Rattle.belonging.specs.Belonging.{Belong}
use Rattle.disk_checks.specs.Checks.{check_in, check_of}
use Rattle.disk_checks.proofs.CheckLaws.{passed}
use Rattle.record_writer.specs.Bytes.{record_bytes, old_record_bytes}
use Rattle.record_writer.specs.Writing.{left_by}
use Rattle.record_reader.specs.Reading.{read_of}
use Rattle.radius.specs.Radius.{whole_radius, radius_of}
use Rattle.record_reader.proofs.RoundTrip.{read_written, old_written, record_form}
use Rattle.radius.proofs.RadiusLaws.{radius_is_least}
use Rattle.validity.proofs.ValidLaws.{valid-disk}
use Rattle.preview.specs.declared.Preview.{Preview}
use Rattle.preview.specs.Preview.{negative, quotient, floats, preview_of}
use Rattle.preview.proofs.Exact.{preview_exact}
use Rattle.preview.proofs.Finite.{has-finite, round-finite}
use Rattle.rules.specs.Row.{AllKept, GoesBy}
use Rattle.rules.specs.Rules.{Bytes, loader_row, sheet_row, Recordable, IsRecordOf, current, old}
use Rattle.record_writer.proofs.ByteLaws.{record_long}
use Rattle.claims.proofs.Records.{written_checked}
use Rattle.claims.specs.Values.{glyph_bytes, IsPart, LeastRadius, PreviewIsRight, bits, shown_by, Values}
use Rattle.rules.proofs.RowLaws.{row-through}
use Rattle.rules.proofs.Recordables.{recordable_valid, checked_in, rules_in, checked_rules, rules_checked}
use Rattle.rules.proofs.Calls as calls

-- ---- a glyph

module _ (s : List ℕ) (k : ℕ) (bs : List ℕ) where
  part_given : (p : Place) → glyph_of s k ≡ given p → part_of s p.start p.len ≡ bs → AllKept (sheet_row s k) × IsPart s k bs
  part_given p e same =
      let part = given_part s k p e in
      let place = (given_pair s k p e).place in
      let within = (given_within s k p e).1 in
      let behind = drop p.start s in
      let back = drop p.len behind in (
        (calls.sheet s k).taken.0 (p, e),
        record {
          front = take p.start s;
          back = back;
          parted =
              sym (take-append-drop p.start s)
              ∙ ap {B = List ℕ} (λ (r : List ℕ). take p.start s ++ r)
              (sym (take-append-drop p.len behind) ∙ ap {B = List ℕ} (λ (r : List ℕ). r ++ back) (sym part.0 ∙ same));
          starts = length-take-le p.start s (omega (arith, within)) ∙ ap (λ (q : Place). q.start) place;
          long = ap length (sym same) ∙ part.1 ∙ ap (λ (q : Place). q.len) place;
        },
      )

  glyph_part : glyph_bytes s k ≡ given bs → AllKept (sheet_row s k) × IsPart s k bs
  glyph_part h = go (glyph_of s k) refl h
    where
      go : (o : Outcome Place) → glyph_of s k ≡ o → and_then o (λ p. given (part_of s p.start p.len)) ≡ given bs → AllKept (sheet_row s k) × IsPart s k bs
      go (given p) e g = part_given p e (given_same g)
      go (refused n) e g = absurd (not_given g)

  part_glyph : AllKept (sheet_row s k) × IsPart s k bs → glyph_bytes s k ≡ given bs
  part_glyph h =
      let t = (calls.sheet s k).taken.1 h.0 in
      let p = t.0 in
      let e = t.1 in
      let i = h.1 in
      let place = (given_pair s k p e).place in
      let behind : drop p.start s ≡ bs ++ i.back =
      ap (drop p.start) i.parted ∙ drop_at i.front (bs ++ i.back) p.start (i.starts ∙ sym (ap (λ (q : Place). q.start) place)) in
      let here : take p.len (drop p.start s) ≡ bs =
      ap (take p.len) behind ∙ take_at bs i.back p.len (i.long ∙ sym (ap (λ (q : Place). q.len) place)) in
      ap (λ (o : Outcome Place). and_then o (λ q. given (part_of s q.start q.len))) e ∙ ap given ((given_part s k p e).0 ∙ here)

after_glyph : (s : List ℕ) (k : ℕ) → GoesBy (sheet_row s k) (glyph_bytes s k)
after_glyph s k = row-through (glyph_of s k) (glyph_bytes s k) (calls.sheet s k) (λ p e. (part_of s p.start p.len, ap after e)) (λ n e. ap after e)
  where
    after : Outcome Place → Outcome (List ℕ)
    after o = and_then o (λ p. given (part_of s p.start p.len))

-- ---- the whole radius

radius_least : (d : Disk) → 1 ≤ d.e → LeastRadius d (whole_radius d)
radius_least d h = let l = radius_is_least d h in record {
  clears = ltb-true d.s (whole_radius d * whole_radius d * (d.e * d.e)) l.passes;
  least = λ q more. least_most l (lt-ltb d.s (q * q * (d.e * d.e)) more);
}

pub least_same : (d : Disk) (r q : ℕ) → LeastRadius d r → LeastRadius d q → r ≡ q
least_same d r q a b = le_antisymm (a.least q b.clears) (b.least r a.clears)

radius : (d : Disk) (ps : List Point) (r : ℕ) → (radius_of d ps ≡ given r) ↔ (Recordable d ps × Belong d ps × LeastRadius d r)
radius d ps r = (
  λ e. let g = both_given (check_of d ps) _ r e in
      let k = checked_rules d ps g.1.0 in
      (k.0, k.1, subst (LeastRadius d) (given_same g.1.1) (radius_least d k.0.e_some)),
  λ h. rw (rules_checked d ps h.0 h.1) (ap given (least_same d (whole_radius d) r (radius_least d h.0.e_some) h.2)),
)

-- ---- the preview

module _ (d : Disk) (ps : List Point) (h : Recordable d ps) where
  size : (lo z hi : ℤ) → nat_abs lo ≤ largest em → nat_abs hi ≤ largest em → lo *ℤ pos d.e ≼ z → z ≼ hi *ℤ pos d.e → nat_abs z ≤ largest em * d.e
  size lo z hi m n l k =
      between_most (lo *ℤ pos d.e) z (hi *ℤ pos d.e) (scaled lo m) (scaled hi n)
      (both (test_true (le_z (lo *ℤ pos d.e) z) l.le) (test_true (le_z z (hi *ℤ pos d.e)) k.le))
    where
      scaled : (z : ℤ) → nat_abs z ≤ largest em → nat_abs (z *ℤ pos d.e) ≤ largest em * d.e
      scaled z m = le_trans (le_of_eq (abs_* z (pos d.e))) (mul-le-mul_right d.e m)

  pub x_size : nat_abs d.x ≤ largest em * d.e
  x_size = size em.left d.x em.right (left_size em) (right_size em) h.within.x_low h.within.x_high

  pub y_size : nat_abs d.y ≤ largest em * d.e
  y_size = size em.foot d.y em.top (foot_size em) (top_size em) h.within.y_low h.within.y_high

  right : PreviewIsRight d (floats d (whole_radius d))
  right =
      let x = preview_exact d (valid-disk em d ps (recordable_valid em d ps h)) in
      record {
        x_rounded = record {
          over = x.x_exact;
          under = x.e_exact;
          divided = refl;
          once = x.x_once;
          is_finite = subst (λ (v : Float). T (finite v)) (sym x.x_once) (round-finite (nat_abs d.x) d.e h.e_some x_size (negative d.x));
        };
        y_rounded = record {
          over = x.y_exact;
          under = x.e_exact;
          divided = refl;
          once = x.y_once;
          is_finite = subst (λ (v : Float). T (finite v)) (sym x.y_once) (round-finite (nat_abs d.y) d.e h.e_some y_size (negative d.y));
        };
        whole = whole_radius d;
        is_least = radius_least d h.e_some;
        radius_converted = refl;
        radius_exact = x.r_exact;
        radius_finite = has-finite (of_int binary64 (pos (whole_radius d))) false (whole_radius d) 1 x.r_exact;
      }

  -- the preview of a disk is one
  right_same : (p : Preview) → PreviewIsRight d p → floats d (whole_radius d) ≡ p
  right_same p r =
      let same : whole_radius d ≡ r.whole = least_same d (whole_radius d) r.whole (radius_least d h.e_some) r.is_least in
      λ i. record {
        x = sym r.x_rounded.divided i;
        y = sym r.y_rounded.divided i;
        radius = (ap (λ (w : ℕ). of_int binary64 (pos w)) same ∙ sym r.radius_converted) i;
      }

preview : (d : Disk) (ps : List Point) (p : Preview) → (preview_of d ps ≡ given p) ↔ (Recordable d ps × Belong d ps × PreviewIsRight d p)
preview d ps p = (
  λ e. let g = both_given (check_of d ps) _ p e in
      let k = checked_rules d ps g.1.0 in
      (k.0, k.1, subst (PreviewIsRight d) (given_same g.1.1) (right d ps k.0)),
  λ h. rw (rules_checked d ps h.0 h.1) (ap given (right_same d ps h.0 p h.2)),
)

-- ---- bits

abbrev values : Preview → List Float
values p = p.x ∷ p.y ∷ p.radius ∷ []

bits_back : (d : Disk) (ps : List Point) (p : Preview) → preview_of d ps ≡ given p → shown_by (bits p) ≡ values p
bits_back d ps p e =
    let g = both_given (check_of d ps) _ p e in
    let n = of_int binary64 (pos d.e) in
    subst (λ (q : Preview). shown_by (bits q) ≡ values q) (given_same g.1.1)
    (λ i. of_bits-to_bits binary64 (quotient d.x d.e) (div-fits binary64 (of_int binary64 d.x) n) i
    ∷ of_bits-to_bits binary64 (quotient d.y d.e) (div-fits binary64 (of_int binary64 d.y) n) i
    ∷ of_bits-to_bits binary64 (of_int binary64 (pos (whole_radius d))) (of_int-fits binary64 (pos (whole_radius d))) i
    ∷ [])

same_values : (p q : Preview) → values p ≡ values q → p ≡ q
same_values p q e =
    let x : p.x ≡ q.x = cc in
    let y : p.y ≡ q.y = cc in
    let r : p.radius ≡ q.radius = cc in
    λ i. record { x = x i; y = y i; radius = r i }

-- ---- the loader and the reader

loader : (t : List ℕ) (l : List ℤ) (n : ℕ) → (load_of t l ≡ given n) ↔ (AllKept (loader_row t l) × (n ≡ length (named t)))
loader t l n = (
  λ e. ((calls.loader t l).taken.0 (n, e), accepted_count t l n e),
  λ h. let g = (calls.loader t l).taken.1 h.0 in g.1 ∙ ap given (accepted_count t l g.0 g.1 ∙ sym h.1),
)

loader_list : (t : List ℕ) (l : List ℤ) (n : ℕ) → load_of t l ≡ given n → list_after t l ≡ flat (named t) ++ drop (2 * n) l
loader_list t l n e =
    after_given t l n e
    ∙ ap (λ (k : ℕ). flat (named t) ++ drop k l) (length-flat (named t) ∙ ap (λ (k : ℕ). 2 * k) (sym (accepted_count t l n e)))

reader : (bs : List ℕ) → Bytes bs → (d : Disk) (ps : List Point) → (read_of bs ≡ given (d, ps)) ↔ (IsRecordOf d ps bs × Belong d ps)
reader bs bytes d ps = (λ e. is_record (record_form bs bytes d ps e), λ h. is_read h.0 h.1)
  where
    is_record : ((check_of d ps ≡ given tt) × (record_bytes d ps ≡ bs)) ⊎ ((check_in old_em d ps ≡ given tt) × (old_record_bytes d ps ≡ bs))
        → IsRecordOf d ps bs × Belong d ps
    is_record (inl w) = let k = checked_rules d ps w.0 in (current k.0 (sym w.1), k.1)
    is_record (inr w) = let k = checked_in old_em d ps w.0 in (old k.0 (sym w.1), k.1)

    is_read : IsRecordOf d ps bs → Belong d ps → read_of bs ≡ given (d, ps)
    is_read (current r e) b = ap read_of e ∙ read_written d ps (rules_checked d ps r b)
    is_read (old r e) b = ap read_of e ∙ old_written d ps (rules_in old_em d ps r b)

pub all_values : Values
all_values = record {
  loader = loader;
  loader_list = loader_list;
  reader = reader;
  writer = λ d ps b e. (record_long d ps (passed d ps (written_checked d ps b e).1).0, ap (λ (o : Outcome (Unit {0})). left_by o d ps b) e);
  glyph_refusals = λ s k. after_glyph s k;
  glyph = λ s k bs. (glyph_part s k bs, part_glyph s k bs);
  radius = radius;
  preview = preview;
  preview_bits = bits_back;
  previews_compared = λ d e ps qs p q a b. (
    λ same. same_values p q (sym (bits_back d ps p a) ∙ ap shown_by same ∙ bits_back e qs q b),
    ap bits,
  );
}
