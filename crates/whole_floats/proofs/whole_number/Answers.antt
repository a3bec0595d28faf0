-- `whole_floats::whole_number` meets its contract: between −2^53 and 2^53 the whole part as a float tells whether there is a fraction; beyond
-- them a finite float has none.
use Rattle.std.proofs.Common.{◌≡◌, Bool, true, false, T, ℤ, sym, refl, ap, ◌∙◌, subst, inl, inr, to_z-of_z, w64, to_z, of_z}
use Rattle.std.specs.Bool.{passes, then_some}
use Prim.Native.Nat.{◌^◌, ◌<◌}
use lib.Signed.{mag}
use lib.Ieee.{Float, binary64, of_bits, of_int, neg, eq, lt, in_float, to_signed}
use Rattle.whole_floats.specs.Near.{near_of, whole_or_11}
use Rattle.whole_floats.proofs.Sizes.{edge, minus_edge}
use Rattle.whole_floats.proofs.NearLaws.{within_i64, back_in_float, back_same, back_other, answer-beyond}
use Rattle.whole_floats.proofs.whole_number.Goals as goal
use Rattle.whole_floats.proofs.whole_number.Goals.{else-v-via-then-v+else-v-2, else-v-via-else-v}

-- the edges, as the code's tests have them
abbrev Below : Float → Type 0
Below v = lt v (of_bits binary64 4845873199050653696) ≡ true

abbrev Above : Float → Type 0
Above v = lt (neg (of_bits binary64 4845873199050653696)) v ≡ true

below : (v : Float) → Below v → lt v edge ≡ true
unfolding of_bits
below v h = h

above : (v : Float) → Above v → lt minus_edge v ≡ true
unfolding of_bits neg
above v h = h

pub truncating_f64_to_i64-whole-requires : goal.truncating_f64_to_i64-whole-requires
truncating_f64_to_i64-whole-requires c =
    let h = within_i64 c.args.v (below c.args.v c.if-v.true) (above c.args.v c.if-v-2.true) in
    record { lower_bound = h.0; upper_bound = h.1 }

-- the cast gave z, and the machine reads it back as m
reads : (v : Float) (z : ℤ) → mag z < 2 ^ 63 → z ≡ to_signed 63 v → to_z w64 (of_z w64 z) ≡ to_signed 63 v
reads v z f e = to_z-of_z {w = w64} (record { sfits = f }) ∙ e

module _ (v : Float) (m : ℤ) (e : m ≡ to_signed 63 v) (b : Below v) (a : Above v) where
  cast_back : T (in_float binary64 m)
  cast_back = subst (λ (z : ℤ). T (in_float binary64 z)) (sym e) (back_in_float v (below v b) (above v a))

  answer : (t : Bool) → eq (of_int binary64 m) v ≡ t → whole_or_11 (then_some t m) ≡ near_of v
  answer true t = ap (λ (z : ℤ). whole_or_11 (then_some true z)) e
      ∙ back_same v (below v b) (above v a) (ap (λ (z : ℤ). eq (of_int binary64 z) v) (sym e) ∙ t)
  answer false t = back_other v (below v b) (above v a) (ap (λ (z : ℤ). eq (of_int binary64 z) v) (sym e) ∙ t)

pub int_to_float-whole : goal.int_to_float-whole
int_to_float-whole c =
    let k = c.truncating_f64_to_i64-whole in
    cast_back c.args.v _ (reads c.args.v k.result k.type_inv k.ensures) c.if-v.true c.if-v-2.true

pub returns-then-v-2 : goal.returns-then-v-2
returns-then-v-2 c =
    let k = c.truncating_f64_to_i64-whole in
    ap whole_or_11 c.then_some.ensures ∙ answer c.args.v _ (reads c.args.v k.result k.type_inv k.ensures) c.if-v.true c.if-v-2.true _ refl

pub returns : goal.returns
unfolding of_bits neg
returns c =
    ap whole_or_11 c.then_some-2.ensures
    ∙ answer-beyond c.args.v (passes _ c.well_formed.0.1) c.is_finite.result c.is_finite.ensures
    (elim c.else-v.branch [ else-v-via-then-v+else-v-2 w ↦ inr w.if-v-2.false | else-v-via-else-v w ↦ inl w.if-v.false ])
