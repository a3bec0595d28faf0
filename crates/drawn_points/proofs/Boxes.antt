-- A point against the em box.
--
--   in_x, in_y                              == a coordinate lies in its range
--   boxed_beside, boxed_above               : the verdict, by the two tests
--   narrow_x, narrow_y                      : a coordinate in its range fits an i16
--   too_wide_x, too_wide_y                  : the verdict where one fits none
--   floats-judged                           : the verdict on two floats, by what each was read as: far numbers need not be told apart
use mathlib.Core.Path.{◌≡◌, refl, sym, ap, ap₂, ◌∙◌, subst}
use mathlib.Core.Bool.{Bool, true, false, not, ◌&&◌}
use Prim.Native.Nat.{◌≤◌}
use native.Mathlib.Nat.{lt_of_le_of_lt}
use borrow.Author.Tests.{lt-ltb}
use lib.Dec.{lit<}
use lib.Ieee.{Float}
use lib.IntN.{ℤ, nat_abs}
use mir.Facts.{to_z-of_z}
use mir.Syntax.{w16, w64}
use mir.Val.{SFits, to_z, of_z}
use Rattle.answers.specs.Outcome.{Outcome, given, refused, refuse_if, and_then}
use Rattle.answers.proofs.OutcomeLaws.{not_given, given_same}
use Rattle.integers.specs.Order.{between}
use Rattle.integers.proofs.Bounds.{v_abs, fits}
use Rattle.integers.proofs.Tests.{between_most}
use Rattle.geometry.specs.declared.Point.{Point}
use Rattle.geometry.specs.EmBox.{em, in_box, in_em_box, largest}
use Rattle.geometry.proofs.EmBox.{left_size, right_size, foot_size, top_size, point_size}
use Rattle.point_lists.proofs.Sets.{point_path}
use Rattle.whole_floats.specs.Whole.{whole_of}
use Rattle.whole_floats.specs.Near.{far, near, near_of}
use Rattle.whole_floats.proofs.NearLaws.{near-between}
use Rattle.drawn_points.specs.declared.DrawnPoint.TheVariants.{Drawn}
use Rattle.drawn_points.specs.Judging.{boxed, judged}

-- x, and y, lies in its range
abbrev in_x : ℤ → Bool
in_x x = between em.left x em.right

abbrev in_y : ℤ → Bool
in_y y = between em.foot y em.top

boxed_beside : (x y : ℤ) → in_x x ≡ false → boxed (record { x = x; y = y }) ≡ refused 3
unfolding in_box
boxed_beside x y h = rw h

boxed_above : (x y : ℤ) → in_x x ≡ true → in_y y ≡ false → boxed (record { x = x; y = y }) ≡ refused 3
unfolding in_box
boxed_above x y h k = rw (h, k)

narrow_x : (x : ℤ) → in_x x ≡ true → SFits w16 x
narrow_x x h = fits (v_abs {n = largest em} (between_most em.left x em.right (left_size em) (right_size em) h)) tt

narrow_y : (y : ℤ) → in_y y ≡ true → SFits w16 y
narrow_y y h = fits (v_abs {n = largest em} (between_most em.foot y em.top (foot_size em) (top_size em) h)) tt

-- a coordinate that fits no i16, as the machine reads it back, is outside
wide_x : (x y : ℤ) (b : Bool) → in_x x ≡ b → (SFits w16 x → ⊥) → refused 3 ≡ boxed (record { x = x; y = y })
wide_x x y true h f = absurd (f (narrow_x x h))
wide_x x y false h f = sym (boxed_beside x y h)

wide_y : (x y : ℤ) (a b : Bool) → in_x x ≡ a → in_y y ≡ b → (SFits w16 y → ⊥) → refused 3 ≡ boxed (record { x = x; y = y })
wide_y x y false b h k f = sym (boxed_beside x y h)
wide_y x y true true h k f = absurd (f (narrow_y y k))
wide_y x y true false h k f = sym (boxed_above x y h k)

pub too_wide_x : (x y : ℤ) → SFits w64 x → (SFits w16 (to_z w64 (of_z w64 x)) → ⊥) → refused 3 ≡ boxed (record { x = x; y = y })
too_wide_x x y s f = wide_x x y (in_x x) refl (λ g. f (subst (SFits w16) (sym (to_z-of_z s)) g))

pub too_wide_y : (x y : ℤ) → SFits w64 y → (SFits w16 (to_z w64 (of_z w64 y)) → ⊥) → refused 3 ≡ boxed (record { x = x; y = y })
too_wide_y x y s f = wide_y x y (in_x x) (in_y y) refl refl (λ g. f (subst (SFits w16) (sym (to_z-of_z s)) g))

-- ---- far coordinates

abbrev nearby : Point → Point
nearby p = record { x = near p.x; y = near p.y }

near_in_box : (p : Point) → in_em_box (nearby p) ≡ in_em_box p
unfolding in_box
near_in_box p =
    ap₂ ◌&&◌ (near-between em.left p.x em.right (left_size em) (right_size em) (lit< tt))
    (near-between em.foot p.y em.top (foot_size em) (top_size em) (lit< tt))

near_itself : (z : ℤ) → nat_abs z ≤ largest em → near z ≡ z
near_itself z h = rw (lt-ltb (nat_abs z) far (lt_of_le_of_lt h (lit< tt)))

near-boxed : (p : Point) → boxed (nearby p) ≡ boxed p
near-boxed p = ap (λ (b : Bool). refuse_if (not b) 3 (given (nearby p))) (near_in_box p) ∙ go (in_em_box p) refl
  where
    go : (b : Bool) → in_em_box p ≡ b → refuse_if (not b) 3 (given (nearby p)) ≡ refuse_if (not b) 3 (given p)
    go false e = refl
    go true e = let s = point_size em p e in ap given (point_path (near_itself p.x s.0) (near_itself p.y s.1))

-- ---- two floats, read

pub floats-judged : (x y : Float) (a b : ℤ) → given a ≡ near_of x → given b ≡ near_of y → boxed (record { x = a; y = b }) ≡ judged (Drawn x y)
floats-judged x y a b h k = go (whole_of x) (whole_of y) h k
  where
    go : (o q : Outcome ℤ) → given a ≡ and_then o (λ z. given (near z)) → given b ≡ and_then q (λ z. given (near z))
        → boxed (record { x = a; y = b }) ≡ and_then (and_then o (λ u. and_then q (λ w. given (record { x = u; y = w })))) boxed
    go (given u) (given w) h k = ap boxed (point_path (given_same h) (given_same k)) ∙ near-boxed (record { x = u; y = w })
    go (given u) (refused n) h k = absurd (not_given (sym k))
    go (refused m) q h k = absurd (not_given (sym h))
