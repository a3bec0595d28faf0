-- `lowest_disks::written` meets its contract: reducing keeps the numbers small, and q added to the reduced centre leaves it in lowest terms.
use mathlib.Core.Path.{◌≡◌, ap, ap₂, ◌∙◌}
use Prim.Native.Nat.{ℕ, ◌*◌, ◌≤◌, ◌<◌}
use native.Mathlib.Nat.{le_trans, le_of_eq, div-le_self}
use native.Mathlib.Omega.{arith}
use lib.IntN.{ℤ, pos, nat_abs, ◌+ℤ◌, ◌*ℤ◌}
use mir.Syntax.{w64}
use mir.Val.{to_z, of_z}
use Rattle.integers.specs.Order.{Within}
use Rattle.integers.proofs.Bounds.{Value, v_leaf, v_nat, v_abs, v_mul, v_add, v_back, fits, back, leaf_back}
use Rattle.divisors.specs.Divisor.{lowest}
use Rattle.divisors.proofs.LowestTerms.{nat_abs_quot}
use Rattle.divisors.specs.declared.Triple.{Triple}
use Rattle.geometry.specs.EmBox.{em, largest}
use Rattle.disks.specs.Procedure.{norm, lowest_terms}
use Rattle.disks.proofs.LowestTerms.{positive_is}
use Rattle.wide_numbers.specs.Value.{value}
use Rattle.lowest_disks.proofs.ShiftedTerms.{shifted_terms}
use Rattle.lowest_disks.proofs.written.Goals as goal
use Rattle.lowest_disks.proofs.written.Goals.{After-lowest_terms-t, After-unsigned_abs, Start}

-- ---- what is known of the calls' results

weight_is : (c : After-unsigned_abs) → c.unsigned_abs.result ≡ nat_abs c.args.d.e
weight_is c = c.unsigned_abs.ensures.value ∙ ap nat_abs (leaf_back w64 c.args.d.e em.scale c.requires.small.e_small tt)

weight_some : (c : After-unsigned_abs) → 0 < nat_abs c.args.d.e
weight_some c = (positive_is c.requires.proper).1

-- how large a number of g can be
abbrev most : ℕ
most = largest em * em.scale

module _ (c : After-lowest_terms-t) where
  abbrev start : Start
  start = (goal.at.After-lowest_terms-t c).Start

  abbrev t : Triple
  t = c.lowest_terms-t.result

  terms : t ≡ lowest start.args.d.gx start.args.d.gy (nat_abs start.args.d.e)
  terms =
      let k = start.requires.small in
      let x = leaf_back w64 start.args.d.gx most k.gx_small tt in
      let y = leaf_back w64 start.args.d.gy most k.gy_small tt in
      let e = weight_is (goal.at.After-lowest_terms-t c).After-unsigned_abs in
      c.lowest_terms-t.ensures ∙ (λ i. lowest (x i) (y i) (e i))

  e_few : t.e ≤ em.scale
  e_few = le_trans (le_of_eq (ap (λ (r : Triple). r.e) terms)) (le_trans (div-le_self _ _) start.requires.small.e_small.within)

  x_few : nat_abs t.x ≤ most
  x_few =
      le_trans (le_of_eq (ap (λ (r : Triple). nat_abs r.x) terms ∙ nat_abs_quot start.args.d.gx _))
      (le_trans (div-le_self _ _) start.requires.small.gx_small.within)

  y_few : nat_abs t.y ≤ most
  y_few =
      le_trans (le_of_eq (ap (λ (r : Triple). nat_abs r.y) terms ∙ nat_abs_quot start.args.d.gy _))
      (le_trans (div-le_self _ _) start.requires.small.gy_small.within)

-- ---- q·e + z, as the machine has it

abbrev scaled : (q : ℤ) (e : ℕ) → Within (largest em) q → e ≤ em.scale → Value (to_z w64 (of_z w64 q) *ℤ to_z w64 e)
scaled q e h k = v_mul (v_leaf w64 h) (v_nat w64 e k)

abbrev centre : (q : ℤ) (e : ℕ) (z : ℤ) → Within (largest em) q → e ≤ em.scale → nat_abs z ≤ most
    → Value (to_z w64 (of_z w64 (to_z w64 (of_z w64 q) *ℤ to_z w64 e)) +ℤ to_z w64 (of_z w64 z))
centre q e z h k l = v_add (v_back w64 (scaled q e h k)) (v_back w64 {z = z} (v_abs {z = z} l))

pub lowest_terms-t-requires : goal.lowest_terms-t-requires
lowest_terms-t-requires c =
    let s = (goal.at.lowest_terms-t-requires c).After-unsigned_abs in
    rw (weight_is s) (record { e_nonzero = weight_some s; e_bound = omega (arith, c.requires.small.e_small.within) })

pub overflow_cast-e : goal.overflow_cast-e
overflow_cast-e c =
    let s = (goal.at.overflow_cast-e c).After-lowest_terms-t in
    fits (v_abs {z = pos (t s).e} (e_few s)) tt

pub overflow_mul-result : goal.overflow_mul-result
overflow_mul-result c =
    let s = (goal.at.overflow_mul-result c).After-lowest_terms-t in
    fits (scaled (start s).args.d.qx (t s).e (start s).requires.small.qx_small (e_few s)) tt

pub overflow_add-result : goal.overflow_add-result
overflow_add-result c =
    let s = (goal.at.overflow_add-result c).After-lowest_terms-t in
    fits (centre (start s).args.d.qx (t s).e (t s).x (start s).requires.small.qx_small (e_few s) (x_few s)) tt

pub overflow_mul-result-2 : goal.overflow_mul-result-2
overflow_mul-result-2 c =
    let s = (goal.at.overflow_mul-result-2 c).After-lowest_terms-t in
    fits (scaled (start s).args.d.qy (t s).e (start s).requires.small.qy_small (e_few s)) tt

pub overflow_add-result-2 : goal.overflow_add-result-2
overflow_add-result-2 c =
    let s = (goal.at.overflow_add-result-2 c).After-lowest_terms-t in
    fits (centre (start s).args.d.qy (t s).e (t s).y (start s).requires.small.qy_small (e_few s) (y_few s)) tt

pub returns : goal.returns
returns c =
    let at-start = (goal.at.returns c).After-lowest_terms-t in
    let a = (start at-start).args.d in
    let h = (start at-start).requires in
    let E = nat_abs a.e in
    let n = value c.sum_of_squares.result in
    let x = back w64 (centre a.qx (t at-start).e (t at-start).x h.small.qx_small (e_few at-start) (x_few at-start)) tt in
    let y = back w64 (centre a.qy (t at-start).e (t at-start).y h.small.qy_small (e_few at-start) (y_few at-start)) tt in
    let square : pos n ≡ norm (t at-start).x (t at-start).y =
    c.sum_of_squares.ensures
    ∙ ap₂ norm
    (back w64 {z = (t at-start).x} (v_abs {z = (t at-start).x} (x_few at-start)) tt)
    (back w64 {z = (t at-start).y} (v_abs {z = (t at-start).y} (y_few at-start)) tt) in
    (λ i. record { x = x i; y = y i; e = (t at-start).e; s = n })
    ∙ ap (λ (r : Triple). record { x = a.qx *ℤ pos r.e +ℤ r.x; y = a.qy *ℤ pos r.e +ℤ r.y; e = r.e; s = n }) (terms at-start)
    ∙ shifted_terms E a.qx a.qy a.gx a.gy (weight_some (goal.at.returns c).After-unsigned_abs) n (square ∙ ap (λ (r : Triple). norm r.x r.y) (terms at-start))
    ∙ ap (λ (z : ℤ). lowest_terms (a.qx *ℤ z +ℤ a.gx) (a.qy *ℤ z +ℤ a.gy) E (nat_abs (norm a.gx a.gy))) (positive_is h.proper).0
