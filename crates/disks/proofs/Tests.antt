-- When a point is outside a disk that is written in lowest terms.
--
--   same_test, same_lt_z : two tests are equal where each passes if the other does
--   outside_none        : the empty disk, lifted, has every point outside
--   outside_written     : a disk in lowest terms has a point outside where the lifted one has
--   relative_disk q e gx gy == the disk with q on its boundary and centre q + g/e, in lowest terms
--   relative_lowered    : it is that of the lifted disk
--   relative_written    : its X, Y and E are those of the lifted disk, divided by one number, and S by the square of that
--   outside_relative    : a point p is outside it where |d|²·e > 2(d·g), d = p − q
--   row_weight, row-holds : with E = 0, as the text has it for three points in a row, every point is held
use mathlib.Core.Path.{◌≡◌, refl, sym, ◌∙◌, ap, ap₂}
use mathlib.Core.Bool.{Bool, true, false, not}
use mathlib.Core.List.{[], ◌∷◌}
use Prim.Native.Nat.{ℕ, zero, suc, ◌*◌, ◌/◌, ◌<◌, ◌∣◌}
use native.Mathlib.Nat.{div-zero, zero-div, mul-div_cancel_left, mul-pos}
use native.Mathlib.Omega.{arith}
use lib.IntN.{ℤ, pos, negsuc, neg_ℤ, nat_abs, ◌+ℤ◌, ◌-ℤ◌, ◌*ℤ◌}
use lib.Signed.{◌<ℤ◌, lt_z, le_z, quot_z}
use Rattle.integers.proofs.Tests.{test_true, below, not_below, same_test}
use Rattle.divisors.specs.Divisor.{common}
use Rattle.divisors.proofs.LowestTerms.{divides_x, divides_y, quot_exact}
use Rattle.integers.proofs.Ring.{ring, poly}
use Rattle.integers.proofs.Order.{≤_of_eq, nn_is, positive, lt, eq, sq, ◌⊞◌, ◌⊠◌, <_cancel}
use Rattle.geometry.specs.declared.Point.{Point}
use Rattle.geometry.specs.Plane.{Disk, distance, holds}
use Rattle.disks.specs.Procedure.{disk, outside, norm, lowest_terms}
use Rattle.disks.proofs.Lifted.{Lifted, value, no_disk, value_none}
use Rattle.disks.proofs.Relative.{relative, relative_radius}
use Rattle.disks.proofs.LowestTerms.{lowered, Written, lowered_written, written_value, square_factor}
use Rattle.disks.proofs.LiftedProcedure.{lifted_outside}

pub same_lt_z : (a b c d : ℤ) → (a <ℤ b → c <ℤ d) → (c <ℤ d → a <ℤ b) → lt_z a b ≡ lt_z c d
same_lt_z a b c d f g = same_test (lt_z a b) (lt_z c d) (λ t. (f (record { lt = t })).lt) (λ t. (g (record { lt = t })).lt)

pub outside_none : (p : Point) → lifted_outside no_disk p ≡ true
unfolding lifted_outside
outside_none p = ap (lt_z (pos 0)) (value_none p)

-- ---- in lowest terms

not_le_z : (a b : ℤ) → not (le_z a b) ≡ lt_z b a
not_le_z a b = go (lt_z b a) refl
  where
    go : (t : Bool) → lt_z b a ≡ t → not (le_z a b) ≡ t
    go true e = ap not (below b a e)
    go false e = ap not (not_below b a e)

more_by : (E v n d s : ℤ) → E *ℤ v ≡ n *ℤ (d -ℤ s) → pos 0 <ℤ E → pos 0 <ℤ n → pos 0 <ℤ v → s <ℤ d
more_by E v n d s q h_e hn hv = <_cancel hn (positive (E ∷ v ∷ n ∷ d ∷ s ∷ []) (lt h_e ⊠ lt hv ⊞ lt h_e ⊞ lt hv ⊞ eq (negsuc 0) q)
    (search poly depth 30) tt)

positive_by : (E v n d s : ℤ) → E *ℤ v ≡ n *ℤ (d -ℤ s) → pos 0 <ℤ E → pos 0 <ℤ n → s <ℤ d → pos 0 <ℤ v
positive_by E v n d s q h_e hn h = <_cancel h_e
    (positive (E ∷ v ∷ n ∷ d ∷ s ∷ []) (lt hn ⊠ lt h ⊞ lt hn ⊞ lt h ⊞ eq (pos 1) q) (search poly depth 30) tt)

pub outside_written : {F : Lifted} {d : Disk} → pos 0 <ℤ F.e → Written F d → (p : Point) → outside (disk d) p ≡ lifted_outside F p
unfolding outside holds lifted_outside
outside_written {F} {d} he w p = not_le_z (distance d p) (pos d.s)
    ∙ same_lt_z (pos d.s) (distance d p) (pos 0) (value F p)
    (positive_by F.e (value F p) (pos w.g *ℤ pos w.g) (distance d p) (pos d.s) (written_value w p) he (square_factor w))
    (more_by F.e (value F p) (pos w.g *ℤ pos w.g) (distance d p) (pos d.s) (written_value w p) he (square_factor w))

-- ---- relative to a point on the boundary

abbrev pub relative_disk : Point → ℤ → ℤ → ℤ → Disk
relative_disk q e gx gy = lowest_terms (q.x *ℤ e +ℤ gx) (q.y *ℤ e +ℤ gy) (nat_abs e) (nat_abs (norm gx gy))

own_value : (q : Point) (e gx gy : ℤ) → value (relative q e gx gy) q ≡ pos 0
own_value q e gx gy = ring (q.x ∷ q.y ∷ e ∷ gx ∷ gy ∷ []) (search poly depth 30) tt

module _ (q : Point) (e gx gy : ℤ) where
  pub relative_lowered : lowered (relative q e gx gy) ≡ relative_disk q e gx gy
  relative_lowered = ap (λ (z : ℤ). lowest_terms (q.x *ℤ e +ℤ gx) (q.y *ℤ e +ℤ gy) (nat_abs e) (nat_abs z)) (relative_radius q e gx gy)

  module _ (proper : pos 0 <ℤ e) where
    pub relative_written : Written (relative q e gx gy) (relative_disk q e gx gy)
    relative_written = rw relative_lowered at (lowered_written (relative q e gx gy) proper q (own_value q e gx gy))

    pub outside_relative : (p : Point) → outside (disk (relative_disk q e gx gy)) p ≡ lt_z (pos 0) (value (relative q e gx gy) p)
    unfolding lifted_outside
    outside_relative p = outside_written proper relative_written p

-- ---- three points in a row

quotient_none : (z : ℤ) → quot_z z (pos 0) ≡ pos 0
quotient_none (pos n) = ap pos (div-zero n)
quotient_none (negsuc n) = ap (λ (m : ℕ). neg_ℤ (pos m)) (div-zero (suc n))

-- two numbers divided by g, and the sum of their squares by g²
row_radius : (g : ℕ) (X Y : ℤ) → g ∣ nat_abs X → g ∣ nat_abs Y → norm (quot_z X (pos g)) (quot_z Y (pos g)) ≡ pos (nat_abs (norm X Y) / (g * g))
row_radius zero X Y hx hy = ap₂ norm (quotient_none X) (quotient_none Y) ∙ sym (ap pos (div-zero (nat_abs (norm X Y))))
row_radius (suc k) X Y hx hy =
    let g = suc k in
    let x = quot_z X (pos g) in
    let y = quot_z Y (pos g) in
    let (n, is) = nn_is (sq x ⊞ sq y) in
    let whole : norm X Y ≡ pos (g * g) *ℤ pos n =
    sym (ap₂ norm (quot_exact X g hx) (quot_exact Y g hy)) ∙ spread x y (pos g) ∙ ap (λ (z : ℤ). (pos g *ℤ pos g) *ℤ z) is in
    is ∙ sym (ap pos (ap (λ (z : ℤ). nat_abs z / (g * g)) whole ∙ mul-div_cancel_left n (mul-pos {m = g} {n = g} zero_lt zero_lt)))
  where
    spread : (x y g : ℤ) → norm (x *ℤ g) (y *ℤ g) ≡ (g *ℤ g) *ℤ norm x y
    spread x y g = ring (x ∷ y ∷ g ∷ []) (search poly depth 30) tt

    zero_lt : 0 < suc k
    zero_lt = omega arith

no_distance : (px py x y : ℤ) → (px *ℤ pos 0 -ℤ x) *ℤ (px *ℤ pos 0 -ℤ x) +ℤ (py *ℤ pos 0 -ℤ y) *ℤ (py *ℤ pos 0 -ℤ y) ≡ norm x y
no_distance px py x y = ring (px ∷ py ∷ x ∷ y ∷ []) (search poly depth 30) tt

module _ (X Y : ℤ) where
  abbrev row : Disk
  row = lowest_terms X Y 0 (nat_abs (norm X Y))

  pub row_weight : row.e ≡ 0
  unfolding lowest_terms
  row_weight = zero-div (common X Y 0)

  row-distance : (p : Point) → distance row p ≡ norm row.x row.y
  row-distance p =
      ap (λ (n : ℕ). (p.x *ℤ pos n -ℤ row.x) *ℤ (p.x *ℤ pos n -ℤ row.x) +ℤ (p.y *ℤ pos n -ℤ row.y) *ℤ (p.y *ℤ pos n -ℤ row.y)) row_weight
      ∙ no_distance p.x p.y row.x row.y

  pub row-holds : (p : Point) → holds row p ≡ true
  unfolding holds lowest_terms
  row-holds p =
      test_true (le_z (distance row p) (pos row.s))
      (≤_of_eq (row-distance p ∙ row_radius (common X Y 0) X Y (divides_x X Y 0) (divides_y X Y 0))).le
