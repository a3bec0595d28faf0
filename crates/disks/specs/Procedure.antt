-- Welzl's move-to-front procedure (000, B_MTFDISK; 01, "Welzl's procedure and the count").
--
--   Cover              == the empty disk, or a disk
--   outside c p        == the test of p against c; p is always outside the empty disk
--   boundary_disk R     == the smallest disk with R on its boundary, for R of none to three points (000: md(∅, R))
--   State              == what a run gives: the cover, the number of tests, and the list as it is left
--   mtf R P            == B_MTFDISK on the list P with the set R fixed on the boundary
--   disk_of, tests_of, order_of P   == the three parts of it from no point fixed
--   mtf_empty, mtf_full, mtf_last : the text's own rule: P empty, R of three, otherwise by the last point of P
--
-- Against 000: the first permutation is left out (01), and each test is counted (01). The steps of `run` go through P from its first
-- point on, which is the text's recursion on the last point, as `mtf_last` says. The text's own words, with no formula for a disk, are
-- Runs.antt, and `ByText` there says that this is the same.
use Rattle.std.specs.Prelude.{◌≡◌, refl, Bool, true, false, not, List, [], ◌∷◌, ◌++◌, ℕ, zero, suc, ◌+◌, ◌-◌, ◌*◌, ◌/◌, ◌≤◌, ℤ, pos, negsuc, neg_ℤ, nat_abs, ◌+ℤ◌, ◌-ℤ◌, ◌*ℤ◌, length}
use Rattle.std.proofs.Common.{◌∙◌, ap, arith}
use Rattle.std.specs.Int.Signed.{quot_z}
use Rattle.divisors.specs.Divisor.{common}
use Rattle.geometry.specs.declared.Point.{Point}
use Rattle.geometry.specs.Plane.{Disk, holds}

pub data Cover : Type 0 where
  empty : Cover
  disk : Disk → Cover

unfoldable pub outside : Cover → Point → Bool
outside empty p = true
outside (disk d) p = not (holds d p)

-- ---- the disks of one, two and three points

-- centre (X/E, Y/E) and squared radius S/E², written without a common divisor of X, Y and E
unfoldable pub lowest_terms : ℤ → ℤ → ℕ → ℕ → Disk
lowest_terms X Y E S =
    let g = common X Y E in
    record { x = quot_z X (pos g); y = quot_z Y (pos g); e = E / g; s = S / (g * g) }

abbrev pub norm : ℤ → ℤ → ℤ
norm a b = a *ℤ a +ℤ b *ℤ b

abbrev pub point_disk : Point → Disk
point_disk a = record { x = a.x; y = a.y; e = 1; s = 0 }

-- the disk whose diameter is a b
unfoldable pub diameter_disk : Point → Point → Disk
diameter_disk a b = lowest_terms (a.x +ℤ b.x) (a.y +ℤ b.y) 2 (nat_abs (norm (b.x -ℤ a.x) (b.y -ℤ a.y)))

-- z, or −z where w is negative
unfoldable pub turned_by : ℤ → ℤ → ℤ
turned_by (pos n) z = z
turned_by (negsuc n) z = neg_ℤ z

-- the circle through a, a + u and a + v: E = 2|w| with w = u × v, and centre a + (gx, gy)/E
unfoldable pub circle : Point → Point → Point → Disk
circle a b c =
    let ux = b.x -ℤ a.x in
    let uy = b.y -ℤ a.y in
    let vx = c.x -ℤ a.x in
    let vy = c.y -ℤ a.y in
    let w = ux *ℤ vy -ℤ uy *ℤ vx in
    let E = 2 * nat_abs w in
    let gx = turned_by w (norm ux uy *ℤ vy -ℤ norm vx vy *ℤ uy) in
    let gy = turned_by w (norm vx vy *ℤ ux -ℤ norm ux uy *ℤ vx) in
    lowest_terms (a.x *ℤ pos E +ℤ gx) (a.y *ℤ pos E +ℤ gy) E (nat_abs (norm gx gy))

-- a set has three points at most: the last clause is never reached
unfoldable pub boundary_disk : List Point → Cover
boundary_disk [] = empty
boundary_disk (a ∷ []) = disk (point_disk a)
boundary_disk (a ∷ b ∷ []) = disk (diameter_disk a b)
boundary_disk (a ∷ b ∷ c ∷ []) = disk (circle a b c)
boundary_disk (a ∷ b ∷ c ∷ d ∷ R) = empty

-- ---- the procedure

pub record State : Type 0 where
  pub cover : Cover
  pub tests : ℕ
  pub left : List Point

-- p tested against s, what the list without p gave; `again` is what the list without p, as it now stands, gives with p added to R
unfoldable pub tested : Bool → State → Point → State → State
tested true s p again = record { cover = again.cover; tests = s.tests + 1 + again.tests; left = p ∷ again.left }
tested false s p again = record { cover = s.cover; tests = s.tests + 1; left = s.left ++ (p ∷ []) }

-- a `let`, so that it is computed only where p is outside
unfoldable pub step : (List Point → List Point → State) → List Point → State → Point → State
step inner R s p =
    let again = inner (p ∷ R) s.left in
    tested (outside s.cover p) s p again

-- the points one by one, the last of the list last
unfoldable pub through : (State → Point → State) → State → List Point → State
through f s [] = s
through f s (p ∷ ps) = through f (f s p) ps

abbrev pub start : List Point → List Point → State
start R P = record { cover = boundary_disk R; tests = 0; left = P }

-- the first argument is the room that is left in the set, 3 − |R|
unfoldable pub run : ℕ → List Point → List Point → State
run zero R P = start R P
run (suc k) R P = through (step (run k) R) (start R []) P

abbrev pub mtf : List Point → List Point → State
mtf R P = run (3 - length R) R P

-- ---- the text's rule

through_last : (f : State → Point → State) (s : State) (P : List Point) (p : Point) → through f s (P ++ (p ∷ [])) ≡ f (through f s P) p
unfolding through
through_last f s [] p = refl
through_last f s (q ∷ P) p = through_last f (f s q) P p

pub run_empty : (k : ℕ) (R : List Point) → run k R [] ≡ start R []
unfolding run through
run_empty zero R = refl
run_empty (suc k) R = refl

pub run_full : (R P : List Point) → run 0 R P ≡ start R P
unfolding run
run_full R P = refl

pub run_last : (k : ℕ) (R P : List Point) (p : Point)
    → let s = run (suc k) R P in
    run (suc k) R (P ++ (p ∷ [])) ≡ tested (outside s.cover p) s p (run k (p ∷ R) s.left)
unfolding run step
run_last k R P p = through_last (step (run k) R) (start R []) P p

pub mtf_empty : (R : List Point) → mtf R [] ≡ start R []
mtf_empty R = run_empty (3 - length R) R

pub mtf_full : (R P : List Point) → length R ≡ 3 → mtf R P ≡ start R P
mtf_full R P h = ap (λ (k : ℕ). run k R P) (none (length R) h) ∙ run_full R P
  where
    none : (n : ℕ) → n ≡ 3 → 3 - n ≡ 0
    none n h = omega arith

-- do P without p; test p; if it is outside, do P without p again, as it now stands, with p added to R, then move p to the front
pub mtf_last : (R P : List Point) (p : Point) → length R ≤ 2
    → let s = mtf R P in
    mtf R (P ++ (p ∷ [])) ≡ tested (outside s.cover p) s p (mtf (p ∷ R) s.left)
mtf_last [] P p h = run_last 2 [] P p
mtf_last (a ∷ []) P p h = run_last 1 (a ∷ []) P p
mtf_last (a ∷ b ∷ []) P p h = run_last 0 (a ∷ b ∷ []) P p
mtf_last (a ∷ b ∷ c ∷ R) P p h = absurd (omega arith)

-- ---- from no point fixed

-- the empty list has no disk; that clause is never reached
abbrev pub disk_in : Cover → Disk
disk_in empty = record { x = pos 0; y = pos 0; e = 1; s = 0 }
disk_in (disk d) = d

abbrev pub disk_of : List Point → Disk
disk_of P = disk_in (run 3 [] P).cover

abbrev pub tests_of : List Point → ℕ
tests_of P = (run 3 [] P).tests

abbrev pub order_of : List Point → List Point
order_of P = (run 3 [] P).left
