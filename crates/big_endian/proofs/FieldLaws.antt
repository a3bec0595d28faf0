-- Fields of n bytes: what a write leaves, and what is read after it, stated once for every width.
--
--   get_none                  : nothing left to read
--   get-one                   : one byte at a time, as a loop goes over the bytes
--   put-before                : every byte before the field stays
--   eight                     : 8 more digits
--   get-put, round_trip       : what was written is read
use mathlib.Core.Path.{◌≡◌, refl, sym, ap, ap₂, ◌∙◌}
use Prim.Native.Nat.{ℕ, zero, suc, ◌+◌, ◌-◌, ◌*◌, ◌%◌, ◌^◌, ◌≤◌, ◌<◌}
use native.Mathlib.Nat.{suc-add, add-suc, add-zero, zero-add, add_assoc, add-mul, mul_assoc, mul-one, zero-mul, mod-eq_of_lt, mod-one, ne_of_lt}
use native.Mathlib.Numerals.{add-one, sub-one}
use native.Mathlib.Omega.{arith}
use mathlib.Core.List.{List}
use lib.ListN.{length, set, get_or, length-set}
use lib.Seq.{get_or-set_same, get_or-set_other}
use lib.Pow.{pow-add, mod-pow-add}
use Rattle.big_endian.specs.Fields.{digit, bytes_of, put, get}

-- ---- nothing left

pub get_none : (a at : ℕ) (xs : List ℕ) → get 0 a at xs ≡ a
unfolding get
get_none a at xs = refl

-- ---- one byte at a time, as a loop goes over the bytes

pub get-one : (n a at : ℕ) (xs : List ℕ) → 0 < n → get (n - 1) (a * 256 + get_or xs at 0) (at + 1) xs ≡ get n a at xs
unfolding get
get-one zero a at xs h = absurd (none h)
  where
    none : 0 < 0 → ⊥
    none h = omega arith
get-one (suc n) a at xs h = rw (sub-one (suc n), add-one at)

-- ---- what a write leaves

-- every byte before the field, and every byte behind it, stays
pub put-before : (n v at k : ℕ) (xs : List ℕ) → k < at → get_or (put n v at xs) k 0 ≡ get_or xs k 0
unfolding bytes_of put
put-before zero v at k xs h = refl
put-before (suc n) v at k xs h =
    put-before n v (suc at) k (set xs at (digit n v)) (omega arith) ∙ get_or-set_other xs at k (digit n v) 0 (ne_of_lt h)

-- ---- what was written is read

-- 8 more digits
eights : (n : ℕ) → 8 * suc n ≡ 8 + 8 * n
eights n = omega arith

pub eight : (n : ℕ) → 2 ^ (8 * suc n) ≡ 256 * 2 ^ (8 * n)
eight n = ap (λ (k : ℕ). 2 ^ k) (eights n) ∙ pow-add 2 8 (8 * n)

pub get-put : (n v a at : ℕ) (xs : List ℕ) → at + n ≤ length xs → get n a at (put n v at xs) ≡ a * 2 ^ (8 * n) + v % 2 ^ (8 * n)
unfolding bytes_of put get
get-put zero v a at xs h = sym (ap (λ (x : ℕ). a * 1 + x) (mod-one v) ∙ add-zero (a * 1) ∙ mul-one a)
get-put (suc n) v a at xs h =
    let d = digit n v in
    let ys = set xs at d in
    let P = 2 ^ (8 * n) in
    let there : get_or (put n v (suc at) ys) at 0 ≡ d = put-before n v (suc at) at ys (omega arith) ∙ get_or-set_same xs at d 0 (omega arith) in
    let room : suc at + n ≤ length ys = rw length-set (rw suc-add (rw add-suc at h)) in
    ap (λ (x : ℕ). get n (a * 256 + x) (suc at) (put n v (suc at) ys)) there
    ∙ get-put n v (a * 256 + d) (suc at) ys room
    ∙ ap (λ (x : ℕ). x + v % P) (add-mul (a * 256) d P ∙ ap (λ (x : ℕ). x + d * P) (mul_assoc a 256 P))
    ∙ add_assoc (a * (256 * P)) (d * P) (v % P)
    ∙ ap (λ (x : ℕ). a * (256 * P) + x) (sym (mod-pow-add v 8 (8 * n)))
    ∙ ap₂ (λ (x y : ℕ). a * x + v % 2 ^ y) (sym (eight n)) (sym (eights n))

-- a number of n bytes comes back
pub round_trip : (n v at : ℕ) (xs : List ℕ) → at + n ≤ length xs → v < 2 ^ (8 * n) → get n 0 at (put n v at xs) ≡ v
round_trip n v at xs h k = get-put n v 0 at xs h ∙ zero_then (v % 2 ^ (8 * n)) ∙ mod-eq_of_lt k
  where
    zero_then : (x : ℕ) → 0 * 2 ^ (8 * n) + x ≡ x
    zero_then x = ap (λ (y : ℕ). y + x) (zero-mul (2 ^ (8 * n))) ∙ zero-add x
