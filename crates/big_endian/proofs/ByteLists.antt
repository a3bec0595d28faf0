-- A field as a list of bytes, and a field that is read and written again.
--
--   bytes_of-length   : `bytes_of n v` has n bytes
--   put_splits       : a write is what stands before the field, the bytes of v, and what stands behind it
--   to_be            : the library's bytes of a word are those of 8 bytes
--   drop_bytes       : the last n of more bytes
--   get-bytes        : the bytes of a v below 2^(8n), between any two lists, are read as v
--   get-high         : what is read of n bytes behind the digits of a has a above its n low bytes
--   get_lt           : a field of n bytes is below 2^(8n)
--   bytes_of-get      : the bytes of a field that was read are the field's own
use mathlib.Core.Path.{◌≡◌, refl, sym, ap, ap₂, ◌∙◌, subst}
use mathlib.Core.List.{List, [], ◌∷◌, ◌++◌, append_assoc}
use Prim.Native.Nat.{ℕ, zero, suc, ◌+◌, ◌*◌, ◌/◌, ◌%◌, ◌^◌, ◌≤◌, ◌<◌}
use native.Mathlib.Nat.{zero-add, suc-add, add-suc, le-add_right, div-one, one-mul, div-lt_iff_lt-mul}
use native.Mathlib.Omega.{arith}
use lib.Arith.{digits_div, digits_mod}
use lib.Dec.{lit<}
use lib.ListN.{length, get_or, take, drop, length-append}
use lib.Pow.{pow_pos, shr-shr}
use lib.Seq.{sets-eq, take-append_seam, drop_at, drop-cons}
use Rattle.std.specs.Int.{w64, to_be_bytes}
use Rattle.big_endian.specs.Fields.{digit, bytes_of, put, get}
use Rattle.big_endian.proofs.FieldLaws.{round_trip}

pub bytes_of-length : (n v : ℕ) → length (bytes_of n v) ≡ n
unfolding bytes_of
bytes_of-length zero v = refl
bytes_of-length (suc n) v = ap suc (bytes_of-length n v)

pub put_splits : (n v at : ℕ) (xs : List ℕ) → at + n ≤ length xs → put n v at xs ≡ take at xs ++ bytes_of n v ++ drop (at + n) xs
unfolding put
put_splits n v at xs h =
    let e : length (bytes_of n v) ≡ n = bytes_of-length n v in
    sets-eq (bytes_of n v) xs at (subst (λ (k : ℕ). at + k ≤ length xs) (sym e) h)
    ∙ ap (λ (k : ℕ). take at xs ++ bytes_of n v ++ drop (at + k) xs) e

-- the library's bytes of a word
pub to_be : (v : ℕ) → to_be_bytes w64 v ≡ bytes_of 8 v
unfolding bytes_of
to_be v =
    ap (λ (x : ℕ). digit 7 v ∷ digit 6 v ∷ digit 5 v ∷ digit 4 v ∷ digit 3 v ∷ digit 2 v ∷ digit 1 v ∷ x % 256 ∷ []) (sym (div-one v))

pub drop_bytes : (k n v : ℕ) → drop k (bytes_of (k + n) v) ≡ bytes_of n v
unfolding bytes_of
drop_bytes zero n v = ap (λ (m : ℕ). bytes_of m v) (zero-add n)
drop_bytes (suc k) n v = ap (λ (m : ℕ). drop (suc k) (bytes_of m v)) (suc-add k n) ∙ drop_bytes k n v

-- writing the bytes that stand there already
put_same : (n v : ℕ) (before behind : List ℕ) → put n v (length before) (before ++ bytes_of n v ++ behind) ≡ before ++ bytes_of n v ++ behind
put_same n v before behind =
    let field = bytes_of n v in
    let xs = before ++ field ++ behind in
    let at = length before in
    let shape : xs ≡ before ++ (field ++ behind) = append_assoc before field behind in
    let front : length (before ++ field) ≡ at + n = length-append before field ∙ ap (λ (k : ℕ). at + k) (bytes_of-length n v) in
    let all : length xs ≡ at + n + length behind = length-append (before ++ field) behind ∙ ap (λ (k : ℕ). k + length behind) front in
    put_splits n v at xs (subst (λ (k : ℕ). at + n ≤ k) (sym all) (le-add_right (at + n) (length behind)))
    ∙ ap₂ (λ (a b : List ℕ). a ++ field ++ b) (ap (take at) shape ∙ take-append_seam before (field ++ behind))
    (drop_at (before ++ field) behind (at + n) front)

pub get-bytes : (n v : ℕ) (before behind : List ℕ) → v < 2 ^ (8 * n) → get n 0 (length before) (before ++ bytes_of n v ++ behind) ≡ v
get-bytes n v before behind h =
    let xs = before ++ bytes_of n v ++ behind in
    let all : length xs ≡ length before + n + length behind =
    length-append (before ++ bytes_of n v) behind
    ∙ ap (λ (k : ℕ). k + length behind) (length-append before (bytes_of n v) ∙ ap (λ (k : ℕ). length before + k) (bytes_of-length n v)) in
    ap (get n 0 (length before)) (sym (put_same n v before behind))
    ∙ round_trip n v (length before) xs (subst (λ (k : ℕ). length before + n ≤ k) (sym all) (le-add_right (length before + n) (length behind))) h

-- ---- a list whose every entry is a byte, as that of a lent slice is
module _ (xs : List ℕ) (bytes : (k : ℕ) → get_or xs k 0 < 256) where
  pub get-high : (n a at : ℕ) → get n a at xs / 2 ^ (8 * n) ≡ a
  unfolding get
  get-high zero a at = div-one a
  get-high (suc n) a at =
      let v = get n (a * 256 + get_or xs at 0) (suc at) xs in
      ap (λ (k : ℕ). v / 2 ^ k) (eights n)
      ∙ sym (shr-shr v (8 * n) 8)
      ∙ ap (λ (k : ℕ). k / 256) (get-high n (a * 256 + get_or xs at 0) (suc at))
      ∙ digits_div a (bytes at)
    where
      eights : (n : ℕ) → 8 * suc n ≡ 8 * n + 8
      eights n = omega arith

  pub get_lt : (n at : ℕ) → get n 0 at xs < 2 ^ (8 * n)
  get_lt n at =
      let p : 0 < 2 ^ (8 * n) = pow_pos (8 * n) in
      subst (λ (k : ℕ). get n 0 at xs < k) (one-mul (2 ^ (8 * n))) ((div-lt_iff_lt-mul p).0 (subst (λ (k : ℕ). k < 1) (sym (get-high n 0 at)) (lit< tt)))

  pub bytes_of-get : (n a at : ℕ) → at + n ≤ length xs → bytes_of n (get n a at xs) ≡ take n (drop at xs)
  unfolding bytes_of get
  bytes_of-get zero a at h = refl
  bytes_of-get (suc n) a at h =
      let b = get_or xs at 0 in
      let v = get n (a * 256 + b) (suc at) xs in
      let top : digit n v ≡ b = ap (λ (k : ℕ). k % 256) (get-high n (a * 256 + b) (suc at)) ∙ digits_mod a (bytes at) in
      let room : suc at + n ≤ length xs = rw suc-add (rw add-suc at h) in
      ap₂ (λ (k : ℕ) (ys : List ℕ). k ∷ ys) top (bytes_of-get n (a * 256 + b) (suc at) room)
      ∙ ap (take (suc n)) (sym (drop-cons xs at 0 (omega arith)))
