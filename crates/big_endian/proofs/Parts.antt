-- A field of m + n bytes as two fields, the high one first.
--
--   get-parts     : it is read as the field of m bytes, moved up by n, and the field of n bytes behind it
--   bytes_of-parts : h · 2^(8n) + l in m + n bytes is h in m bytes and l in n
use mathlib.Core.Path.{◌≡◌, refl, sym, ap, ap₂, ◌∙◌}
use mathlib.Core.List.{List, ◌∷◌, ◌++◌}
use Prim.Native.Nat.{ℕ, zero, suc, ◌+◌, ◌*◌, ◌/◌, ◌%◌, ◌^◌, ◌<◌}
use native.Mathlib.Nat.{zero-add, add-zero, suc-add, add-suc, add_assoc, add-mul, add_comm, mul_assoc, mul-one, add-mul-div_right, add-mul-mod_self_right}
use native.Mathlib.Omega.{arith}
use lib.ListN.{get_or}
use lib.Pow.{pow_pos, high, shr-shr}
use Rattle.big_endian.specs.Fields.{digit, bytes_of, get}
use Rattle.big_endian.proofs.FieldLaws.{eight}

-- ---- reading

-- the n bytes behind m others, read behind the digits of these
get_join : (m n a at : ℕ) (xs : List ℕ) → get (m + n) a at xs ≡ get n (get m a at xs) (at + m) xs
unfolding get
get_join zero n a at xs = ap₂ (λ (k i : ℕ). get k a i xs) (zero-add n) (sym (add-zero at))
get_join (suc m) n a at xs =
    ap (λ (k : ℕ). get k a at xs) (suc-add m n)
    ∙ get_join m n (a * 256 + get_or xs at 0) (suc at) xs
    ∙ ap (λ (i : ℕ). get n (get m (a * 256 + get_or xs at 0) (suc at) xs) i xs) (suc-add at m ∙ sym (add-suc at m))

-- a field read behind the digits of a is a, moved up by the field's bytes, and the field
get-sum : (n a at : ℕ) (xs : List ℕ) → get n a at xs ≡ a * 2 ^ (8 * n) + get n 0 at xs
unfolding get
get-sum zero a at xs = sym (add-zero (a * 1) ∙ mul-one a)
get-sum (suc n) a at xs =
    let b = get_or xs at 0 in
    let P = 2 ^ (8 * n) in
    let rest = get n 0 (suc at) xs in
    let moved : (a * 256 + b) * P ≡ a * (256 * P) + b * P = add-mul (a * 256) b P ∙ ap (λ (x : ℕ). x + b * P) (mul_assoc a 256 P) in
    get-sum n (a * 256 + b) (suc at) xs
    ∙ ap (λ (x : ℕ). x + rest) moved
    ∙ add_assoc (a * (256 * P)) (b * P) rest
    ∙ ap₂ (λ (p x : ℕ). a * p + x) (sym (eight n)) (sym (ap (λ (x : ℕ). get n x (suc at) xs) (zero-add b) ∙ get-sum n b (suc at) xs))

pub get-parts : (m n at : ℕ) (xs : List ℕ) → get (m + n) 0 at xs ≡ get m 0 at xs * 2 ^ (8 * n) + get n 0 (at + m) xs
get-parts m n at xs = get_join m n 0 at xs ∙ get-sum n (get m 0 at xs) (at + m) xs

-- ---- writing

-- a number's n low bytes are not changed by what stands above them
low-bytes : (n h l : ℕ) → bytes_of n (h * 2 ^ (8 * n) + l) ≡ bytes_of n l
unfolding bytes_of
low-bytes zero h l = refl
low-bytes (suc n) h l =
    let P = 2 ^ (8 * n) in
    let shape : h * 2 ^ (8 * suc n) + l ≡ h * 256 * P + l = ap (λ (p : ℕ). h * p + l) (eight n) ∙ ap (λ (x : ℕ). x + l) (sym (mul_assoc h 256 P)) in
    let top : digit n (h * 256 * P + l) ≡ digit n l =
    ap (λ (x : ℕ). x / P % 256) (add_comm (h * 256 * P) l)
    ∙ ap (λ (x : ℕ). x % 256) (add-mul-div_right l (h * 256) (pow_pos (8 * n)))
    ∙ add-mul-mod_self_right (l / P) h 256 in
    ap (λ (v : ℕ). digit n v ∷ bytes_of n v) shape ∙ ap₂ (λ (d : ℕ) (ys : List ℕ). d ∷ ys) top (low-bytes n (h * 256) l)

-- and those above them are h's
high_digit : (m n h l : ℕ) → l < 2 ^ (8 * n) → digit (m + n) (h * 2 ^ (8 * n) + l) ≡ digit m h
high_digit m n h l k =
    let v = h * 2 ^ (8 * n) + l in
    ap (λ (i : ℕ). v / 2 ^ i % 2 ^ 8) places
    ∙ ap (λ (x : ℕ). x % 2 ^ 8) (sym (shr-shr v (8 * n) (8 * m)) ∙ ap (λ (x : ℕ). x / 2 ^ (8 * m)) (high h (8 * n) k))
  where
    places : 8 * (m + n) ≡ 8 * n + 8 * m
    places = omega arith

pub bytes_of-parts : (m n h l : ℕ) → l < 2 ^ (8 * n) → bytes_of (m + n) (h * 2 ^ (8 * n) + l) ≡ bytes_of m h ++ bytes_of n l
unfolding bytes_of
bytes_of-parts zero n h l k = ap (λ (i : ℕ). bytes_of i (h * 2 ^ (8 * n) + l)) (zero-add n) ∙ low-bytes n h l
bytes_of-parts (suc m) n h l k =
    let v = h * 2 ^ (8 * n) + l in
    ap (λ (i : ℕ). bytes_of i v) (suc-add m n) ∙ ap₂ (λ (d : ℕ) (ys : List ℕ). d ∷ ys) (high_digit m n h l k) (bytes_of-parts m n h l k)
