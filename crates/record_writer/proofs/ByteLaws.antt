-- The lengths of a record's parts, and the parts stored one behind another.
--
--   disk_bytes-length, point_bytes-length, points_bytes-length : those of the layout
--   not_four              : one to three points are no more
--   made_three-length      : one to three points are made three
--   record_by-length       : a record with an S of n bytes has `length_by n` bytes
--   record_long           : the record of a valid disk and its points has its length
--   three_stored          : three points and a count stored one by one are stored together
--   record_stored         : the disk, then the points with their count stored are the record in front, and the rest as it was
--   stores                : the laws of fields written one behind another, for `search`
use mathlib.Core.Path.{◌≡◌, refl, sym, ap, ap₂, ◌∙◌, subst}
use mathlib.Core.Bool.{true, true≢false}
use mathlib.Core.List.{List, [], ◌∷◌, ◌++◌, append-nil, append_assoc}
use Prim.Native.Nat.{ℕ, suc, ◌+◌, ◌*◌, ◌≤◌}
use native.Mathlib.Omega.{arith}
use borrow.Author.Tests.{leb-true}
use lib.Dec.{leb}
use lib.ListN.{length, length-append, drop}
use lib.Seq.{sets, sets-eq}
use Rattle.big_endian.specs.Fields.{bytes_of, put}
use Rattle.big_endian.proofs.ByteLists.{bytes_of-length}
use Rattle.integers.proofs.Tests.{rest}
use Rattle.geometry.specs.declared.Point.{Point}
use Rattle.geometry.specs.Plane.{Disk}
use Rattle.geometry.specs.EmBox.{em}
use Rattle.validity.specs.Valid.{one_to_three, valid}
use Rattle.validity.proofs.ValidLaws.{valid-points, counted}
use Rattle.record_writer.specs.Layout.{record_length, length_by, s_width, first_at, point_width, count_width, x_at, second_at, third_at, count_at}
use Rattle.record_writer.specs.Bytes.{disk_bytes, point_bytes, points_bytes, made_three, count_bytes, record_by, record_bytes}
use Rattle.big_endian.proofs.Stores.{sets_append, put_first, put_next}

pub disk_bytes-length : (n : ℕ) (d : Disk) → length (disk_bytes n d) ≡ first_at n
disk_bytes-length n d = simp (length-append, bytes_of-length)

pub point_bytes-length : (p : Point) → length (point_bytes p) ≡ point_width
point_bytes-length p = simp (length-append, bytes_of-length)

pub points_bytes-length : (ps : List Point) → length (points_bytes ps) ≡ point_width * length ps
points_bytes-length [] = refl
points_bytes-length (p ∷ ps) =
    length-append (point_bytes p) (points_bytes ps) ∙ ap₂ ◌+◌ (point_bytes-length p) (points_bytes-length ps) ∙ four (length ps)
  where
    four : (n : ℕ) → point_width + point_width * n ≡ point_width * suc n
    four n = omega arith

pub not_four : (a b c p : Point) (ps : List Point) → one_to_three (a ∷ b ∷ c ∷ p ∷ ps) ≡ true → ⊥
not_four a b c p ps h =
    let n = suc (suc (suc (suc (length ps)))) in
    let few : n ≤ 3 = leb-true n 3 (rest (leb 1 n) (leb n 3) h) in omega arith

pub made_three-length : (ps : List Point) → one_to_three ps ≡ true → length (made_three ps) ≡ 3
made_three-length [] h = absurd (true≢false (sym h))
made_three-length (a ∷ []) h = refl
made_three-length (a ∷ b ∷ []) h = refl
made_three-length (a ∷ b ∷ c ∷ []) h = refl
made_three-length (a ∷ b ∷ c ∷ p ∷ ps) h = absurd (not_four a b c p ps h)

pub record_by-length : (n : ℕ) (d : Disk) (ps : List Point) → one_to_three ps ≡ true → length (record_by n d ps) ≡ length_by n
unfolding record_by
record_by-length n d ps h =
    let three = points_bytes-length (made_three ps) ∙ ap (λ (k : ℕ). point_width * k) (made_three-length ps h) in
    simp (length-append, bytes_of-length, three)

pub record_long : (d : Disk) (ps : List Point) → valid d ps ≡ true → length (record_bytes d ps) ≡ record_length
record_long d ps v = record_by-length s_width d ps (counted em ps (valid-points em d ps v))

-- ---- stored in a buffer

pub three_stored : (l : List ℕ) (a b c : Point) (n : ℕ)
    → put count_width n (count_at s_width)
    (sets (sets (sets l (first_at s_width) (point_bytes a)) (second_at s_width) (point_bytes b)) (third_at s_width) (point_bytes c))
    ≡ sets l (first_at s_width) (points_bytes (a ∷ b ∷ c ∷ []) ++ bytes_of count_width n)
three_stored l a b c n =
    let at = first_at s_width in
    let next = second_at s_width in
    let last = third_at s_width in
    let p = point_bytes a in
    let q = point_bytes b in
    let r = point_bytes c in
    let three = points_bytes (a ∷ b ∷ c ∷ []) in
    let points : sets (sets (sets l at p) next q) last r ≡ sets l at three =
    ap (sets (sets (sets l at p) next q) last) (sym (append-nil r))
    ∙ sym (sets_append (sets l at p) next q (r ++ []) point_width (point_bytes-length b))
    ∙ sym (sets_append l at p (q ++ (r ++ [])) point_width (point_bytes-length a)) in
    ap (put count_width n (count_at s_width)) points ∙ put_next count_width n l at three (3 * point_width) (points_bytes-length (a ∷ b ∷ c ∷ []))

pub record_stored : (l : List ℕ) (d : Disk) (ps : List Point) → one_to_three ps ≡ true → record_length ≤ length l
    → sets (sets l x_at (disk_bytes s_width d)) (first_at s_width) (points_bytes (made_three ps) ++ count_bytes ps) ≡ record_bytes d ps ++ drop record_length l
unfolding record_by
record_stored l d ps h room =
    let e : length (record_bytes d ps) ≡ record_length = record_by-length s_width d ps h in
    let behind = points_bytes (made_three ps) ++ count_bytes ps in
    sym (sets_append l x_at (disk_bytes s_width d) behind (first_at s_width) (disk_bytes-length s_width d))
    ∙ ap (sets l x_at) (sym (append_assoc (disk_bytes s_width d) (points_bytes (made_three ps)) (count_bytes ps)))
    ∙ sets-eq (record_bytes d ps) l x_at (subst (λ (n : ℕ). x_at + n ≤ length l) (sym e) room)
    ∙ ap (λ (n : ℕ). record_bytes d ps ++ drop (x_at + n) l) e

pub ruleset stores = (put_first, put_next, bytes_of-length)
