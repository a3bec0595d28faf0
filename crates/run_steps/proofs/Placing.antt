-- Bytes put at a place of a buffer.
--
--   put_tail     : the part of a buffer from a place on, lent and back with the bytes in front, is the buffer with them at the place
--   take-placed, drop-placed : up to their end the buffer is what was before the place and the bytes; behind it stays
--   placed_none  : with no bytes it stays
--   write_due    : the record of a disk that passes the checks has no refusal where there is room for it
--   put_record   : the buffer with it at the place
use mathlib.Core.Path.{◌≡◌, sym, ap, ◌∙◌}
use mathlib.Core.Bool.{false}
use mathlib.Core.List.{List, [], ◌++◌, append-nil, append_assoc}
use Prim.Native.Nat.{ℕ, ◌+◌, ◌-◌, ◌≤◌}
use native.Mathlib.Nat.{add-zero, le_refl}
use native.Mathlib.Omega.{arith}
use borrow.Author.Tests.{le-ltb}
use borrow.Rule.Slice.PartMut.{mid_of, mid_len, put_mid}
use lib.Dec.{ltb}
use lib.ListN.{length, take, drop, length-append, length-drop, take-append-drop, drop_of_length-le}
use lib.Seq.{length-take-le, take_all, drop-drop, take_at, drop_at}
use Rattle.answers.specs.Outcome.{given}
use Rattle.geometry.specs.declared.Point.{Point}
use Rattle.geometry.specs.Plane.{Disk}
use Rattle.disk_checks.specs.Checks.{check_of}
use Rattle.disk_checks.proofs.CheckLaws.{passed}
use Rattle.record_writer.specs.Layout.{record_length}
use Rattle.record_writer.specs.Bytes.{record_bytes}
use Rattle.record_writer.specs.Writing.{write_of, buffer_after}
use Rattle.record_writer.proofs.ByteLaws.{record_long}
use Rattle.run_steps.specs.Inner.{placed}

module _ (xs : List ℕ) (at : ℕ) where
  tail_length : length (drop at xs) ≤ length xs - at
  tail_length = omega (arith, length-drop at xs)

  tail_is : mid_of at (length xs - at) xs ≡ drop at xs
  tail_is = take_all (length xs - at) (drop at xs) tail_length

  pub put_tail : (ys bytes : List ℕ) → ys ≡ bytes ++ drop (length bytes) (mid_of at (length xs - at) xs) → put_mid at (length xs - at) xs ys ≡ placed at bytes xs
  put_tail ys bytes e =
      let none : drop (length xs - at) (drop at xs) ≡ [] = drop_of_length-le (drop at xs) tail_length in
      let back : ys ≡ bytes ++ drop (at + length bytes) xs = rw (tail_is, drop-drop) at e in
      ap (λ (l : List ℕ). take at xs ++ (ys ++ l)) none ∙ ap (λ (l : List ℕ). take at xs ++ l) (append-nil ys ∙ back)

module _ (at : ℕ) (bytes xs : List ℕ) (within : at ≤ length xs) where
  front_length : length (take at xs ++ bytes) ≡ at + length bytes
  front_length = length-append (take at xs) bytes ∙ ap (λ (n : ℕ). n + length bytes) (length-take-le at xs within)

  split : placed at bytes xs ≡ (take at xs ++ bytes) ++ drop (at + length bytes) xs
  split = sym (append_assoc (take at xs) bytes (drop (at + length bytes) xs))

  pub take-placed : take (at + length bytes) (placed at bytes xs) ≡ take at xs ++ bytes
  take-placed = ap (take (at + length bytes)) split ∙ take_at (take at xs ++ bytes) (drop (at + length bytes) xs) (at + length bytes) front_length

  pub drop-placed : drop (at + length bytes) (placed at bytes xs) ≡ drop (at + length bytes) xs
  drop-placed = ap (drop (at + length bytes)) split ∙ drop_at (take at xs ++ bytes) (drop (at + length bytes) xs) (at + length bytes) front_length

pub placed_none : (at : ℕ) (xs : List ℕ) → placed at [] xs ≡ xs
placed_none at xs = ap (λ (n : ℕ). take at xs ++ drop n xs) (add-zero at) ∙ take-append-drop at xs

-- ---- a record, written at a place by a call that is lent the buffer from there on

module _ (d : Disk) (ps : List Point) (xs : List ℕ) (at : ℕ) (room : at + record_length ≤ length xs) (checked : check_of d ps ≡ given tt) where
  abbrev rest : List ℕ
  rest = mid_of at (length xs - at) xs

  long : ltb (length rest) record_length ≡ false
  long = le-ltb (length rest) record_length (omega (arith, mid_len at (length xs) xs (le_refl (length xs)), room))

  pub write_due : write_of d ps rest ≡ given tt
  write_due = rw (long, checked)

  pub put_record : (ys : List ℕ) → ys ≡ buffer_after d ps rest → put_mid at (length xs - at) xs ys ≡ placed at (record_bytes d ps) xs
  put_record ys e =
      let size : length (record_bytes d ps) ≡ record_length = record_long d ps (passed d ps checked).0 in
      let left : buffer_after d ps rest ≡ record_bytes d ps ++ drop record_length rest = rw (long, checked) in
      put_tail xs at ys (record_bytes d ps) (e ∙ left ∙ ap (λ (k : ℕ). record_bytes d ps ++ drop k rest) (sym size))
