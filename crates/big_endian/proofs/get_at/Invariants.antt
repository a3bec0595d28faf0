-- `big_endian::get_at` meets its contract. The loop's invariant: reading the bytes that are left, below the digits read, gives what was asked;
-- and the number so far has 8 digits for each byte read.
use mathlib.Core.Path.{◌≡◌}
use Prim.Native.Nat.{◌+◌, ◌-◌, ◌*◌, ◌^◌, ◌≤◌, ◌<◌}
use Rattle.big_endian.specs.Fields.{get}
use Rattle.big_endian.proofs.get_at.Given as goal

abbrev pub invariant-loop-b : goal.invariant-loop-b
invariant-loop-b l =
    (l.b-index ≤ l.n) × (l.sum < 2 ^ (8 * l.b-index)) × (get (l.n - l.b-index) l.sum (l.at + l.b-index) l.buf ≡ get l.n 0 l.at l.buf)
