-- `fitting::next_outside` meets its contract: the places from `from` on, and those before it, are all.
use native.Mathlib.Omega.{arith}
use Prim.Native.Nat.{ℕ, ◌≤◌}
use lib.IntN.{ℤ}
use mathlib.Core.List.{List}
use Rattle.std.specs.Prelude.{Option, Some, None}
use Rattle.relative_disks.specs.declared.RelativeDisk.{RelativeDisk}
use Rattle.fitting.specs.Decides.{Held, FirstFrom, OutsideAt}
use Rattle.fitting.proofs.Fronts.{by_place}
use Rattle.fitting.proofs.next_outside.Goals as goal

-- where no place from `from` on is outside, one before it decides
both : (l : List ℤ) (d : RelativeDisk) (from n : ℕ) → from ≤ n → Held l d from n → (r : Option ℕ) → FirstFrom l d 0 from r → OutsideAt l d n r
both l d from n h behind (Some r) p = (omega (arith, p.high, h), p.outside_there)
both l d from n h behind None before = λ i low high. by_place i from (before i low) (λ k. behind i k high)

pub returns-in-Some : goal.returns-in-Some
returns-in-Some c = (c.in-Some.ensures.high, c.in-Some.ensures.outside_there)

pub returns : goal.returns
returns c = both c.args.list.now c.args.d c.args.from _ c.requires.place c.in_default.ensures c.first_outside-2.result c.first_outside-2.ensures
