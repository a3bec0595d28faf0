-- `rising_lists::insert_point` meets its contract: the point goes in at the place that was found, or the list stays.
use mathlib.Core.Path.{◌≡◌, sym, ap, ◌∙◌}
use Prim.Native.Nat.{ℕ, ◌+◌}
use native.Mathlib.Omega.{arith}
use lib.ListN.{length}
use Rattle.geometry.specs.Points.{first_points}
use Rattle.geometry.proofs.PointLists.{length-first_points}
use Rattle.point_lists.specs.Rising.{insert}
use Rattle.rising_lists.proofs.Placing.{Placed, placed, there, placed_is, placed-length}
use Rattle.rising_lists.proofs.insert_point.Goals as goal
use Rattle.rising_lists.proofs.insert_point.Goals.{In-Some}

-- where p goes in
found : (c : In-Some) → Placed c.args.p (first_points c.args.n c.args.list.now) 0 c.in-Some.k
found c = placed c.args.p (first_points c.args.n c.args.list.now) 0 c.in-Some.k (sym c.in-Some.ensures)

pub insert_at-requires : goal.insert_at-requires
insert_at-requires c = (
  omega (arith, (found (goal.at.insert_at-requires c).In-Some).fit, length-first_points c.args.n c.args.list.now (omega arith)),
  c.requires,
)

pub returns-in-None : goal.returns-in-None
returns-in-None c =
    let Q = first_points c.args.n c.args.list.now in
    let e : insert c.args.p Q ≡ Q = there c.args.p Q 0 (sym c.in-None.ensures) in
    record { size = sym (ap length e ∙ length-first_points c.args.n c.args.list.now (omega arith)); left = sym e }

pub returns-in-Some : goal.returns-in-Some
returns-in-Some c =
    let s = (goal.at.returns-in-Some c).In-Some in
    let Q = first_points c.args.n c.args.list.now in
    let k = c.in-Some.k in record {
      size = sym (placed-length c.args.p Q k (found s) ∙ ap (λ (m : ℕ). m + 1) (length-first_points c.args.n c.args.list.now (omega arith)));
      left = c.insert_at.ensures ∙ sym (placed_is c.args.p Q k (found s));
    }
