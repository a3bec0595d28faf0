-- `list_cases::solve_fixed` is safe and ends: the points lie in the em box where it goes on.
use mathlib.Core.Path.{◌≡◌, sym, ◌∙◌}
use mathlib.Core.List.Memᴰ
use mathlib.Core.List.{[]}
use Prim.Native.Nat.{◌*◌, ◌/◌}
use native.Mathlib.Omega.{arith}
use lib.ListN.{length}
use Rattle.geometry.specs.Points.{points}
use Rattle.geometry.proofs.PointLists.{first_points_all}
use Rattle.fixed_points.specs.declared.Boundary.TheVariants.{None, One}
use Rattle.fixed_points.specs.Boundary.{Boxed}
use Rattle.inner_level.proofs.RanLaws.{all_boxed, added-boxed}
use Rattle.list_cases.proofs.solve_fixed.Goals as goal

pub two_fixed-run-requires : goal.two_fixed-run-requires
two_fixed-run-requires g c =
    let l = c.args.list.now in
    let size : length l ≡ 2 * (length l / 2) = omega (arith, c.requires.whole) in
    let none : Boxed [] = record { in_box = λ q m. absurd (Memᴰ.not-nil m) } in
    let all_in = sym c.all_in_em_box.ensures ∙ c.if-not-all_in_em_box.false in
    let a_in = sym c.in_em_box.ensures ∙ c.if-not-in_em_box.false in
    let b_in = sym c.in_em_box-2.ensures ∙ c.if-not-in_em_box-2.false in
    record {
      few = omega (arith, c.requires.few);
      fits = omega arith;
      fixed_boxed = added-boxed (One c.args.b) c.args.a (added-boxed None c.args.b none b_in) a_in;
      list_boxed = rw (first_points_all (length l / 2) l size) (all_boxed (points l) all_in);
    }
