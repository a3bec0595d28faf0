-- `welzl::smallest` meets its contract: the promise of `mtf`, with no point fixed, in the terms of the definitions.
use mathlib.Core.Path.{◌≡◌, sym, ap, ◌∙◌}
use mathlib.Core.List.Memᴰ
use Prim.Native.Nat.{◌*◌, ◌/◌}
use native.Mathlib.Omega.{arith}
use lib.ListN.{length}
use Rattle.geometry.specs.Points.{points}
use Rattle.geometry.proofs.PointLists.{first_points_all, length-first_points}
use Rattle.inner_level.proofs.RanLaws.{all_boxed}
use Rattle.welzl.proofs.WholeRun.{Answered, kept_answer, Whole, ran-whole}
use Rattle.welzl.proofs.smallest.Goals as goal
use Rattle.welzl.proofs.smallest.Goals.{After-mtf-run, Start}

-- the list has an even length
halved : (c : Start) → length c.args.list.now ≡ 2 * (length c.args.list.now / 2)
halved c = omega (arith, c.requires.even)

halved_then : (c : After-mtf-run) → length c.args.list.now ≡ 2 * (length c.args.list.now / 2)
halved_then c = omega (arith, c.requires.even)

-- what the call promises, of the whole list
whole : (c : After-mtf-run) → Whole c.args.list.now c.mtf-run.new.list c.mtf-run.result.disk c.mtf-run.result.tests
whole c = ran-whole (length c.args.list.now / 2) c.args.list.now c.mtf-run.new.list c.mtf-run.result.disk
    c.mtf-run.result.tests (halved_then c) c.mtf-run.ensures

answered : (c : After-mtf-run) → Answered (points c.args.list.now) c.mtf-run.result.disk
answered c =
    let l = c.args.list.now in
    let n = length l / 2 in
    let size = ap length (sym (first_points_all n l (halved_then c))) ∙ length-first_points n l (omega (arith, halved_then c)) in
    kept_answer (points l) c.mtf-run.result.disk (omega (arith, halved_then c, c.requires.some, size)) (whole c).keeps

pub mtf-run-requires : goal.mtf-run-requires
mtf-run-requires c =
    let s = (goal.at.mtf-run-requires c).Start in
    let l = c.args.list.now in
    record {
      few = omega (arith, halved s, c.requires.few);
      fits = omega (arith, halved s);
      fixed_boxed = record { in_box = λ q m. absurd (Memᴰ.not-nil m) };
      list_boxed = rw (first_points_all (length l / 2) l (halved s)) (all_boxed (points l) c.requires.boxed);
    }

pub written-requires : goal.written-requires
written-requires c =
    let a = answered (goal.at.written-requires c).After-mtf-run in
    record { proper = a.proper; small = a.small }

pub returns : goal.returns
returns c =
    let s = (goal.at.returns c).After-mtf-run in
    record { disk = c.written.ensures ∙ (answered s).disk; tests = (whole s).tests_are; order = (whole s).order_is }
