-- `engine::smallest_disk` meets its contract: a list that passes the checks gets what the procedure and the search give, any other is refused as
-- they say and left as it is.
use mathlib.Core.Path.{◌≡◌, sym, subst, ◌∙◌}
use native.Mathlib.Omega.{arith}
use Rattle.answers.specs.Outcome.{given}
use Rattle.geometry.specs.Plane.{Disk, members, on_boundary}
use Rattle.geometry.specs.Points.{points, point_at}
use Rattle.geometry.proofs.PointRows.{points_some}
use Rattle.disks.specs.Support.{first_support}
use Rattle.engine.proofs.Accepted.{accepted_list}
use Rattle.engine.proofs.Checks.{list_refused, list_accepted, even_length, some_length}
use Rattle.engine.proofs.LeftList.{box_left, disk_left, support_left, front_left}
use Rattle.engine.proofs.smallest_disk.Goals as goal

pub returns-in_err-check-clause-order : goal.returns-in_err-check-clause-order
returns-in_err-check-clause-order c = sym (list_refused c.args.list.now c.in_err-check.ensures)

pub smallest-run-requires : goal.smallest-run-requires
smallest-run-requires c =
    let l = c.args.list.now in
    let r = accepted_list l _ c.in_ok-check.ensures in
    record {
      even = even_length l r.even;
      some = some_length l r.some;
      few = omega (arith, r.few, even_length l r.even);
      boxed = r.boxed;
    }

pub first_support-support-requires : goal.first_support-support-requires
first_support-support-requires c =
    let l = c.args.list.now in
    let r = accepted_list l _ c.in_ok-check.ensures in
    let left = c.smallest-run.ensures.order in
    record {
      some = omega (arith, c.smallest-run.auto.list, some_length l r.some, even_length l r.even);
      most = omega (arith, c.smallest-run.auto.list, r.few, even_length l r.even);
      boxed = box_left (points l) left r.boxed;
      smallest = c.smallest-run.ensures.disk ∙ sym (disk_left (points l) left);
      front = subst (λ (k : Disk). on_boundary k (point_at c.smallest-run.new.list 0)) (sym c.smallest-run.ensures.disk)
          (front_left (points l) left (points_some l (omega (arith, some_length l r.some, even_length l r.even))));
    }

pub returns-clause-answer : goal.returns-clause-answer
returns-clause-answer c =
    let l = c.args.list.now in
    let e = c.in_ok-check.ensures in
    let t : members c.first_support-support.result ≡ first_support (points l) =
    c.first_support-support.ensures ∙ support_left (points l) c.smallest-run.ensures.order in
    (λ i. given (record { disk = c.smallest-run.ensures.disk i; support = t i; tests = c.smallest-run.ensures.tests i })) ∙ sym e

pub returns-clause-order : goal.returns-clause-order
returns-clause-order c = c.smallest-run.ensures.order ∙ sym (list_accepted c.args.list.now c.in_ok-check.ensures)
