use mathlib.Core.Path.{sym, ◌∙◌}
use native.Mathlib.Omega.{arith}
use Rattle.geometry.specs.EmBox.{em}
use Rattle.geometry.specs.Plane.{numbers}
use Rattle.validity.proofs.ValidLaws.{limits}
use Rattle.radius.proofs.RadiusLaws.{clears_less, clears_limit, radius_only}
use Rattle.radius.proofs.least_clear.Goals as goal

pub loop-low-init : goal.loop-low-init
loop-low-init c = record {
  ordered = omega arith;
  limited = omega arith;
  clear = clears_limit (numbers c.args.d.disk) (limits em (numbers c.args.d.disk) c.args.d.valid);
  below = λ k l. absurd (omega arith);
}

pub loop-low-preserved : goal.loop-low-preserved
loop-low-preserved c = record {
  ordered = omega arith;
  limited = omega arith;
  clear = c.loop-low.invariant.clear;
  below = λ k l. clears_less (numbers c.args.d.disk) (omega arith) (sym c.is_clear.ensures ∙ c.if-is_clear.false);
}

pub returns : goal.returns
returns c =
    let at = c.loop-low.invariant in
    radius_only (numbers c.args.d.disk) (limits em (numbers c.args.d.disk) c.args.d.valid).e_some
    (record { passes = at.clear; first = λ k l. at.below k (omega arith) })
