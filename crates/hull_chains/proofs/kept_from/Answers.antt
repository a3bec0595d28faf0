use mathlib.Core.Path.{◌≡◌, sym, ap, ◌∙◌}
use mathlib.Core.List.{List, ◌∷◌}
use Prim.Native.Nat.{ℕ, ◌+◌, ◌-◌}
use native.Mathlib.Omega.{arith}
use lib.ListN.{drop, length-drop}
use Rattle.geometry.specs.declared.Point.{Point}
use Rattle.geometry.specs.Points.{points}
use Rattle.hull.specs.Chains.{push}
use Rattle.hull.proofs.Pushed.{push_keep, push-drop}
use Rattle.hull_chains.proofs.Spanning.{points_from_back, points-length, push_short}
use Rattle.hull_chains.proofs.kept_from.Goals as goal
use Rattle.hull_chains.proofs.kept_from.Goals.{After-turns_left}

-- the two points in front of what is left
one : (c : After-turns_left) → drop c.loop-k.k (points c.args.chain.now) ≡ c.point_at-c.result ∷ drop (c.loop-k.k + 1) (points c.args.chain.now)
one c = points_from_back c.loop-k.k c.args.chain.now c.point_at-c.result (omega (arith, c.loop-k-test.true)) c.point_at-c.ensures

two : (c : After-turns_left)
    → drop (c.loop-k.k - 1) (points c.args.chain.now)
    ≡ c.point_at-b.result ∷ c.point_at-c.result ∷ drop (c.loop-k.k + 1) (points c.args.chain.now)
two c =
    let back : c.loop-k.k - 1 + 1 ≡ c.loop-k.k = omega (arith, c.loop-k.auto.k) in
    points_from_back (c.loop-k.k - 1) c.args.chain.now c.point_at-b.result (omega (arith, c.loop-k-test.true)) c.point_at-b.ensures
    ∙ ap {B = List Point} (λ Q. c.point_at-b.result ∷ Q) (ap (λ (k : ℕ). drop k (points c.args.chain.now)) back ∙ one c)

pub returns-then-turns_left : goal.returns-then-turns_left
returns-then-turns_left c =
    let here = (goal.at.returns-then-turns_left c).After-turns_left in
    let p = c.args.p in
    let rest = drop (c.loop-k.k + 1) (points c.args.chain.now) in (
      omega (arith, c.loop-k-test.true),
      c.loop-k.invariant.1 ∙ ap (push p) (two here)
          ∙ push_keep p c.point_at-b.result c.point_at-c.result rest (sym c.turns_left.ensures ∙ c.if-turns_left.true)
          ∙ ap {B = List Point} (λ Q. p ∷ Q) (sym (two here)),
    )

pub loop-k-preserved : goal.loop-k-preserved
loop-k-preserved c =
    let here = (goal.at.loop-k-preserved c).After-turns_left in
    let p = c.args.p in
    let rest = drop (c.loop-k.k + 1) (points c.args.chain.now) in
    let next : c.loop-k.k + 1 - 1 ≡ c.loop-k.k = omega arith in (
      omega arith,
      rw next (c.loop-k.invariant.1 ∙ ap (push p) (two here)
          ∙ push-drop p c.point_at-b.result c.point_at-c.result rest (sym c.turns_left.ensures ∙ c.if-turns_left.false)
          ∙ ap (push p) (sym (one here))),
    )

pub returns : goal.returns
returns c =
    let L = points c.args.chain.now in
    let k = c.saturating_sub.result in
    let last : c.loop-k.k - 1 ≡ k = omega (arith, c.loop-k.auto.k, c.loop-k-test.false, c.loop-k.invariant.0, c.saturating_sub.ensures) in (
      omega (arith, c.saturating_sub.ensures),
      c.loop-k.invariant.1 ∙ ap (λ (i : ℕ). push c.args.p (drop i L)) last
          ∙ push_short c.args.p (drop k L) (omega (arith, length-drop k L, points-length c.args.chain.now, c.saturating_sub.ensures)),
    )
