use mathlib.Core.Path.{◌≡◌, refl, sym, ap, ◌∙◌}
use mathlib.Core.List.{List, ◌∷◌}
use Prim.Native.Nat.{ℕ, ◌+◌, ◌-◌, ◌/◌}
use native.Mathlib.Omega.{arith}
use lib.ListN.{drop, length}
use Rattle.geometry.specs.declared.Point.{Point}
use Rattle.geometry.specs.Points.{points}
use Rattle.geometry.proofs.PointRows.{points_end}
use Rattle.hull.specs.Chains as Chains
use Rattle.hull.specs.Skimmed.{is_needed, skimmed, skim_chain}
use Rattle.hull.proofs.Skimmed.{skim_none, skim_keep, skim_drop}
use Rattle.hull_chains.proofs.Spanning.{points_from_back, points_tail}
use Rattle.hull_chains.proofs.chain.Goals as goal
use Rattle.hull_chains.proofs.chain.Goals.{After-is_needed}

-- the point that was read, and the outcome of its test
this : (c : After-is_needed) → drop (c.loop-i.i - 1) (points c.args.list.now) ≡ c.point_at-p.result ∷ drop c.loop-i.i (points c.args.list.now)
this c =
    let i = c.loop-i.i in
    let l = c.args.list.now in
    let p = c.point_at-p.result in
    let v = c.loop-i.invariant in
    let more = c.loop-i-test.true in
    let back : i - 1 + 1 ≡ i = omega (arith, more) in
    points_from_back (i - 1) l p (omega (arith, more, v.1, v.2, v.3)) (c.point_at-p.ensures ∙ v.4.0 (i - 1) (omega (arith, more)))
    ∙ ap {B = List Point} (λ k. p ∷ drop k (points l)) back

test : (c : After-is_needed)
    → c.is_needed.result ≡ is_needed c.point_at-a.result c.point_at-p.result (Chains.chain (skimmed c.point_at-a.result (drop c.loop-i.i (points c.args.list.now))))
test c = c.is_needed.ensures
    ∙ ap (is_needed c.point_at-a.result c.point_at-p.result) (points_tail c.loop-i.m c.loop-i.list ∙ c.loop-i.invariant.4.1)

pub loop-i-init : goal.loop-i-init
unfolding Chains.chain
loop-i-init c =
    let none = points_end (length c.args.list.now / 2) c.args.list.now (omega arith) in (
      omega (arith, c.requires),
      omega arith,
      omega arith,
      refl,
      ((λ j h. refl), none ∙ sym (ap Chains.chain (ap (skimmed c.point_at-a.result) none ∙ skim_none c.point_at-a.result))),
    )

pub loop-i-preserved-then-is_needed : goal.loop-i-preserved-then-is_needed
unfolding Chains.chain
loop-i-preserved-then-is_needed c =
    let here = (goal.at.loop-i-preserved-then-is_needed c).After-is_needed in
    let v = c.loop-i.invariant in
    let more = c.loop-i-test.true in
    let q = c.push-m in
    let a = c.point_at-a.result in
    let p = c.point_at-p.result in
    let rest = drop c.loop-i.i (points c.args.list.now) in
    let kept : skimmed a (p ∷ rest) ≡ p ∷ skimmed a rest = skim_keep a p rest (sym (test here) ∙ c.if-is_needed.true) in (
      omega (arith, more),
      omega (arith, q.ensures.room.0, v.1),
      omega (arith, q.ensures.room.1, q.auto.list),
      q.auto.list ∙ v.3,
      (
        (λ j h. q.ensures.before j (omega (arith, h, v.1)) ∙ v.4.0 j (omega (arith, h))),
        q.ensures.left ∙ ap (Chains.push p) v.4.1 ∙ sym (ap Chains.chain (ap (skimmed a) (this here) ∙ kept)),
      ),
    )

pub loop-i-preserved : goal.loop-i-preserved
loop-i-preserved c =
    let here = (goal.at.loop-i-preserved c).After-is_needed in
    let v = c.loop-i.invariant in
    let more = c.loop-i-test.true in
    let a = c.point_at-a.result in
    let p = c.point_at-p.result in
    let rest = drop c.loop-i.i (points c.args.list.now) in (
      omega (arith, more),
      omega (arith, v.1),
      v.2,
      v.3,
      (
        (λ j h. v.4.0 j (omega (arith, h))),
        v.4.1 ∙ sym (ap Chains.chain (ap (skimmed a) (this here) ∙ skim_drop a p rest (sym (test here) ∙ c.if-is_needed.false))),
      ),
    )

pub returns-clause-left : goal.returns-clause-left
unfolding Chains.chain skim_chain
returns-clause-left c =
    let l = c.args.list.now in
    let a = c.point_at-a.result in
    let v = c.loop-i.invariant in
    let all : c.loop-i.i ≡ 1 = omega (arith, c.loop-i-test.false, v.0) in
    let whole : points l ≡ a ∷ drop 1 (points l) = points_from_back 0 l a c.requires c.point_at-a.ensures in
    c.push.ensures.left ∙ ap (Chains.push a) (v.4.1 ∙ ap (λ (k : ℕ). Chains.chain (skimmed a (drop k (points l)))) all)
    ∙ sym (ap skim_chain whole)
