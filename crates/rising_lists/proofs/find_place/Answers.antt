use borrow.Author.Rules.{rules}
use mathlib.Core.Path.{◌≡◌, refl, sym, ap, ◌∙◌}
use mathlib.Core.List.{List, ◌∷◌}
use native.Mathlib.Omega.{arith}
use lib.ListN.{drop}
use Rattle.std.specs.Prelude.{Some}
use Prim.Native.Nat.{◌+◌}
use Rattle.geometry.specs.declared.Point.{Point}
use Rattle.geometry.specs.Points.{first_points}
use Rattle.geometry.proofs.PointRows.{first_points-from, first_points_end}
use Rattle.point_lists.proofs.Order.{behind_not_before}
use Rattle.rising_lists.specs.Place.{place_of}
use Rattle.rising_lists.proofs.Placing.{place_here, place_there, place_later}
use Rattle.rising_lists.proofs.find_place.Goals as goal
use Rattle.rising_lists.proofs.find_place.Goals.{After-point_at-q}

-- with the point that was read, what is left to look at gives the place
left : (c : After-point_at-q)
    → place_of c.args.p (c.point_at-q.result ∷ drop (c.loop-k.k + 1) (first_points c.args.n c.args.list.now)) c.loop-k.k
    ≡ place_of c.args.p (first_points c.args.n c.args.list.now) 0
left c =
    let k = c.loop-k.k in
    let Q = first_points c.args.n c.args.list.now in
    ap (λ (R : List Point). place_of c.args.p R k)
    (ap {B = List Point} (λ x. x ∷ drop (k + 1) Q) c.point_at-q.ensures
    ∙ sym (first_points-from c.args.n k c.args.list.now c.requires c.loop-k-test.true))
    ∙ c.loop-k.invariant.1

pub loop-k-init : goal.loop-k-init
loop-k-init c = (search rules, refl)

pub loop-k-preserved : goal.loop-k-preserved
loop-k-preserved c =
    let q = c.point_at-q.result in
    let Q = first_points c.args.n c.args.list.now in
    let is-behind = sym c.is_before.ensures ∙ c.if-not-is_before.false in (
      omega arith,
      sym (place_later c.args.p q (drop (c.loop-k.k + 1) Q) c.loop-k.k (behind_not_before c.args.p q is-behind) is-behind)
          ∙ left (goal.at.loop-k-preserved c).After-point_at-q,
    )

pub returns-then-is_before : goal.returns-then-is_before
returns-then-is_before c =
    let Q = first_points c.args.n c.args.list.now in
    sym (place_here c.args.p c.point_at-q.result (drop (c.loop-k.k + 1) Q) c.loop-k.k (sym c.is_before-then-not-is_before.ensures ∙ c.if-is_before.true))
    ∙ left (goal.at.returns-then-is_before c).After-point_at-q

pub returns-then-not-is_before : goal.returns-then-not-is_before
returns-then-not-is_before c =
    let Q = first_points c.args.n c.args.list.now in
    sym (place_there c.args.p c.point_at-q.result (drop (c.loop-k.k + 1) Q) c.loop-k.k (sym c.is_before-then-not-is_before.ensures ∙ c.if-is_before.false)
    (sym c.is_before.ensures ∙ c.if-not-is_before.true))
    ∙ left (goal.at.returns-then-not-is_before c).After-point_at-q

pub returns : goal.returns
unfolding place_of
returns c =
    let e : c.loop-k.k ≡ c.args.n = omega arith in
    let none = first_points_end c.args.n c.loop-k.k c.args.list.now c.requires c.loop-k-test.false in
    ap Some (sym e) ∙ sym (ap (λ (R : List Point). place_of c.args.p R c.loop-k.k) none) ∙ c.loop-k.invariant.1
