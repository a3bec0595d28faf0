use mathlib.Core.Path.{◌≡◌, refl, sym, ap, ◌∙◌}
use mathlib.Core.List.{List, [], ◌∷◌, ◌++◌}
use Prim.Native.Nat.{ℕ, ◌+◌, ◌*◌, ◌≤◌, ◌<◌}
use native.Mathlib.Omega.{arith}
use lib.IntN.{ℤ}
use lib.ListN.{length, drop}
use Rattle.geometry.specs.declared.Point.{Point}
use Rattle.geometry.specs.Points.{point_at, first_points}
use Rattle.geometry.specs.Plane.{Disk, numbers}
use Rattle.geometry.proofs.PointRows.{first_points-from, first_points_end}
use Rattle.disks.specs.Support.{choose}
use Rattle.support_tests.specs.Tests.{fits}
use Rattle.support_search.specs.Search.{first_fit}
use Rattle.support_search.proofs.Left.{fit_some, acute_set, three-acute, ones_hit, ones_miss, pairs_from, triples_from, pairs-at, pair_hit, pair_miss}
use Rattle.support_search.proofs.Left.{pairs_with_end, pairs_end, triples_at, triples_with_at, triple_hit, triple_miss, triples_of_end, triples_with_end}
use Rattle.support_search.proofs.Left.{triples_end}
use Rattle.support_search.proofs.search.Goals as goal

-- a point that was read is the first of those from there on
next : (list : List ℤ) (n i : ℕ) {p : Point} → 2 * n ≤ length list → p ≡ point_at list i → i < n
    → drop i (first_points n list) ≡ p ∷ drop (i + 1) (first_points n list)
next list n i long e h = first_points-from n i list long h ∙ ap {B = List Point} (λ q. q ∷ drop (i + 1) (first_points n list)) (sym e)

none : (list : List ℤ) (n i : ℕ) → 2 * n ≤ length list → n ≤ i → drop i (first_points n list) ≡ []
none list n i long h = first_points_end n i list long h

-- no pair passes: the first triple is the answer
after_pairs : (d : Disk) (Q : List Point) (i : ℕ) → drop i Q ≡ [] → pairs_from (fits d) Q i ≡ first_fit d Q
    → triples_from acute_set Q 0 ≡ first_fit d Q
after_pairs d Q i e h = sym (three-acute d Q) ∙ sym (pairs_end (fits d) Q i e) ∙ h

pub point_at-requires : goal.point_at-requires
point_at-requires c = omega (arith, fit_some (numbers c.args.disk) c.args.n c.args.list.now c.requires.2, c.requires.0)

pub returns-then-is_zero : goal.returns-then-is_zero
unfolding first_fit fits
returns-then-is_zero c =
    let Q : List Point = first_points c.args.n c.args.list.now in
    let some : 0 < c.args.n = fit_some (numbers c.args.disk) c.args.n c.args.list.now c.requires.2 in
    sym (ones_hit (fits (numbers c.args.disk)) Q c.point_at.result (drop 1 Q) (next c.args.list.now c.args.n 0 c.requires.0 c.point_at.ensures some)
    (sym c.is_zero.ensures ∙ c.if-is_zero.true))

pub search-init : goal.search-init
unfolding first_fit fits
search-init c =
    let Q : List Point = first_points c.args.n c.args.list.now in
    sym (ones_miss (fits (numbers c.args.disk)) Q Q (choose 2 Q ++ choose 3 Q) (λ p. sym c.is_zero.ensures ∙ c.if-is_zero.false))

-- ---- pairs

pub loop-j-init : goal.loop-j-init
loop-j-init c =
    let i = c.loop-i.i in
    let first = next c.args.list.now c.args.n i c.requires.0 c.point_at-p.ensures c.loop-i-test.true in
    (omega arith, sym (pairs-at (fits (numbers c.args.disk)) (first_points c.args.n c.args.list.now) c.point_at-p.result i first) ∙ c.loop-i.invariant.1)

pub loop-j-preserved : goal.loop-j-preserved
unfolding fits
loop-j-preserved c =
    let Q = first_points c.args.n c.args.list.now in
    let second = next c.args.list.now c.args.n c.loop-j.j c.requires.0 c.point_at-q.ensures c.loop-j-test.true in (
      omega arith,
      sym (pair_miss (fits (numbers c.args.disk)) Q c.point_at-p.result c.loop-i.i c.point_at-q.result c.loop-j.j second
          (sym c.is_opposite.ensures ∙ c.if-is_opposite.false)) ∙ c.loop-j.invariant.1,
    )

pub loop-i-preserved : goal.loop-i-preserved
loop-i-preserved c =
    let end = none c.args.list.now c.args.n c.loop-j.j c.requires.0 c.loop-j-test.false in (
      omega arith,
      sym (pairs_with_end (fits (numbers c.args.disk)) (first_points c.args.n c.args.list.now) c.point_at-p.result c.loop-i.i c.loop-j.j end)
          ∙ c.loop-j.invariant.1,
    )

pub returns-then-is_opposite : goal.returns-then-is_opposite
unfolding fits
returns-then-is_opposite c =
    let Q = first_points c.args.n c.args.list.now in
    let second = next c.args.list.now c.args.n c.loop-j.j c.requires.0 c.point_at-q.ensures c.loop-j-test.true in
    sym (pair_hit (fits (numbers c.args.disk)) Q c.point_at-p.result c.loop-i.i c.point_at-q.result c.loop-j.j second
    (sym c.is_opposite.ensures ∙ c.if-is_opposite.true)) ∙ c.loop-j.invariant.1

-- ---- triples

pub loop-i-2-init : goal.loop-i-2-init
loop-i-2-init c = (omega arith, refl)

pub loop-j-2-init : goal.loop-j-2-init
loop-j-2-init c =
    let i = c.loop-i-2.i in
    let first = next c.args.list.now c.args.n i c.requires.0 c.point_at-p-in-loop-i-2.ensures c.loop-i-2-test.true in (
      omega arith,
      sym (triples_at acute_set (first_points c.args.n c.args.list.now) c.point_at-p-in-loop-i-2.result i first) ∙ c.loop-i-2.invariant.1,
    )

pub loop-k-init : goal.loop-k-init
loop-k-init c =
    let j = c.loop-j-2.j in
    let second = next c.args.list.now c.args.n j c.requires.0 c.point_at-q-in-loop-j-2.ensures c.loop-j-2-test.true in (
      omega arith,
      sym (triples_with_at acute_set (first_points c.args.n c.args.list.now) c.point_at-p-in-loop-i-2.result c.loop-i-2.i
          c.point_at-q-in-loop-j-2.result j second) ∙ c.loop-j-2.invariant.1,
    )

pub loop-k-preserved : goal.loop-k-preserved
unfolding acute_set
loop-k-preserved c =
    let third = next c.args.list.now c.args.n c.loop-k.k c.requires.0 c.point_at-r.ensures c.loop-k-test.true in (
      omega arith,
      sym (triple_miss acute_set (first_points c.args.n c.args.list.now) c.point_at-p-in-loop-i-2.result c.loop-i-2.i c.point_at-q-in-loop-j-2.result
          c.loop-j-2.j c.point_at-r.result c.loop-k.k third (sym c.is_acute.ensures ∙ c.if-is_acute.false)) ∙ c.loop-k.invariant.1,
    )

pub loop-j-2-preserved : goal.loop-j-2-preserved
loop-j-2-preserved c =
    let end = none c.args.list.now c.args.n c.loop-k.k c.requires.0 c.loop-k-test.false in (
      omega arith,
      sym (triples_of_end acute_set (first_points c.args.n c.args.list.now) c.point_at-p-in-loop-i-2.result c.loop-i-2.i c.point_at-q-in-loop-j-2.result
          c.loop-j-2.j c.loop-k.k end) ∙ c.loop-k.invariant.1,
    )

pub loop-i-2-preserved : goal.loop-i-2-preserved
loop-i-2-preserved c =
    let end = none c.args.list.now c.args.n c.loop-j-2.j c.requires.0 c.loop-j-2-test.false in (
      omega arith,
      sym (triples_with_end acute_set (first_points c.args.n c.args.list.now) c.point_at-p-in-loop-i-2.result c.loop-i-2.i c.loop-j-2.j end)
          ∙ c.loop-j-2.invariant.1,
    )

pub returns-then-is_acute : goal.returns-then-is_acute
unfolding acute_set
returns-then-is_acute c =
    let Q = first_points c.args.n c.args.list.now in
    let third = next c.args.list.now c.args.n c.loop-k.k c.requires.0 c.point_at-r.ensures c.loop-k-test.true in
    sym (triple_hit acute_set Q c.point_at-p-in-loop-i-2.result c.loop-i-2.i c.point_at-q-in-loop-j-2.result c.loop-j-2.j c.point_at-r.result c.loop-k.k
    third (sym c.is_acute.ensures ∙ c.if-is_acute.true))
    ∙ c.loop-k.invariant.1
    ∙ after_pairs (numbers c.args.disk) Q c.loop-i.i (none c.args.list.now c.args.n c.loop-i.i c.requires.0 c.loop-i-test.false) c.loop-i.invariant.1

pub returns-after-loop-i-2 : goal.returns-after-loop-i-2
returns-after-loop-i-2 c =
    let d = numbers c.args.disk in
    let Q = first_points c.args.n c.args.list.now in
    let last = after_pairs d Q c.loop-i.i (none c.args.list.now c.args.n c.loop-i.i c.requires.0 c.loop-i-test.false) c.loop-i.invariant.1 in
    let end = triples_end acute_set Q c.loop-i-2.i (none c.args.list.now c.args.n c.loop-i-2.i c.requires.0 c.loop-i-2-test.false) in
    let no-set : first_fit d Q ≡ [] = sym last ∙ sym c.loop-i-2.invariant.1 ∙ end in
    absurd (omega (arith, c.requires.2, ap length no-set))
