-- `support_span::span_with` meets its contract: two opposite points of the list span what is strictly between them.
use mathlib.Core.Path.{◌≡◌, refl, sym, subst, ◌∙◌}
use mathlib.Core.List.{List, ◌∷◌, Memᴰ}
use Rattle.std.proofs.Common.{rules}
use Rattle.geometry.specs.declared.Point.{Point}
use Rattle.geometry.specs.Points.{points}
use Rattle.geometry.specs.Plane.{numbers}
use Rattle.point_lists.specs.Sets.{In}
use Rattle.support_span.proofs.Spans.{across_spans, opposite_swap}
use Rattle.support_span.proofs.span_with.Goals as goal

-- the next point is among those that are left, and so are those behind it
first : {P Q : List Point} {q : Point} → P ≡ q ∷ Q → In q P
first {q = q} e = subst (λ (L : List Point). In q L) (sym e) (Memᴰ.head refl)

behind : {P Q : List Point} {q : Point} → P ≡ q ∷ Q → (r : Point) → In r Q → In r P
behind e r i = subst (λ (L : List Point). In r L) (sym e) (Memᴰ.tail i)

pub loop-q-init : goal.loop-q-init
loop-q-init c = λ r i. subst (λ (L : List Point). In r L) (search rules) i

pub returns-then-p-q : goal.returns-then-p-q
returns-then-p-q c =
    let q_in = c.loop-q.invariant c.in-Some.q (first c.in-Some.ensures.steps) in
    across_spans (numbers c.args.disk) (points c.args.list.now) c.args.p c.in-Some.q c.requires.among q_in
    (sym c.is_opposite.ensures ∙ c.if-is_opposite.true) (search rules) (search rules)

pub returns-then-is_opposite : goal.returns-then-is_opposite
returns-then-is_opposite c =
    let d = numbers c.args.disk in
    let q_in = c.loop-q.invariant c.in-Some.q (first c.in-Some.ensures.steps) in
    across_spans d (points c.args.list.now) c.in-Some.q c.args.p q_in c.requires.among
    (opposite_swap d c.in-Some.q c.args.p ∙ sym c.is_opposite.ensures ∙ c.if-is_opposite.true) (search rules) (search rules)

pub loop-q-preserved : goal.loop-q-preserved
loop-q-preserved c = λ r i. c.loop-q.invariant r (behind c.in-Some.ensures.steps r i)
