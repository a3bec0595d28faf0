use mathlib.Core.Path.{◌≡◌, sym, ap, ◌∙◌}
use mathlib.Core.Bool.{Bool, ◌&&◌, and-true, and_assoc}
use mathlib.Core.List.{List, [], ◌∷◌}
use Rattle.geometry.specs.declared.Point.{Point}
use Rattle.geometry.specs.EmBox.{all_in_box, in_em_box, all_in_em_box}
use Rattle.geometry.specs.Points.{points}
use Rattle.engine.proofs.all_in_em_box.Goals as goal

box_next : {P : List Point} (p : Point) (rest : List Point) → P ≡ p ∷ rest → all_in_em_box P ≡ in_em_box p && all_in_em_box rest
unfolding all_in_box
box_next p rest e = ap all_in_em_box e

box_end : {P : List Point} (b : Bool) → P ≡ [] → b && all_in_em_box P ≡ b
unfolding all_in_box
box_end b e = ap (λ (P : List Point). b && all_in_em_box P) e ∙ and-true b

pub loop-p-init : goal.loop-p-init
loop-p-init c =
    sym (ap all_in_em_box ((λ i. points (c.into_iter-p-iterator.ensures.into_iter_gives i).0.now) ∙ c.points-p-items.ensures))

pub loop-p-preserved : goal.loop-p-preserved
loop-p-preserved c =
    let p = c.in-Some.p in
    let rest = points c.next.new.self.0.now in
    c.loop-p.invariant
    ∙ ap (λ (b : Bool). c.loop-p.all && b) (box_next p rest c.in-Some.ensures.steps ∙ ap (λ (b : Bool). b && all_in_em_box rest) (sym c.in_em_box-all.ensures))
    ∙ sym (and_assoc c.loop-p.all c.in_em_box-all.result (all_in_em_box rest))

pub returns : goal.returns
returns c = sym (c.loop-p.invariant ∙ box_end c.loop-p.all c.in-None.ensures.steps.0)
