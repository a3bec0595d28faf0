-- `traced_points::is_boxed` meets its contract: the two tests are those of the narrower box.
use mathlib.Core.Path.{◌≡◌, refl, sym, ◌∙◌}
use lib.IntN.{ℤ, ◌+ℤ◌, ◌-ℤ◌}
use mir.Syntax.{w16}
use mir.Val.{to_z, of_z}
use Rattle.integers.specs.Order.{between}
use Rattle.integers.proofs.Tests.{stop, pass}
use Rattle.geometry.specs.EmBox.{em, in_box}
use Rattle.geometry.proofs.Coordinates.{stored}
use Rattle.traced_points.proofs.Narrower.{middle_in}
use Rattle.traced_points.proofs.is_boxed.Goals as goal
use Rattle.traced_points.proofs.is_boxed.Goals.{After-has_room, After-has_room-then-has_room}

-- a coordinate that fits, as the machine reads it back
abbrev Read : ℤ → Type 0
Read z = to_z w16 (of_z w16 z) ≡ z

-- what the first call says, and what both do
first : (c : After-has_room) → let s = c.args.s in c.has_room.result ≡ between (em.left +ℤ s.t) s.x (em.right -ℤ s.t)
first c =
    let s = c.args.s in
    let x : Read s.x = stored s.x c.struct_told-1.given.0.1 in
    let t : Read s.t = stored s.t c.struct_told-2-1.given.1.1.0.1 in
    c.has_room.ensures ∙ (λ i. between (em.left +ℤ t i) (x i) (em.right -ℤ t i))

second : (c : After-has_room-then-has_room) → let s = c.args.s in
    c.has_room-then-has_room.result ≡ between (em.foot +ℤ s.t) s.y (em.top -ℤ s.t)
second c =
    let s = c.args.s in
    let y : Read s.y = stored s.y c.struct_told-then-has_room-1.given.1.0.1 in
    let t : Read s.t = stored s.t c.struct_told-then-has_room-2-1.given.1.1.0.1 in
    c.has_room-then-has_room.ensures ∙ (λ i. between (em.foot +ℤ t i) (y i) (em.top -ℤ t i))

pub returns-then-has_room : goal.returns-then-has_room
unfolding in_box
returns-then-has_room c =
    second c
    ∙ pass (sym (first (goal.at.returns-then-has_room c).After-has_room) ∙ c.if-has_room.true) refl
    ∙ middle_in c.args.s c.requires

pub returns-else-has_room : goal.returns-else-has_room
unfolding in_box
returns-else-has_room c =
    c.if-has_room.false
    ∙ stop _ (sym (first (goal.at.returns-else-has_room c).After-has_room) ∙ c.if-has_room.false)
    ∙ middle_in c.args.s c.requires
