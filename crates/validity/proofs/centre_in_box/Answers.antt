-- `validity::centre_in_box` meets its contract: each test is one of `centre_in_box`'s row, and the limits are narrow enough for the products.
use mathlib.Core.Path.{◌≡◌, sym, ◌∙◌}
use Prim.Native.Nat.{ℕ, ◌^◌, ◌≤◌}
use native.Mathlib.Nat.{lt_of_le_of_lt}
use borrow.Author.Rules.{rules}
use lib.Dec.{ltb→lt}
use lib.IntN.{ℤ, pos, nat_abs, ◌*ℤ◌}
use mir.Syntax.{w64}
use mir.Val.{SFits, to_z, of_z}
use Rattle.integers.specs.Order.{between}
use Rattle.integers.proofs.Tests.{stop, pass}
use Rattle.integers.proofs.Bounds.{Value, v_nat, v_mul, v_abs, v_back, fits, back}
use Rattle.geometry.specs.declared.Limits.{Limits}
use Rattle.geometry.specs.EmBox.{largest}
use Rattle.geometry.proofs.EmBox.{left_size, right_size, foot_size, top_size}
use Rattle.validity.specs.Narrow.{Narrow}
use Rattle.validity.specs.Valid.{centre_in_box}
use Rattle.validity.proofs.ValidLaws.{scaled_fits}
use Rattle.validity.proofs.centre_in_box.Goals as goal
use Rattle.validity.proofs.centre_in_box.Goals.{After-is_between}

pub overflow_cast-e : goal.overflow_cast-e
overflow_cast-e c = record { sfits = lt_of_le_of_lt c.requires (ltb→lt c.args.l.limits.scale (2 ^ 63) c.args.l.narrow.scale_fits) }

-- a limit of the box times E, as the machine has it
abbrev scaled : (l : Limits) (e : ℕ) → e ≤ l.scale → (k : ℤ) → nat_abs k ≤ largest l → Value (to_z w64 (of_z w64 k) *ℤ to_z w64 e)
scaled l e h k w = v_mul {x = to_z w64 (of_z w64 k)} {y = to_z w64 e} (v_back w64 {z = k} (v_abs {z = k} w)) (v_nat w64 e h)

product_fits : {l : Limits} {e : ℕ} → Narrow l → e ≤ l.scale → (k : ℤ) → nat_abs k ≤ largest l → SFits w64 (to_z w64 (of_z w64 k) *ℤ to_z w64 e)
product_fits {l} {e} n h k w = fits (scaled l e h k w) (scaled_fits l n)

product_is : {l : Limits} {e : ℕ} → Narrow l → e ≤ l.scale → (k : ℤ) → nat_abs k ≤ largest l
    → to_z w64 (of_z w64 (to_z w64 (of_z w64 k) *ℤ to_z w64 e)) ≡ k *ℤ pos e
product_is {l} {e} n h k w = back w64 (scaled l e h k w) (scaled_fits l n)

pub overflow_mul-l : goal.overflow_mul-l
overflow_mul-l c = product_fits c.args.l.narrow c.requires c.args.l.limits.left (left_size c.args.l.limits)

pub overflow_mul-l-2 : goal.overflow_mul-l-2
overflow_mul-l-2 c = product_fits c.args.l.narrow c.requires c.args.l.limits.right (right_size c.args.l.limits)

pub overflow_mul-l-then-is_between : goal.overflow_mul-l-then-is_between
overflow_mul-l-then-is_between c = product_fits c.args.l.narrow c.requires c.args.l.limits.foot (foot_size c.args.l.limits)

pub overflow_mul-l-then-is_between-2 : goal.overflow_mul-l-then-is_between-2
overflow_mul-l-then-is_between-2 c = product_fits c.args.l.narrow c.requires c.args.l.limits.top (top_size c.args.l.limits)

-- what the first call says
in_x : (c : After-is_between) → c.is_between.result ≡ between (c.args.l.limits.left *ℤ pos c.args.d.e) c.args.d.x (c.args.l.limits.right *ℤ pos c.args.d.e)
in_x c =
    let left = product_is c.args.l.narrow c.requires c.args.l.limits.left (left_size c.args.l.limits) in
    let right = product_is c.args.l.narrow c.requires c.args.l.limits.right (right_size c.args.l.limits) in
    let x : to_z w64 (of_z w64 c.args.d.x) ≡ c.args.d.x = search rules in
    c.is_between.ensures ∙ (λ i. between (left i) (x i) (right i))

pub returns-then-is_between : goal.returns-then-is_between
unfolding centre_in_box
returns-then-is_between c =
    let foot = product_is c.args.l.narrow c.requires c.args.l.limits.foot (foot_size c.args.l.limits) in
    let top = product_is c.args.l.narrow c.requires c.args.l.limits.top (top_size c.args.l.limits) in
    let y : to_z w64 (of_z w64 c.args.d.y) ≡ c.args.d.y = search rules in
    pass (sym (in_x (goal.at.returns-then-is_between c).After-is_between) ∙ c.if-is_between.true)
    (c.is_between-then-is_between.ensures ∙ (λ i. between (foot i) (y i) (top i)))

pub returns-else-is_between : goal.returns-else-is_between
unfolding centre_in_box
returns-else-is_between c = c.if-is_between.false ∙ stop _ (sym (in_x (goal.at.returns-else-is_between c).After-is_between) ∙ c.if-is_between.false)
