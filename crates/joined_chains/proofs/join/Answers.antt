-- `joined_chains::join` meets its contract.
use mathlib.Core.Path.{◌≡◌, sym, ap, ap₂, ◌∙◌}
use mathlib.Core.List.{List, ◌++◌}
use Prim.Native.Nat.{ℕ, ◌+◌, ◌*◌, ◌-◌}
use native.Mathlib.Omega.{arith}
use lib.IntN.{ℤ, pos}
use lib.ListN.{length, length-append, replicate}
use Rattle.geometry.specs.declared.Point.{Point}
use Rattle.geometry.specs.Points.{points}
use Rattle.joined_chains.specs.Laid.{joined}
use Rattle.joined_chains.proofs.Joining.{points_even, laid_numbers}
use Rattle.joined_chains.proofs.join.Goals as goal
use Rattle.joined_chains.proofs.join.Goals.{After-inner-inside}

size_is : (c : After-inner-inside) → length c.args.lower.now + length c.inner-inside.result.now ≡ 2 * length (joined c.args.lower.now c.args.upper.now)
size_is c =
    let all : length (points c.args.lower.now) + length (points c.inner-inside.result.now) ≡ length (joined c.args.lower.now c.args.upper.now) =
    sym (length-append (points c.args.lower.now) (points c.inner-inside.result.now))
    ∙ ap (λ (Q : List Point). length (points c.args.lower.now ++ Q)) c.inner-inside.ensures.0 in
    omega
    (arith, all, points_even c.args.lower.now c.requires.even.0, points_even c.inner-inside.result.now c.inner-inside.ensures.1)

pub split_at_mut-front-requires : goal.split_at_mut-front-requires
split_at_mut-front-requires c = omega (arith, size_is (goal.at.split_at_mut-front-requires c).After-inner-inside, c.requires.room)

pub split_at_mut-middle-requires : goal.split_at_mut-middle-requires
split_at_mut-middle-requires c =
    omega (arith, size_is (goal.at.split_at_mut-middle-requires c).After-inner-inside, c.requires.room, c.split_at_mut-front.ensures.back_len)

pub returns-clause-size : goal.returns-clause-size
returns-clause-size c = omega (arith, size_is (goal.at.returns-clause-size c).After-inner-inside)

pub returns-clause-left : goal.returns-clause-left
returns-clause-left c =
    let lower = c.args.lower.now in
    let inside = c.inner-inside.result.now in
    let n = length c.args.list.now in
    let rest : length c.split_at_mut-middle.result.1.now ≡ n - (length lower + length inside) =
    omega (arith, c.split_at_mut-middle.ensures.back_len, c.split_at_mut-front.ensures.back_len) in
    ap₂ (λ (a r : List ℤ). a ++ r) c.copy_from_slice.ensures.after
    (ap₂ (λ (b r : List ℤ). b ++ r) c.copy_from_slice-2.ensures.after
    (c.fill.ensures.after (λ y e. e) ∙ ap (λ (k : ℕ). replicate k (pos 0)) rest))
    ∙ laid_numbers lower inside (joined lower c.args.upper.now) n c.requires.even.0 c.inner-inside.ensures.1
    (ap (λ (Q : List Point). points lower ++ Q) c.inner-inside.ensures.0)
