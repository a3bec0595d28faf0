-- `relative_disks::circle_about` meets its contract: no step overflows, so the machine's numbers are those of `circle_about`.
use Prim.Native.Nat.{zero, suc, ◌≤◌}
use mathlib.Core.Path.{◌≡◌, refl, sym, ap, ◌∙◌}
use mathlib.Core.Bool.{true, false, true≢false}
use lib.IntN.{ℤ, pos, negsuc, ◌-ℤ◌, ◌*ℤ◌}
use native.Mathlib.Omega.{arith}
use borrow.Author.Tests.{le-leb, leb-true}
use lib.Signed.{lt_z}
use mir.Syntax.{w64}
use mir.Val.{to_z}
use mir.Facts.{Fits-of_z, to_z_inj}
use Rattle.integers.proofs.Bounds.{machine, t_lt, fits, reads_as, tests_as}
use Rattle.integers.proofs.Laws.{zero-+}
use Rattle.relative_disks.proofs.RelativeLaws.{same_numbers, circle_by}
use Rattle.relative_disks.proofs.circle_about.Goals as goal
use Rattle.relative_disks.proofs.circle_about.Goals.{Else-e-eq0, Then-e-eq0}

pub overflow_mul-e : goal.overflow_mul-e
overflow_mul-e c = fits (search machine depth 60 fits 9000) tt

pub overflow_mul-e-2 : goal.overflow_mul-e-2
overflow_mul-e-2 c = fits (search machine depth 60 fits 9000) tt

pub overflow_sub-e : goal.overflow_sub-e
overflow_sub-e c = fits (search machine depth 60 fits 9000) tt

pub overflow_mul-e-3 : goal.overflow_mul-e-3
overflow_mul-e-3 c = fits (search machine depth 60 fits 9000) tt

pub overflow_mul-u : goal.overflow_mul-u
overflow_mul-u c = fits (search machine depth 60 fits 9000) tt

pub overflow_mul-u-2 : goal.overflow_mul-u-2
overflow_mul-u-2 c = fits (search machine depth 60 fits 9000) tt

pub overflow_add-u : goal.overflow_add-u
overflow_add-u c = fits (search machine depth 60 fits 9000) tt

pub overflow_mul-v : goal.overflow_mul-v
overflow_mul-v c = fits (search machine depth 60 fits 9000) tt

pub overflow_mul-v-2 : goal.overflow_mul-v-2
overflow_mul-v-2 c = fits (search machine depth 60 fits 9000) tt

pub overflow_add-v : goal.overflow_add-v
overflow_add-v c = fits (search machine depth 60 fits 9000) tt

pub overflow_mul-gx : goal.overflow_mul-gx
overflow_mul-gx c = fits (search machine depth 60 fits 9000) tt

pub overflow_mul-gx-2 : goal.overflow_mul-gx-2
overflow_mul-gx-2 c = fits (search machine depth 60 fits 9000) tt

pub overflow_sub-gx : goal.overflow_sub-gx
overflow_sub-gx c = fits (search machine depth 60 fits 9000) tt

pub overflow_mul-gy : goal.overflow_mul-gy
overflow_mul-gy c = fits (search machine depth 60 fits 9000) tt

pub overflow_mul-gy-2 : goal.overflow_mul-gy-2
overflow_mul-gy-2 c = fits (search machine depth 60 fits 9000) tt

pub overflow_sub-gy : goal.overflow_sub-gy
overflow_sub-gy c = fits (search machine depth 60 fits 9000) tt

pub overflow_sub-result : goal.overflow_sub-result
overflow_sub-result c = fits (search machine depth 60 fits 9000) tt

pub overflow_sub-result-then-e-lt0 : goal.overflow_sub-result-then-e-lt0
overflow_sub-result-then-e-lt0 c = fits (search machine depth 60 fits 9000) tt

pub overflow_sub-result-then-e-lt0-2 : goal.overflow_sub-result-then-e-lt0-2
overflow_sub-result-then-e-lt0-2 c = fits (search machine depth 60 fits 9000) tt

-- the two tests, of the definition's e
abbrev e : ℤ → ℤ → ℤ → ℤ → ℤ
e ux uy vx vy = pos 2 *ℤ (ux *ℤ vy -ℤ uy *ℤ vx)

negative_only : (z : ℤ) → lt_z z (pos 0) ≡ true → lt_z (pos 0) z ≡ false
negative_only (pos n) h = let none : suc n ≤ 0 = leb-true (suc n) 0 h in absurd (omega arith)
negative_only (negsuc n) h = refl

positive_else : (z : ℤ) → (z ≡ pos 0 → ⊥) → lt_z z (pos 0) ≡ false → lt_z (pos 0) z ≡ true
positive_else (pos zero) n h = absurd (n refl)
positive_else (pos (suc k)) n h = le-leb 1 (suc k) (omega arith)
positive_else (negsuc k) n h = absurd (true≢false h)

in_a_row : (c : Then-e-eq0) → e c.args.ux c.args.uy c.args.vx c.args.vy ≡ pos 0
in_a_row c = sym (reads_as (search machine depth 60 fits 9000) tt) ∙ ap (to_z w64) c.if-e-eq0.true

not_in_a_row : (c : Else-e-eq0) → e c.args.ux c.args.uy c.args.vx c.args.vy ≡ pos 0 → ⊥
not_in_a_row c z = c.if-e-eq0.false (to_z_inj (Fits-of_z (overflow_mul-e-3 c.before)) (omega arith) (reads_as (search machine depth 60 fits 9000) tt ∙ z))

pub returns-then-e-eq0 : goal.returns-then-e-eq0
returns-then-e-eq0 c =
    let a = c.args in
    let none = in_a_row (goal.at.returns-then-e-eq0 c).Then-e-eq0 in
    same_numbers
    (reads_as (search machine depth 60 fits 9000) tt)
    (reads_as (search machine depth 60 fits 9000) tt)
    (reads_as (search machine depth 60 fits 9000) tt)
    refl
    refl
    ∙ circle_by a.qx a.qy a.ux a.uy a.vx a.vy false false (ap (lt_z (pos 0)) none) (ap (λ (z : ℤ). lt_z z (pos 0)) none)

pub returns-then-e-lt0 : goal.returns-then-e-lt0
returns-then-e-lt0 c =
    let a = c.args in
    let negative : lt_z (e c.args.ux c.args.uy c.args.vx c.args.vy) (pos 0) ≡ true = sym (tests_as (search (machine, t_lt) depth 60 fits 9000) tt) ∙ c.if-e-lt0.true in
    same_numbers
    (reads_as (search machine depth 60 fits 9000) tt ∙ zero-+ _)
    (reads_as (search machine depth 60 fits 9000) tt)
    (reads_as (search machine depth 60 fits 9000) tt)
    (reads_as (search machine depth 60 fits 9000) tt ∙ zero-+ _)
    (reads_as (search machine depth 60 fits 9000) tt ∙ zero-+ _)
    ∙ circle_by a.qx a.qy a.ux a.uy a.vx a.vy false true (negative_only (e c.args.ux c.args.uy c.args.vx c.args.vy) negative) negative

pub returns : goal.returns
returns c =
    let a = c.args in
    let not_negative : lt_z (e c.args.ux c.args.uy c.args.vx c.args.vy) (pos 0) ≡ false = sym (tests_as (search (machine, t_lt) depth 60 fits 9000) tt) ∙ c.if-e-lt0.false in
    same_numbers
    (reads_as (search machine depth 60 fits 9000) tt)
    (reads_as (search machine depth 60 fits 9000) tt)
    (reads_as (search machine depth 60 fits 9000) tt)
    (reads_as (search machine depth 60 fits 9000) tt)
    (reads_as (search machine depth 60 fits 9000) tt)
    ∙ circle_by a.qx a.qy a.ux a.uy a.vx a.vy true _ (positive_else (e c.args.ux c.args.uy c.args.vx c.args.vy) (not_in_a_row (goal.at.returns c).Else-e-eq0) not_negative) refl
