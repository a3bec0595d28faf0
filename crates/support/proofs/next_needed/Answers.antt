use mathlib.Core.Path.{◌≡◌, sym, ap, ◌∙◌}
use mathlib.Core.Logic.{inl, inr}
use mathlib.Core.Bool.{Bool, false, not}
use Prim.Native.Nat.{ℕ, ◌+◌, ◌≤◌, ◌<◌}
use native.Mathlib.Nat.{eq-or-lt_of_le}
use native.Mathlib.Omega.{arith}
use mir.Syntax.{w16}
use mir.Val.{SFits, to_z, of_z}
use mir.Facts.{to_z-of_z}
use Rattle.integers.proofs.Tests.{stop, pass, both}
use Rattle.geometry.specs.declared.Point.{Point}
use Rattle.geometry.specs.Plane.{Disk, numbers}
use Rattle.geometry.specs.Points.{point_at}
use Rattle.support_tests.specs.Tests.{on_boundary_test}
use Rattle.support_span.specs.declared.Span.{Span}
use Rattle.support_span.specs.Span.{strictly_within}
use Rattle.support.specs.Needed.{needed}
use Rattle.support.proofs.next_needed.Goals as goal
use Rattle.support.proofs.next_needed.Goals.{else-not-is_spanned-via-then-not-is_spanned+else-on_boundary, else-not-is_spanned-via-else-not-is_spanned}

-- what fails from i on, and at k, fails up to k + 1
one_more : (test : ℕ → Bool) {i k : ℕ} → ((j : ℕ) → i ≤ j → j < k → test j ≡ false) → test k ≡ false
    → (j : ℕ) → i ≤ j → j < k + 1 → test j ≡ false
one_more test {i} {k} h e j a b =
    let l : j ≤ k = omega arith in
    elim (eq-or-lt_of_le l) [ inl p ↦ rw p e | inr q ↦ h j a q ]

-- what the tests of the point that was read say of the point in the list
spanned_is : (s : Span) {p q : Point} {r b : Bool} → SFits w16 q.x → q ≡ p → r ≡ strictly_within s (to_z w16 (of_z w16 q.x)) → r ≡ b
    → strictly_within s p.x ≡ b
spanned_is s {p} {q} f read e h = ap (strictly_within s) (sym (to_z-of_z f ∙ ap (λ (o : Point). o.x) read)) ∙ sym e ∙ h

on_is : (d : Disk) {p q : Point} {r b : Bool} → q ≡ p → r ≡ on_boundary_test d q → r ≡ b → on_boundary_test d p ≡ b
on_is d read e h = ap (on_boundary_test d) (sym read) ∙ sym e ∙ h

pub returns-then-on_boundary : goal.returns-then-on_boundary
returns-then-on_boundary c =
    let spanned = spanned_is c.args.span (record { sfits = c.struct_told-1.given.0.1 }) c.point_at-p.ensures c.is_spanned.ensures c.if-not-is_spanned.true in
    record {
      from = omega arith;
      most = omega arith;
      passed = c.loop-k.invariant;
      found = λ h. both (ap not spanned) (on_is (numbers c.args.disk) c.point_at-p.ensures c.on_boundary.ensures c.if-on_boundary.true);
    }

pub loop-k-preserved : goal.loop-k-preserved
loop-k-preserved c =
    let d = numbers c.args.disk in
    let p = point_at c.args.list.now c.loop-k.k in
    let fits : SFits w16 c.point_at-p.result.x = record { sfits = c.struct_told-1.given.0.1 } in
    let not_needed : needed d c.args.span p ≡ false =
    elim c.else-not-is_spanned.branch [
      | else-not-is_spanned-via-then-not-is_spanned+else-on_boundary w ↦ sym (pass (ap not (spanned_is c.args.span fits c.point_at-p.ensures c.is_spanned.ensures w.if-not-is_spanned.true))
          (sym (on_is d c.point_at-p.ensures w.on_boundary.ensures w.if-on_boundary.false)))
      | else-not-is_spanned-via-else-not-is_spanned w ↦ sym (stop (on_boundary_test d p) (ap not (spanned_is c.args.span fits c.point_at-p.ensures c.is_spanned.ensures w.if-not-is_spanned.false)))
    ] in
    one_more (λ (j : ℕ). needed d c.args.span (point_at c.args.list.now j)) c.loop-k.invariant not_needed

pub returns : goal.returns
returns c =
    record { from = c.requires.0; most = omega arith; passed = λ j a b. c.loop-k.invariant j a (omega arith); found = λ h. absurd (omega arith) }
