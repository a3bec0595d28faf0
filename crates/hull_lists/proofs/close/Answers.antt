-- `hull_lists::close` meets its contract, in its two cases.
use mathlib.Core.Path.{◌≡◌, sym, ap, ◌∙◌}
use mathlib.Core.List.{List, [], ◌∷◌, ◌++◌}
use Prim.Native.Nat.{◌+◌, ◌-◌}
use native.Mathlib.Omega.{arith}
use Rattle.geometry.specs.declared.Point.{Point}
use Rattle.hull_chains.specs.Spans.{span}
use Rattle.hull_lists.specs.Enclosed.{closed}
use Rattle.hull_chains.proofs.Spanning.{span_last, put_behind_lem}
use Rattle.hull_lists.proofs.Closing.{closed_kept, closed_more}
use mir.Syntax.{w16}
use mir.Val.{to_z, of_z}
use mir.Facts.{to_z-of_z}
use Rattle.hull_lists.proofs.close.Goals as goal

pub returns-then-e-p : goal.returns-then-e-p
returns-then-e-p c =
    let n = c.args.n in
    let l = c.args.list.now in
    let e = c.point_at-e.result in
    let p = c.args.p in
    let same : e.y ≡ p.y =
    sym (to_z-of_z {w = w16} (record { sfits = c.struct_told-1.given.1.0.1 })) ∙ ap (to_z w16) c.if-e-p.true
    ∙ to_z-of_z {w = w16} (record { sfits = c.struct_told-2-1.given.1.0.1 }) in record {
      size = (omega arith, omega arith);
      left = λ j h.
          let last : span j n l ≡ span j (n - 1) l ++ (e ∷ []) = span_last j n l h (omega (arith, c.requires.0))
          ∙ ap (λ (q : Point). span j (n - 1) l ++ (q ∷ [])) (sym c.point_at-e.ensures) in
          last ∙ sym (ap (λ (Q : List Point). closed Q p) last ∙ closed_kept e p (span j (n - 1) l) same);
    }

pub returns : goal.returns
returns c =
    let n = c.args.n in
    let l = c.args.list.now in
    let e = c.point_at-e.result in
    let p = c.args.p in
    let differ : e.y ≡ p.y → ⊥ = λ same. c.if-e-p.false (ap (of_z w16) same) in record {
      size = (omega arith, omega arith);
      left = λ j h.
          let last : span j n l ≡ span j (n - 1) l ++ (e ∷ []) = span_last j n l h (omega (arith, c.requires.0))
          ∙ ap (λ (q : Point). span j (n - 1) l ++ (q ∷ [])) (sym c.point_at-e.ensures) in
          ap (span j (n + 1)) c.put_point.ensures ∙ put_behind_lem l n p j (omega (arith, h)) c.requires.0
          ∙ ap (λ (Q : List Point). Q ++ (p ∷ [])) last ∙ sym (ap (λ (Q : List Point). closed Q p) last ∙ closed_more e p (span j (n - 1) l) differ);
    }
