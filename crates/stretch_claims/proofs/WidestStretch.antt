-- Document 02, item 11 holds (specs/WidestStretch.antt).
--
--   widest_given   : what is given is the widest stretch of the list's points
--   in_box         : how far apart two points of the em box can be
--   widest_stretch : WidestStretch
use mathlib.Core.Path.{◌≡◌, refl, sym, ap, ◌∙◌, subst}
use mathlib.Core.List.{List, [], ◌∷◌}
use Prim.Native.Nat.{ℕ, ◌≤◌}
use lib.IntN.{ℤ, pos, negsuc, ◌-ℤ◌}
use Rattle.answers.specs.Outcome.{given}
use Rattle.answers.proofs.OutcomeLaws.{both_given, given_same, refused_first}
use Rattle.integers.specs.Order.{◌≼◌}
use Rattle.integers.proofs.Ring.{poly}
use Rattle.integers.proofs.Order.{le_pos, nonneg, le, ◌⊞◌, ◌⊠◌}
use Rattle.geometry.specs.declared.Point.{Point}
use Rattle.geometry.specs.EmBox.{em, Inside}
use Rattle.geometry.specs.Points.{points}
use Rattle.point_lists.specs.Sets.{In}
use Rattle.disks.specs.Procedure.{norm}
use Rattle.engine.specs.Engine.{Enclosure, enclose_of}
use Rattle.engine.proofs.Accepted.{accepted_list, has_point}
use Rattle.stretches.specs.declared.Stretch.{Stretch}
use Rattle.stretches.specs.Widest.{apart, Widest, widest_of}
use Rattle.stretches.proofs.Found.{widest_of_lem, widest_unique, widest_alone}
use Rattle.stretches.proofs.Corners.{apart_is}
use Rattle.stretches.proofs.Jung.{jung_most, jung_least}
use Rattle.widest_stretch.specs.Stretching.{stretch_of}
use Rattle.widest_stretch.proofs.Answers.{refused_answer, given_answer}
use Rattle.rules.specs.Row.{AllKept}
use Rattle.rules.specs.Rules.{engine_row}
use Rattle.rules.proofs.Calls as calls
use Rattle.claims.proofs.Demand2.{demand_two}
use Rattle.stretch_claims.specs.WidestStretch.{WidestStretch}

-- ---- the stretch of a list that the engine accepts

widest_points : (P : List Point) → (P ≡ [] → ⊥) → Widest P (widest_of P)
widest_points [] some = absurd (some refl)
widest_points (p ∷ P) some = widest_of_lem p P

of_accepted : (l : List ℤ) (e : Enclosure) → enclose_of l ≡ given e → Widest (points l) (widest_of (points l))
of_accepted l e h = let a = accepted_list l e h in widest_points (points l) (has_point l a.even a.some)

widest_given : (l : List ℤ) (s : Stretch) → stretch_of l ≡ given s → AllKept (engine_row l) × Widest (points l) s
widest_given l s k =
    let (e, (h, g)) = both_given (enclose_of l) _ s k in
    ((calls.engine l).taken.0 (e, h), subst (Widest (points l)) (given_same g) (of_accepted l e h))

given_widest : (l : List ℤ) (s : Stretch) → AllKept (engine_row l) → Widest (points l) s → stretch_of l ≡ given s
given_widest l s k w =
    let (e, h) = (calls.engine l).taken.1 k in
    given_answer l h ∙ ap given (widest_unique (of_accepted l e h) w)

single : (l : List ℤ) (p : Point) → AllKept (engine_row l) → ((q : Point) → In q (points l) → q ≡ p)
    → stretch_of l ≡ given (record { a = p; b = p; w = 0 })
single l p k f =
    let (e, h) = (calls.engine l).taken.1 k in
    given_answer l h ∙ ap given (widest_alone p f (of_accepted l e h))

-- ---- in the em box

-- x and y of one point are at most 2,048 from those of the other: (2048 − d)(2048 + d) is not negative
in_range : (ax ay bx by : ℤ) → pos 0 ≼ ax → ax ≼ pos 2048 → negsuc 511 ≼ ay → ay ≼ pos 1536
    → pos 0 ≼ bx → bx ≼ pos 2048 → negsuc 511 ≼ by → by ≼ pos 1536
    → norm (bx -ℤ ax) (by -ℤ ay) ≼ pos 8388608
in_range ax ay bx by al ar af at bl br bf bt = nonneg (ax ∷ ay ∷ bx ∷ by ∷ [])
    ((le al ⊞ le br) ⊠ (le ar ⊞ le bl) ⊞ (le af ⊞ le bt) ⊠ (le at ⊞ le bf)) (search poly depth 30) tt

in_box : (p q : Point) → Inside em p → Inside em q → apart p q ≤ 8388608
in_box p q i j = le_pos (subst (λ (z : ℤ). z ≼ pos 8388608) (sym (apart_is p q)) (in_range p.x p.y q.x q.y
    i.from_left i.to_right i.from_foot i.to_top j.from_left j.to_right j.from_foot j.to_top))

limit : (l : List ℤ) (s : Stretch) → stretch_of l ≡ given s → s.w ≤ 8388608
limit l s k =
    let (kept, w) = widest_given l s k in
    let inside = kept.1.1.1.0 in
    subst (λ (n : ℕ). n ≤ 8388608) (sym w.w_is) (in_box s.a s.b (inside s.a w.a_in) (inside s.b w.b_in))

pub widest_stretch : WidestStretch
widest_stretch = record {
  widest = λ l s. (widest_given l s, λ k. given_widest l s k.0 k.1);
  squared = apart_is;
  single = single;
  at_most = λ l s e k h. jung_most (demand_two.engine l e h).smallest (widest_given l s k).1;
  at_least = λ l s e k h. jung_least (points l) (demand_two.engine l e h).smallest (widest_given l s k).1;
  refusals = λ l n. (refused_first (enclose_of l) (widest_of (points l)), refused_answer l);
  limit = limit;
}
