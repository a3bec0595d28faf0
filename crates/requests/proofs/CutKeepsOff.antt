-- The cut keeps off every point (specs/CutKeepsOff.antt).
--
--   off_held            : a circle that clears the disk keeps off every point that it holds
--   clears_all          : a circle that keeps off every point clears their smallest disk
--   rule_off, off_rule  : for the smallest disk of points, the rule of S and what it says of the points are one
--   cut_keeps_off       : CutKeepsOff
use mathlib.Core.Path.{◌≡◌, subst}
use mathlib.Core.Logic.{◌↔◌}
use mathlib.Core.Bool.{false}
use mathlib.Core.List.Memᴰ
use mathlib.Core.List.{List, [], ◌∷◌}
use Prim.Native.Nat.{ℕ, ◌*◌, ◌<◌}
use native.Mathlib.Nat.{mul-le-mul}
use native.Mathlib.Omega.{arith}
use lib.Dec.{T}
use lib.IntN.{ℤ, pos, ◌-ℤ◌, ◌*ℤ◌}
use lib.Ieee.Exact.{HasValue}
use Rattle.answers.specs.Outcome.{given}
use Rattle.integers.specs.Order.{◌≼◌, ◌≺◌}
use Rattle.integers.proofs.Ring.{poly}
use Rattle.integers.proofs.Order.{pos_le, le_pos, <_to_≤, ≤_to_<, ≤-<_trans, nonneg, nonneg_by, nn, le, lt, ◌⊠◌}
use Rattle.geometry.specs.declared.Point.{Point}
use Rattle.geometry.specs.Plane.{Disk, distance, holds}
use Rattle.geometry.specs.Points.{points}
use Rattle.point_lists.specs.Sets.{In}
use Rattle.disks.specs.Smallest.{RationalDisk, Fits, Smallest}
use Rattle.disks.proofs.StrongSmallest.{some_positive}
use Rattle.engine.specs.Engine.{Enclosure, enclose_of}
use Rattle.letter.proofs.ValidAnswer.{checked_enclosure}
use Rattle.radius.specs.Radius.{radius_of}
use Rattle.preview.specs.declared.Preview.{Preview}
use Rattle.preview.specs.Preview.{preview_of}
use Rattle.rules.proofs.Recordables.{checked_rules}
use Rattle.claims.specs.Values.{LeastRadius}
use Rattle.requests.specs.CutKeepsOff.{Off, LeastOff, CutKeepsOff}
use Rattle.claims.proofs.Demand2.{engine_right}
use Rattle.claims.proofs.Values.{all_values, least_same}
use Rattle.claims.proofs.Whole.{whole_way}

off_held : (d : Disk) (r : ℕ) → d.s < r * r * (d.e * d.e) → (p : Point) → T (holds d p) → Off d r p
unfolding holds
off_held d r h p held = ≤-<_trans {b = pos d.s} (record { le = held }) (≤_to_< (pos_le (omega (arith, h))))

-- ---- a circle that keeps off every point: a disk about the same centre, a little smaller than the circle, holds them all, and none that does is
-- smaller than the smallest

scaled : (k n m : ℤ) → pos 0 ≼ k → n ≺ m → k *ℤ n ≼ (m -ℤ pos 1) *ℤ k
scaled k n m h l = nonneg (k ∷ n ∷ m ∷ []) (h ⊠ lt l) (search poly depth 30) tt

unscaled : (k n m : ℤ) → pos 0 ≺ k → n *ℤ k ≼ (m -ℤ pos 1) *ℤ k → n ≺ m
unscaled k n m h l = ≤_to_< (nonneg_by (k ∷ n ∷ m ∷ []) k h (le l) (search poly depth 30) tt)

module _ {P : List Point} {d : Disk} (m : Smallest P d) (r : ℕ) where
  -- the squared radius is a step of 1/E² below r²
  abbrev below : RationalDisk
  below = record {
    x = d.x;
    y = d.y;
    e = d.e;
    a = pos (r * r * (d.e * d.e)) -ℤ pos 1;
    b = d.e * d.e;
    e_some = m.proper;
    b_some = mul-le-mul m.proper m.proper;
  }

  below-fits : ((p : Point) → In p P → Off d r p) → Fits below P []
  below-fits off = record {
    holds_all = λ p i. scaled (pos (d.e * d.e)) (distance d p) (pos (r * r * (d.e * d.e))) (nn (d.e * d.e)) (off p i);
    through_all = λ q i. absurd (Memᴰ.not-nil i);
  }

  clears_all : ((p : Point) → In p P → Off d r p) → d.s < r * r * (d.e * d.e)
  clears_all off =
      let l = unscaled (pos (d.e * d.e)) (pos d.s) (pos (r * r * (d.e * d.e))) (some_positive below.b_some) (m.least below (below-fits off)) in
      omega (arith, le_pos (<_to_≤ l))

rule_off : {P : List Point} {d : Disk} (r : ℕ) → Smallest P d → LeastRadius d r → LeastOff P d r
rule_off {P} {d} r m k = record {
  off = λ p i. off_held d r k.clears p (m.holds_all p i);
  least = λ q off. k.least q (clears_all m q off);
}

off_rule : {P : List Point} {d : Disk} (r : ℕ) → Smallest P d → LeastOff P d r → LeastRadius d r
off_rule {P} {d} r m k = record {
  clears = clears_all m r k.off;
  least = λ q h. k.least q (λ p i. off_held d q h p (m.holds_all p i));
}

-- ---- the calls

list : (l : List ℤ) (e : Enclosure) → enclose_of l ≡ given e → (r : ℕ) → (radius_of e.disk e.support ≡ given r) ↔ LeastOff (points l) e.disk r
list l e h r =
    let smallest = (engine_right l e h).smallest in
    let rules = checked_rules e.disk e.support (checked_enclosure l e h) in
    let rule = all_values.radius e.disk e.support r in (
      λ g. rule_off r smallest (rule.0 g).2,
      λ k. rule.1 (rules.0, rules.1, off_rule r smallest k),
    )

preview : (d : Disk) (ps : List Point) (r : ℕ) (p : Preview) → radius_of d ps ≡ given r → preview_of d ps ≡ given p → HasValue p.radius false r 1
preview d ps r p g h =
    let right = ((all_values.preview d ps p).0 h).2 in
    subst (λ (n : ℕ). HasValue p.radius false n 1)
    (least_same d right.whole r right.is_least ((all_values.radius d ps r).0 g).2) right.radius_exact

pub cut_keeps_off : CutKeepsOff
cut_keeps_off = record {
  held = λ d ps r g. off_held d r ((all_values.radius d ps r).0 g).2.clears;
  list = list;
  description = λ t l b a h. let m = whole_way.means t l b a h in rule_off a.radius m.smallest m.least;
  preview = preview;
}
