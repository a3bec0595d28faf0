-- `farthest_points::is_ahead` meets its contract: the order of pairs is that of the first points, and where these are equal that of the second ones.
use mathlib.Core.Path.{◌≡◌, refl, ap₂, ◌∙◌}
use mathlib.Core.Bool.{Bool, ◌&&◌, ◌||◌}
use Rattle.std.proofs.Common.{rules, Option, None, Some, Ordering, Less, Equal, Greater}
use Rattle.std.specs.Ordering.{is_some_and, is_lt, is_eq, partial_ordering_then}
use Rattle.geometry.specs.declared.Point.{Point}
use Rattle.geometry.specs.Order.{before}
use Rattle.geometry.specs.contracts.PointPartialOrd.TheImpl.{ghosts}
use Rattle.point_lists.specs.Sets.{same}
use Rattle.stretches.specs.Widest.{ahead}
use Rattle.farthest_points.proofs.is_ahead.Goals as goal

abbrev compared : Point → Point → Option Ordering
compared = ghosts.partial_cmp

by_first : (o r : Option Ordering) → is_some_and is_lt (partial_ordering_then o r) ≡ is_some_and is_lt o || (is_some_and is_eq o && is_some_and is_lt r)
by_first None r = refl
by_first (Some Less) r = refl
by_first (Some Equal) r = refl
by_first (Some Greater) r = refl

is_before : (p q : Point) → is_some_and is_lt (compared p q) ≡ before p q
unfolding before
is_before p q = search rules

is_same : (p q : Point) → is_some_and is_eq (compared p q) ≡ same p q
unfolding same
is_same p q = search rules

pub returns : goal.returns
unfolding ahead
returns c =
    let s = c.args.s in
    let t = c.args.t in
    c.lt.ensures ∙ by_first (compared s.a t.a) (compared s.b t.b)
    ∙ ap₂ (λ (b r : Bool). b || r) (is_before s.a t.a) (ap₂ (λ (e r : Bool). e && r) (is_same s.a t.a) (is_before s.b t.b))
