-- The point that a drawing program names.
--
--   paired                   == two coordinates, one after the other, as `place_of` has them
--   place_names, names_place : `place_of p` gives c exactly where p names c
--   named-once               : a point names one point
--   placed                   : the call's check 11 goes by its rule
use mathlib.Core.Path.{◌≡◌, refl, sym, ap, ap₂, ◌∙◌}
use mathlib.Core.Logic.{◌⊎◌, inl, inr}
use mathlib.Core.Bool.{true, true≢false}
use mathlib.Core.List.{[], ◌∷◌}
use lib.IntN.{ℤ}
use Rattle.answers.specs.Outcome.{Outcome, given, refused, and_then}
use Rattle.answers.proofs.OutcomeLaws.{not_given, given_same, same_given}
use Rattle.geometry.specs.declared.Point.{Point}
use Rattle.point_lists.proofs.Sets.{point_path}
use Rattle.whole_floats.specs.Whole.{StandsFor, whole_of}
use Rattle.whole_floats.proofs.WholeLaws.{whole_stands, stands_whole, whole-or-broken}
use Rattle.drawn_points.specs.declared.DrawnPoint.{DrawnPoint}
use Rattle.drawn_points.specs.declared.DrawnPoint.TheVariants.{Whole, Drawn}
use Rattle.drawn_points.specs.Appending.{place_of}
use Rattle.rules.specs.Row.{◌unless◌, GoesBy}
use Rattle.rules.specs.Rules.{Names}
use Rattle.rules.proofs.RowLaws.{row_end, row_step, rule_kept}

abbrev pub paired : Outcome ℤ → Outcome ℤ → Outcome Point
paired o q = and_then o (λ a. and_then q (λ b. given (record { x = a; y = b })))

pub place_names : (p : DrawnPoint) (c : Point) → place_of p ≡ given c → Names p c
place_names (Whole x y) c h = (ap (λ (q : Point). q.x) (given_same h), ap (λ (q : Point). q.y) (given_same h))
place_names (Drawn x y) c h = go (whole_of x) (whole_of y) refl refl h
  where
    go : (o q : Outcome ℤ) → whole_of x ≡ o → whole_of y ≡ q → paired o q ≡ given c → StandsFor x c.x × StandsFor y c.y
    go (given a) (given b) e f h = (
      whole_stands x c.x (e ∙ ap given (ap (λ (r : Point). r.x) (given_same h))),
      whole_stands y c.y (f ∙ ap given (ap (λ (r : Point). r.y) (given_same h))),
    )
    go (given a) (refused n) e f h = absurd (not_given h)
    go (refused m) q e f h = absurd (not_given h)

pub names_place : (p : DrawnPoint) (c : Point) → Names p c → place_of p ≡ given c
names_place (Whole x y) c h = ap given (point_path h.0 h.1)
names_place (Drawn x y) c h = ap₂ paired (stands_whole x c.x h.0) (stands_whole y c.y h.1)

place-or-broken : (p : DrawnPoint) → ((c : Point) × (place_of p ≡ given c)) ⊎ (place_of p ≡ refused 11)
place-or-broken (Whole x y) = inl (record { x = x; y = y }, refl)
place-or-broken (Drawn x y) = go (whole-or-broken x) (whole-or-broken y)
  where
    go : ((z : ℤ) × (whole_of x ≡ given z)) ⊎ (whole_of x ≡ refused 11) → ((z : ℤ) × (whole_of y ≡ given z)) ⊎ (whole_of y ≡ refused 11)
        → ((c : Point) × (paired (whole_of x) (whole_of y) ≡ given c)) ⊎ (paired (whole_of x) (whole_of y) ≡ refused 11)
    go (inl a) (inl b) = inl (record { x = a.0; y = b.0 }, ap₂ paired a.1 b.1)
    go (inl a) (inr f) = inr (ap₂ paired a.1 f)
    go (inr e) g = inr (ap (λ (o : Outcome ℤ). paired o (whole_of y)) e)

pub named-once : (p : DrawnPoint) (c d : Point) → place_of p ≡ given c → Names p d → c ≡ d
named-once p c d e m = same_given e (names_place p d m)

pub placed : (p : DrawnPoint) → GoesBy (11 unless ((c : Point) × Names p c) ∷ []) (place_of p)
placed p = go (place-or-broken p)
  where
    none : place_of p ≡ refused 11 → ((c : Point) × Names p c) → ⊥
    none e c = not_given (sym e ∙ names_place p c.0 c.1)

    go : ((c : Point) × (place_of p ≡ given c)) ⊎ (place_of p ≡ refused 11) → GoesBy (11 unless ((c : Point) × Names p c) ∷ []) (place_of p)
    go (inl w) = rw w.1 (rule_kept 11 (w.0, place_names p w.0 w.1) (row_end w.0))
    go (inr w) = rw w (row_step true 11 {rest = refused 11} (λ t c. none w c) (λ f. absurd (true≢false f)) (λ c. absurd (none w c)))
