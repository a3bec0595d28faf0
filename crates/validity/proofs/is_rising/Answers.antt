-- `validity::is_rising` meets its contract: of three points, each test is one of `rising`'s row.
use mathlib.Core.Path.{◌≡◌, sym, ap, ◌∙◌}
use borrow.Author.Rules.{rules}
use Rattle.integers.proofs.Tests.{pass, last_test}
use Rattle.geometry.specs.declared.SupportSet.{SupportSet}
use Rattle.geometry.specs.Plane.{members}
use Rattle.geometry.specs.Order.{before}
use Rattle.point_lists.specs.Rising.{rising}
use Rattle.validity.proofs.is_rising.Goals as goal

pub returns-then-lt : goal.returns-then-lt
unfolding rising before
returns-then-lt c =
    let first : c.lt-in-Three.result ≡ before c.in-Three.a c.in-Three.b = search rules in
    let second : c.lt-then-lt.result ≡ before c.in-Three.b c.in-Three.c = search rules in
    pass (sym first ∙ c.if-lt.true) (second ∙ last_test _) ∙ ap (λ (t : SupportSet). rising (members t)) (sym c.in-Three.is)
