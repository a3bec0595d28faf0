-- A point from a drawing program, put behind the points of a list (02, item 2).
--
--   place_of p            == the point that p names: its two whole numbers, or those that its two floats stand for; else 11
--   taken_of p list n     == the point that is put behind the first n points of the list, or the refusal due first
--   append_of p list n    == what the call answers: the new number of points, or the refusal
--   list_after p list n   == what the lent list holds after the call
--
-- The points that are there already are not looked at.
use Rattle.std.specs.Prelude.{ℕ, suc, ◌*◌, not, List, ◌∷◌, ◌++◌, leb, ltb, ℤ, length, take, drop}
use Rattle.answers.specs.Outcome.{Outcome, given, refused, refuse_if, and_then}
use Rattle.geometry.specs.declared.Point.{Point}
use Rattle.geometry.specs.EmBox.{in_em_box}
use Rattle.whole_floats.specs.Whole.{whole_of}
use Rattle.drawn_points.specs.declared.DrawnPoint.{DrawnPoint}
use Rattle.drawn_points.specs.declared.DrawnPoint.TheVariants.{Whole, Drawn}

abbrev pub place_of : DrawnPoint → Outcome Point
place_of (Whole x y) = given (record { x = x; y = y })
place_of (Drawn x y) = and_then (whole_of x) (λ a. and_then (whole_of y) (λ b. given (record { x = a; y = b })))

-- "Checks: 8 first, as for the loader; 11 for a NaN, an infinity or a float with a fraction in x or y; then 3; then 4 when 4,096 or more are there"
unfoldable pub taken_of : DrawnPoint → List ℤ → ℕ → Outcome Point
taken_of p list n =
    refuse_if (ltb (length list) 8192) 8
    (and_then (place_of p) (λ c.
    refuse_if (not (in_em_box c)) 3
    (refuse_if (leb 4096 n) 4
    (given c))))

-- "returns the new number"
abbrev pub append_of : DrawnPoint → List ℤ → ℕ → Outcome ℕ
append_of p list n = and_then (taken_of p list n) (λ c. given (suc n))

-- "puts the corner behind them, leaves the rest"; refused, all as it was
abbrev pub put_behind : Outcome Point → List ℤ → ℕ → List ℤ
put_behind (given c) list n = take (2 * n) list ++ c.x ∷ c.y ∷ drop (2 * suc n) list
put_behind (refused k) list n = list

abbrev pub list_after : DrawnPoint → List ℤ → ℕ → List ℤ
list_after p list n = put_behind (taken_of p list n) list n
