-- What the code that puts the hull of a list in its place cites.
--
--   Boxed l          == what the code asks of a list: an even length, at least one point, all in the em box
--   closed Q p       == the points Q with p behind them, unless the last of them is as high
--   enclosed A B     == the hull from the lowest points A, which rise, and the highest points B, which fall: each list closed by the first
--                       point of the other, and their chains, the second without its ends
--   enclosed_by m lows highs == the hull from the m lowest points in front of `lows` and the m highest ones at the end of `highs`, as the columns'
--                       points are written
use Rattle.std.specs.Prelude.{◌≡◌, Bool, true, false, List, [], ◌∷◌, ◌++◌, ℕ, ◌-◌, ◌%◌, ◌≤◌, ℤ, length}
use Rattle.integers.specs.Order.{eq_z}
use Rattle.geometry.specs.declared.Point.{Point}
use Rattle.geometry.specs.EmBox.{all_in_em_box}
use Rattle.geometry.specs.Points.{points}
use Rattle.hull.specs.Chains.{inner}
use Rattle.hull.specs.Skimmed.{skim_chain}
use Rattle.hull_chains.specs.Spans.{span}
use Rattle.columns.specs.Columns.{column_count}

pub record Boxed (l : List ℤ) : Type 0 where
  pub even : length l % 2 ≡ 0
  pub some : 2 ≤ length l
  pub boxed : all_in_em_box (points l) ≡ true

unfoldable pub closed : List Point → Point → List Point
closed [] p = p ∷ []
closed (q ∷ []) p = pick (eq_z q.y p.y)
  where
    pick : Bool → List Point
    pick true = q ∷ []
    pick false = q ∷ p ∷ []
closed (q ∷ r ∷ l) p = q ∷ closed (r ∷ l) p

unfoldable pub enclosed : List Point → List Point → List Point
enclosed [] B = []
enclosed (a ∷ A) [] = []
enclosed (a ∷ A) (z ∷ B) = skim_chain (closed (a ∷ A) z) ++ inner (skim_chain (closed (z ∷ B) a))

abbrev pub enclosed_by : ℕ → List ℤ → List ℤ → List Point
enclosed_by m lows highs = enclosed (span 0 m lows) (span (column_count - m) column_count highs)
