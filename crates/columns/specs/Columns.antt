-- The columns of the em box, one for each x, and the lowest and highest point of a list in each.
--
--   kept_at f l x y         == l with f of what stands at place x, and y, at place x
--   at x y                 == the point (x, y)
--   Column P x lo hi       == lo and hi are the least and greatest y that points of P have in the column x: none, or two points of P
--   Columns P low high     == `low` and `high` are those numbers of all columns
--   Seen P seen            == of the groups of 16 columns, every one that a point of P lies in is marked
--   column_point x lo hi y  == the point (x, y), where lo and hi name points of a column
--   side k low high ys     == these points of the first k columns, with the heights ys
--   Written k m low high lows highs == of the first k columns, the m lowest points stand rising in front of `lows`, and the highest ones falling
--                             at the end of `highs`, but for the room of one more point
--
--   column_count, group_count, side_length == how many columns and groups there are, and the numbers of `lows` and of `highs`: room for a point of each column
--                             and one more
--
-- There are 129 groups, 2,064 columns, of which the em box has the first 2,049.
use Rattle.std.specs.Prelude.{◌≡◌, Bool, true, false, List, [], ◌∷◌, ◌++◌, reverse, ℕ, zero, suc, ◌+◌, ◌-◌, ◌*◌, ◌/◌, ◌<◌, ℤ, pos, negsuc, nat_abs, length, get_or, set}
use Rattle.std.specs.Int.Signed.{lt_z}
use Rattle.integers.specs.Order.{◌≼◌}
use Rattle.geometry.specs.declared.Point.{Point}
use Rattle.point_lists.specs.Sets.{In}
use Rattle.hull_chains.specs.Spans.{span}

abbrev pub group_count : ℕ
group_count = 129

abbrev pub column_count : ℕ
column_count = 16 * group_count

abbrev pub side_length : ℕ
side_length = 2 * column_count + 2

abbrev pub kept_at : (ℤ → ℤ → ℤ) → List ℤ → ℕ → ℤ → List ℤ
kept_at f l x y = set l x (f (get_or l x (pos 0)) y)

abbrev pub at : ℕ → ℤ → Point
at x y = record { x = pos x; y = y }

pub data Column (P : List Point) (x : ℕ) (lo hi : ℤ) : Type 0 where
  none : lo ≡ pos 32767 → hi ≡ negsuc 32767 → Column P x lo hi
  some : In (at x lo) P → In (at x hi) P → Column P x lo hi

pub record Columns (P : List Point) (low high : List ℤ) : Type 0 where
  pub low_size : length low ≡ column_count
  pub high_size : length high ≡ column_count
  pub low_most : (p : Point) → In p P → get_or low (nat_abs p.x) (pos 0) ≼ p.y
  pub high_least : (p : Point) → In p P → p.y ≼ get_or high (nat_abs p.x) (pos 0)
  pub column : (x : ℕ) → x < column_count → Column P x (get_or low x (pos 0)) (get_or high x (pos 0))

pub record Seen (P : List Point) (seen : List Bool) : Type 0 where
  pub groups : length seen ≡ group_count
  pub marked : (p : Point) → In p P → get_or seen (nat_abs p.x / 16) false ≡ true

unfoldable pub column_point : ℤ → ℤ → ℤ → ℤ → List Point
column_point x lo hi y = pick (lt_z hi lo)
  where
    pick : Bool → List Point
    pick true = []
    pick false = record { x = x; y = y } ∷ []

unfoldable pub side : ℕ → List ℤ → List ℤ → List ℤ → List Point
side zero low high ys = []
side (suc k) low high ys = side k low high ys ++ column_point (pos k) (get_or low k (pos 0)) (get_or high k (pos 0)) (get_or ys k (pos 0))

pub record Written (k m : ℕ) (low high lows highs : List ℤ) : Type 0 where
  pub lows_size : length lows ≡ side_length
  pub highs_size : length highs ≡ side_length
  pub count : m ≡ length (side k low high low)
  pub lowest : span 0 m lows ≡ side k low high low
  pub highest : span (column_count - m) column_count highs ≡ reverse (side k low high high)
