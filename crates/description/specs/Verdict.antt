-- What the answers of the loader's inner functions say.
--
--   Kept       == the points are kept at the front of the list
use Rattle.std.specs.Prelude.{ℕ, ◌≤◌, ◌*◌, ◌≡◌, List, ℤ, take, Result, Ok, Err}
use Rattle.answers.specs.declared.Refusal.{Refusal}
use Rattle.geometry.specs.declared.Point.{Point}
use Rattle.geometry.specs.Points.{flat}

-- the points ps are kept at the front of the list
abbrev pub Kept : Result ℕ Refusal → List ℤ → List Point → Type 0
Kept (Ok n) l ps = (take (2 * n) l ≡ flat ps) × (n ≤ 4096)
Kept (Err r) l ps = Unit {0}
