-- `engine::all_in_em_box` meets its contract. The loop's invariant: all points are in the box exactly where those before are, as `all` says, and
-- those that are left.
use mathlib.Core.Path.{◌≡◌}
use mathlib.Core.Bool.{◌&&◌}
use Rattle.geometry.specs.EmBox.{all_in_em_box}
use Rattle.geometry.specs.Points.{points}
use Rattle.engine.proofs.all_in_em_box.Given as goal

abbrev pub invariant-loop-p : goal.invariant-loop-p
invariant-loop-p l = all_in_em_box (points l.list) ≡ l.all && all_in_em_box (points l.p-iterator.0.now)
