-- Limits with which no step of the tests overflows, and limits that keep to others.
--
--   Narrow l       == a limit of the box, E and their product fit signed numbers of 64 bits, E² unsigned ones
--   Narrower l m   == the limits l keep to the limits m: what a record by l holds, one by m can hold (proofs/Wider.antt)
use Rattle.std.specs.Prelude.{◌*◌, ◌^◌, ◌≤◌, ◌<◌, T, ltb}
use Rattle.integers.specs.Order.{◌≼◌}
use Rattle.geometry.specs.declared.Limits.{Limits}
use Rattle.geometry.specs.EmBox.{largest}

pub record Narrow (l : Limits) : Type 0 where
  pub box_fits : T (ltb (largest l) (2 ^ 63))
  pub scale_fits : T (ltb l.scale (2 ^ 63))
  pub centre_fits : T (ltb (largest l * l.scale) (2 ^ 63))
  pub squared_fits : l.scale * l.scale < 2 ^ 64

pub record Narrower (l m : Limits) : Type 0 where
  pub left_within : m.left ≼ l.left
  pub right_within : l.right ≼ m.right
  pub foot_within : m.foot ≼ l.foot
  pub top_within : l.top ≼ m.top
  pub scale_within : l.scale ≤ m.scale
  pub square_within : l.square ≤ m.square
