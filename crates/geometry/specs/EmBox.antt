-- The em box, and how large the numbers of a disk in it can be (01, "What the engine holds", "Disk and rim", with the figures of 02, item 10). This is the one
-- home of these limits.
--
--   em               == x from 0 to 2048, y from −512 to 1536; E at most 8,388,608 and S/E² at most 2,097,152
--   old_em            == document 01's own figures, which records of 45 bytes keep: x from 0 to 1000, y from −250 to 750; E at most 2,000,000 and S/E² at
--                       most 500,000
--   left_of_box        == a number to the left of the em box, where the procedure's empty disk has its point
--   in_box l p        == p lies in the box of the limits l
--   all_in_box l ps    == every point of ps does
--   in_em_box, all_in_em_box == the same for the em box
--   Inside l p       == p lies in the box, by its four inequalities (proofs/EmBox.antt: the test holds where and only where this does)
--   WithinLimits l d == the disk d keeps to the limits l: E, S/E², and the centre in the box
--   largest l        == how large a coordinate in the box can be, in size: what inner contracts ask of numbers
use Rattle.std.specs.Prelude.{Bool, true, ◌&&◌, List, [], ◌∷◌, ℕ, ◌*◌, ◌≤◌, max, ℤ, pos, negsuc, nat_abs, ◌*ℤ◌}
use Rattle.integers.specs.Order.{◌≼◌, between}
use Rattle.geometry.specs.declared.Point.{Point}
use Rattle.geometry.specs.declared.Limits.{Limits}
use Rattle.geometry.specs.Plane.{Disk}

abbrev pub em : Limits
em = record { left = pos 0; right = pos 2048; foot = negsuc 511; top = pos 1536; scale = 8_388_608; square = 2_097_152 }

abbrev pub old_em : Limits
old_em = record { left = pos 0; right = pos 1000; foot = negsuc 249; top = pos 750; scale = 2_000_000; square = 500_000 }

abbrev pub left_of_box : ℤ
left_of_box = negsuc 0

unfoldable pub in_box : Limits → Point → Bool
in_box l p = between l.left p.x l.right && between l.foot p.y l.top

unfoldable pub all_in_box : Limits → List Point → Bool
all_in_box l [] = true
all_in_box l (p ∷ ps) = in_box l p && all_in_box l ps

abbrev pub in_em_box : Point → Bool
in_em_box p = in_box em p

abbrev pub all_in_em_box : List Point → Bool
all_in_em_box ps = all_in_box em ps

pub record Inside (l : Limits) (p : Point) : Type 0 where
  pub from_left : l.left ≼ p.x
  pub to_right : p.x ≼ l.right
  pub from_foot : l.foot ≼ p.y
  pub to_top : p.y ≼ l.top

pub record WithinLimits (l : Limits) (d : Disk) : Type 0 where
  pub e_most : d.e ≤ l.scale
  pub s_most : d.s ≤ l.square * (d.e * d.e)
  -- left ≤ X/E ≤ right and foot ≤ Y/E ≤ top
  pub x_low : l.left *ℤ pos d.e ≼ d.x
  pub x_high : d.x ≼ l.right *ℤ pos d.e
  pub y_low : l.foot *ℤ pos d.e ≼ d.y
  pub y_high : d.y ≼ l.top *ℤ pos d.e

abbrev pub largest : Limits → ℕ
largest l = max (max (nat_abs l.left) (nat_abs l.right)) (max (nat_abs l.foot) (nat_abs l.top))
