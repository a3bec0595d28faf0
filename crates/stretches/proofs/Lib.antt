-- The theory of the widest stretch.
--
--   Better    the order of stretches
--   Found     `widest_of` is the widest stretch (widest-of), and there is only one (widest-unique)
--   Corners   the widest stretch of a list is that of its hull (widest-of-hull)
--   Jung      Jung's bound (jung-most, jung-least)
pub mod Better
pub mod Found
pub mod Corners
pub mod Jung
