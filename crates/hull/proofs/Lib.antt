-- The theory of the convex hull.
--
--   Turns       left turns, and points in a row
--   Unique      a list has one hull (hull-unique)
-- `hull_of` gives it
--   Pushed      a point put in front of a chain
--   Directions  the rising and the falling order, along which chains go
--   Joined      two chains with the same ends go round a polygon, or are a row
--   HullOf      `hull_of P` is the hull of P (hull-of), and nothing else is (hullOf-only)
--   Different   no corner stands twice, so a hull has no more points than the list (hull-length)
--   Skimmed     a chain over fewer points: those left out cannot be corners (skim-chained)
--   TwoSides    the chains of the lowest and of the highest points are the hull (two-sides)
-- what the hull says of the list
--   Means       every point of the list is a mean of corners (mean)
--   Extreme     no corner is a mean of other points (extreme)
--   Convex      disks and means: held where the points are
--   SameDisk    the list and its hull have the same smallest disk and first support set (disk-of-hull, support-of-hull)
pub mod Turns
pub mod Unique
pub mod Pushed
pub mod Directions
pub mod Joined
pub mod HullOf
pub mod Different
pub mod Skimmed
pub mod TwoSides
pub mod Means
pub mod Extreme
pub mod Convex
pub mod SameDisk
