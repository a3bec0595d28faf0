-- The convex hull of a list of points, by its property and as a definition that computes; points within it.
pub mod Hull
pub mod Chains
pub mod Means
-- of inner contracts
pub mod Skimmed
