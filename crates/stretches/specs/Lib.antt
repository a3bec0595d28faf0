-- The widest stretch of a list of points, by its property and as a definition that computes.
pub mod Widest
