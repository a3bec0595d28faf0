-- The theory: a square is held, or keeps to a box, exactly where its corners are or do; and the smallest disk over all possible tracings is that of the
-- squares' corners.
pub mod Convex
pub mod Boxes
pub mod Smallest
