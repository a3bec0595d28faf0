pub mod Boundary
pub mod SearchFinds
pub mod Kept
