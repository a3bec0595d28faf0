pub mod Exact
pub mod Finite
