pub mod Sums
pub mod Told
pub mod Rows
