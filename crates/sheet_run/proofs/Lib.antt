pub mod Glyphs
pub mod Reached
pub mod Rows
