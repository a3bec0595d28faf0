pub mod Placing
pub mod Rests
