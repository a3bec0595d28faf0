pub mod ValidAnswer
pub mod Whole
