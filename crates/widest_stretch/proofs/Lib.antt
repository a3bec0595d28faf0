pub mod Answers
pub mod Kept
