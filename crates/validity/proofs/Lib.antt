pub mod ValidLaws
pub mod Wider
