pub mod Boxes
pub mod Behind
