pub mod WholeLaws
pub mod Sizes
pub mod NearLaws
