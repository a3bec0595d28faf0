pub mod Placing
pub mod StepLaws
