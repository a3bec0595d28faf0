pub mod NearlyMet
pub mod Apart
pub mod Rounding
pub mod Reading
pub mod TruePreview
