pub mod Reading
pub mod TruePreview
