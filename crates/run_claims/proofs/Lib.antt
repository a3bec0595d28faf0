pub mod Glyphs
pub mod Passes
pub mod SheetRun
