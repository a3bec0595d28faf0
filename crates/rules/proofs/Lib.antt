pub mod RowLaws
pub mod Recordables
pub mod Sheets
pub mod Lines
pub mod Drawings
pub mod Calls
