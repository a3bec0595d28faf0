pub mod Totals
pub mod SheetEstimate
