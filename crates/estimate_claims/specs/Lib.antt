pub mod SheetEstimate
