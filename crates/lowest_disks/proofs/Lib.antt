pub mod ShiftedTerms
