-- Laws; the proofs of the functions are in the folders of their names.
pub mod Choice
pub mod Fitting
