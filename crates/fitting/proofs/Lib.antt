-- Laws; the proofs of the functions are in the folders of their names.
pub mod Decided
pub mod FrontDisks
pub mod Fronts
