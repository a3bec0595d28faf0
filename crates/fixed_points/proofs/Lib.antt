-- Laws; the proofs of the functions are in the folders of their names.
pub mod Offsets
pub mod KeptDisks
pub mod OnBoundary
