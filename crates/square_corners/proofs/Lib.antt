-- Laws; the proofs of the functions are in the folders of their names.
pub mod Threes
pub mod FourCorners
