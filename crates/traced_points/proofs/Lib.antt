-- Laws; the proofs of the functions are in the folders of their names.
pub mod Narrower
pub mod Checks
pub mod Laid
