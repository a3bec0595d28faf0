-- Whole numbers as contracts speak of them. The laws, a solver for identities and inequalities, and bounds of machine numbers are in proofs/.
pub mod Order
pub mod Least
