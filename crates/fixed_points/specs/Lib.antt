-- of inner contracts
pub mod Boundary
