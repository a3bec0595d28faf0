-- of inner contracts
pub mod Ran
