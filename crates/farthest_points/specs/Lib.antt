-- of inner contracts
pub mod Reach
