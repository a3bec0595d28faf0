-- of inner contracts
pub mod Power
