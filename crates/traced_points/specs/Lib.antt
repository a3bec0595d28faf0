pub mod Traced
-- of inner contracts
pub mod Checks
