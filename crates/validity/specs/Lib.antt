pub mod Valid
-- of inner contracts
pub mod Narrow
