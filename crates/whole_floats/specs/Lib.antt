pub mod Whole
-- of inner contracts
pub mod Near
