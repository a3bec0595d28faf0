pub mod Description
-- of inner contracts
pub mod Verdict
