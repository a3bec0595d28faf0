pub mod Appending
-- of inner contracts
pub mod Judging
