pub mod Fitting
-- of inner contracts
pub mod Decides
