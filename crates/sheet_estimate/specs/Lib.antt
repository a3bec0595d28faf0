pub mod Estimating
-- of the inner contract
pub mod Listed
