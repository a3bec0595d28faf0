pub mod Numeral
-- of inner contracts
pub mod Places
