pub mod Running
-- of inner contracts
pub mod Ready
