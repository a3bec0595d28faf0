pub mod Steps
-- of inner contracts
pub mod Inner
