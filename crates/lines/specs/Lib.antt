pub mod Line
-- of inner contracts
pub mod LineAt
