-- of inner contracts
pub mod Search
