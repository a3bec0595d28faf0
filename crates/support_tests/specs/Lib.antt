-- of inner contracts
pub mod Tests
