-- of inner contracts
pub mod Place
