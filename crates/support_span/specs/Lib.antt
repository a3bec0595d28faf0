-- of inner contracts
pub mod Span
