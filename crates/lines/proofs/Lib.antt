pub mod OneKind
pub mod Front
pub mod Words
pub mod Lines
