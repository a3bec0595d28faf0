pub mod Words
pub mod Grammar
