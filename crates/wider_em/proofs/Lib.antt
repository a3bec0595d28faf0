pub mod WiderEm
