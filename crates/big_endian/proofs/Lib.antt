pub mod FieldLaws
pub mod ByteLists
pub mod Stores
pub mod Joined
pub mod Parts
