pub mod Directory
pub mod Rows
pub mod Follow
