pub mod Support
pub mod Disks
pub mod Code
