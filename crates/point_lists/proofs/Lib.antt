pub mod Sets
pub mod SamePoint
pub mod SetTests
pub mod Order
pub mod Rising
pub mod Put
pub mod Copied
