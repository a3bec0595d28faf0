pub mod EmBox
pub mod Plane
pub mod Points
pub mod Order
