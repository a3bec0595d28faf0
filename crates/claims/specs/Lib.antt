pub mod Demand1
pub mod Demand2
pub mod Demand3
pub mod FromFixed
pub mod Values
pub mod Whole
