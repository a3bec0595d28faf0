pub mod Gcd
pub mod LowestTerms
pub mod Reduced
pub mod Quotient
