pub mod Numbers
pub mod SetTests
