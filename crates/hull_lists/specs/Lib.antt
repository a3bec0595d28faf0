pub mod Enclosed
