pub mod Belonging
