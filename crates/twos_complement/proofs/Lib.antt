pub mod TwosLaws
