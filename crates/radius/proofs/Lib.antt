pub mod RadiusLaws
