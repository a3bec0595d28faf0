pub mod Judging
pub mod Loading
pub mod AcceptedTexts
