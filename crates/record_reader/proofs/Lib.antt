pub mod Meaning
pub mod RecordFields
pub mod RoundTrip
