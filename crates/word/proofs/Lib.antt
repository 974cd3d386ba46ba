pub mod Rows
pub mod RoundTrips
pub mod Unique
pub mod Cases
