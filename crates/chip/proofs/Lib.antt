pub mod Closed
mod Masks
mod Rows
pub mod Digits
pub mod Shapes
pub mod Valid
pub mod Quiet
pub mod OneScan
pub mod Meanings
pub mod Lost
pub mod Once
pub mod Again
pub mod Cases
pub mod Bars
pub mod Unique
pub mod Held
