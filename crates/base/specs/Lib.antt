pub mod Pick
pub mod Bits
pub mod Below
pub mod Refusals
pub mod Samples
pub mod Claims
pub mod Lent
pub mod Unique
