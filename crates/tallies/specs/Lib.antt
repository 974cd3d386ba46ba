pub mod Counts
pub mod Tallies
pub mod Counted
pub mod Printed
pub mod Balance
pub mod Parts
