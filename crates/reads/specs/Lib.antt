pub mod Notes
pub mod Reads
pub mod Parts
pub mod Till
