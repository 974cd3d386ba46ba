pub mod Lines
pub mod Frames
pub mod Puts
pub mod Each
pub mod Hex
pub mod Texts
pub mod Unique
