pub mod Text
pub mod Raw
pub mod Streams
pub mod Held
pub mod Steps
pub mod Parts
pub mod Cut
pub mod Same
