pub mod Commands
pub mod Numbers
pub mod TwoWires
pub mod Panels
pub mod Settings
