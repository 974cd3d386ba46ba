pub mod Settings
pub mod Reading
pub mod Putting
pub mod Printing
pub mod OneText
