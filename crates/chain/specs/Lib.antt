pub mod Chain
pub mod Finder
pub mod Entries
pub mod Stretch
pub mod Still
pub mod Events
pub mod Blocks
